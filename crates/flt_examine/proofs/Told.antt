-- What is reported about an image, by what it was found to hold.
use Rattle.std.proofs.Common.{◌≡◌, ◌≢◌, ℕ, [], ◌∷◌, ◌++◌, Result, Ok, Err, refl, ◌∙◌, ap}
use Rattle.std.specs.Prelude.{codes}
use Rattle.std.specs.Fmt.{decimal}
use Rattle.flt_config.specs.declared.config.Config.{Config}
use Rattle.flt_store_model.specs.Holding.{Generation, Fault, damaged, other}
use Rattle.flt_life_model.specs.declared.life.Boot.TheVariants.{Refused}
use Rattle.flt_report.specs.Boot.{boot_text}
use Rattle.flt_restore.specs.Judging.{told_as}
use Rattle.flt_restore.specs.declared.fault.StartFault.{StartFault}
use Rattle.flt_restore.specs.declared.fault.StartFault.TheVariants.{Flash}
use Rattle.flt_dump.specs.Held.{number_told}
use Rattle.flt_examine.specs.Inspection.{boot_told, generation_line, held_status}

-- A fault of the flash is reported about no image.
pub never_flash : (c : Config) (judged : Result Generation Fault) → number_told c judged ≢ Err Flash
never_flash c (Ok g) is = cc is
never_flash c (Err (damaged place)) is = cc is
never_flash c (Err (other mark)) is = cc is

number_line : (number : ℕ) → generation_line number ≡ codes "generation " ++ decimal number ++ 10 ∷ []
unfolding generation_line
number_line number = refl

-- A generation of this number is held.
pub number_is_told : (c : Config) (judged : Result Generation Fault) (number : ℕ) → Ok number ≡ number_told c judged
    → (0 ≡ held_status judged) × (generation_line number ≡ boot_text (boot_told c judged) ++ 10 ∷ [])
number_is_told c (Ok g) number is =
    let same : number ≡ g.number = cc is in
    (refl, number_line number ∙ ap (λ (n : ℕ). codes "generation " ++ decimal n ++ 10 ∷ []) same)
number_is_told c (Err fault) number is = absurd (cc is)

-- None is, for this reason.
pub fault_is_told : (c : Config) (judged : Result Generation Fault) (fault : StartFault) → Err fault ≡ number_told c judged
    → (6 ≡ held_status judged) × (boot_text (Refused fault) ≡ boot_text (boot_told c judged))
fault_is_told c (Ok g) fault is = absurd (cc is)
fault_is_told c (Err found) fault is =
    let same : fault ≡ told_as c found = cc is in
    (refl, ap (λ (f : StartFault). boot_text (Refused f)) same)
