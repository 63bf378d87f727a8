use Rattle.std.proofs.Common.{◌∙◌, ℕ, List, [], ◌∷◌, ◌++◌, Err, sym, ap, append_assoc}
use Rattle.flt_report.specs.Boot.{boot_text}
use Rattle.flt_examine.specs.Inspection.{boot_told}
use Rattle.flt_examine.proofs.Told.{number_is_told, fault_is_told}
use Rattle.flt_examine.proofs.inspecting.put_held.Goals as goal

pub put_refused-requires : goal.put_refused-requires
put_refused-requires c = λ flash. c.requires (c.in-Err.is ∙ ap Err flash)

pub returns-in_ok-put_generation-in-Ok : goal.returns-in_ok-put_generation-in-Ok
returns-in_ok-put_generation-in-Ok c =
    λ config judged is.
    let told = number_is_told config judged c.in-Ok.number (sym c.in-Ok.is ∙ is) in
    let old = c.args.out.now.items in
    (told.0, c.in_ok-put_generation-in-Ok.ensures ∙ ap (λ (l : List ℕ). old ++ l) told.1 ∙ sym (append_assoc old (boot_text (boot_told config judged)) (10 ∷ [])))

pub returns-in_ok-put_refused-in-Err : goal.returns-in_ok-put_refused-in-Err
returns-in_ok-put_refused-in-Err c =
    λ config judged is.
    let told = fault_is_told config judged c.in-Err.fault (sym c.in-Err.is ∙ is) in
    let old = c.args.out.now.items in
    (told.0, c.in_ok-put_refused-in-Err.ensures.ok ∙ ap (λ (l : List ℕ). old ++ l ++ 10 ∷ []) told.1)
