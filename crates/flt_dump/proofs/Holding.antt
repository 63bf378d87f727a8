-- What was judged of an image, by a driver on which no operation failed.
use Rattle.std.proofs.Common.{◌≡◌, ◌≢◌, ⊎_elim, ℕ, List, Option, Some, None, Result, Ok, Err, refl, sym, ◌∙◌, ap}
use Rattle.std.specs.Prelude.{IfOk, IsErrOf}
use Rattle.std.specs.Result.{MatchResult, IsOkAnd}
use Rattle.flt_flash.specs.State.{HasRisenBy}
use Rattle.flt_flash.specs.Blocks.{BlocksState}
use Rattle.flt_config.specs.declared.config.Config.{Config}
use Rattle.flt_config.specs.declared.persist.Persist.{Persist}
use Rattle.flt_store_model.specs.Holding.{Generation, Fault, damaged, other, held}
use Rattle.flt_store_model.specs.declared.place.Place.TheVariants.{Page}
use Rattle.flt_restore.specs.Restored.{IsJudged, IsRestored, Refuses, generation}
use Rattle.flt_restore.specs.declared.commit.CommitCopy.{CommitCopy}
use Rattle.flt_restore.specs.declared.commit.Restored.{Restored}
use Rattle.flt_restore.specs.declared.fault.StartFault.{StartFault}
use Rattle.flt_restore.specs.declared.fault.StartFault.TheVariants.{Flash, Damaged, OtherConfig, SequenceSpent}
use Rattle.flt_store_model.specs.Image.{image_blocks, image_damage, image_held}
use Rattle.flt_store_model.specs.Whole.{unless_damaged}
use Rattle.flt_dump.specs.Held.{copy_generation, number_told}

-- The pages are at fault.
pub told_damage : (c : Config) (image : List (List (List ℕ))) (sector page : ℕ) → image_damage c image ≡ Some (sector, page) → Err (Damaged (Page sector page)) ≡ number_told c (image_held c image)
told_damage c image sector page at = sym (ap (λ (damage : Option (ℕ × ℕ)). number_told c (unless_damaged damage (held c (image_blocks c image)))) at)

number_is : (c : Config) (found : Option CommitCopy) (state : Persist) → Ok (copy_generation found) ≡ number_told c (Ok (generation found state))
number_is c None state = refl
number_is c (Some found) state = refl

module _ (c : Config) (image : List (List (List ℕ))) (before after : BlocksState) (fine : image_damage c image ≡ None)
    (same : (number : ℕ) → before.value number ≡ image_blocks c image number) (few : HasRisenBy 3 before.device.faults after.device.faults → ⊥) where
  held_is : image_held c image ≡ held c before.value
  held_is =
      let values : image_blocks c image ≡ before.value = λ i number. sym (same number) i in
      ap (λ (damage : Option (ℕ × ℕ)). unless_damaged damage (held c (image_blocks c image))) fine ∙ ap (held c) values

  judged_is : (judged : Result Generation Fault) → IsJudged c before after judged → image_held c image ≡ judged
  judged_is judged = ⊎_elim (λ by_first. held_is ∙ by_first) (λ by_second. absurd (few by_second.2))

  -- A generation is held.
  told_found : (found : Option CommitCopy) (state : Persist) → IsRestored c before after found state → Ok (copy_generation found) ≡ number_told c (image_held c image)
  told_found found state = ⊎_elim
      (λ by_first. number_is c found state ∙ sym (ap (number_told c) (held_is ∙ by_first.0)))
      (λ by_second. absurd (few by_second.3))

  -- None is.
  told_fault : (fault : StartFault) → Refuses c before after fault → fault ≢ SequenceSpent → Err fault ≡ number_told c (image_held c image)
  told_fault Flash refuses other_fault = absurd (few refuses)
  told_fault (Damaged place) refuses other_fault = sym (ap (number_told c) (judged_is (Err (damaged place)) refuses))
  told_fault (OtherConfig found wanted) refuses other_fault =
      ap (λ mark. Err (OtherConfig found mark)) refuses.1 ∙ sym (ap (number_told c) (judged_is (Err (other found)) refuses.0))
  told_fault SequenceSpent refuses other_fault = absurd (other_fault refl)

  -- What was judged is reported, with the number of what was found.
  pub told_judged : (judged : Result Restored StartFault) (told : Result ℕ StartFault) (state : Persist) (Counts : Restored → ℕ → Type 0)
      → ((found : Restored) (number : ℕ) → Counts found number → number ≡ copy_generation found.commit)
      → MatchResult judged (λ found. IsOkAnd told (Counts found)) (λ fault. told ≡ Err fault)
      → IfOk judged (λ found. IsRestored c before after found.commit state)
      → ((fault : StartFault) → judged ≡ Err fault → Refuses c before after fault) → ¬ IsErrOf judged SequenceSpent → told ≡ number_told c (image_held c image)
  told_judged (Ok found) (Ok number) state Counts counts cases restored refused unspent = ap Ok (counts found number cases) ∙ told_found found.commit state restored
  told_judged (Ok found) (Err fault) state Counts counts cases restored refused unspent = absurd cases
  told_judged (Err fault) told state Counts counts cases restored refused unspent = cases ∙ told_fault fault (refused fault refl) (λ spent. unspent (ap Err spent))
