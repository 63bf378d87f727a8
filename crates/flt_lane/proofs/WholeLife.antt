-- A whole life on a lock, from one that took no call to the journal that it leaves.
use Rattle.std.proofs.Common.{◌≡◌, ◌+◌, List, ◌++◌, length, arith, sym, ap, subst, ◌∙◌}
use Rattle.flt_step.specs.declared.step.Step.{Step}
use Rattle.flt_turn.specs.declared.vault.Entry.{Entry}
use Rattle.flt_turn.specs.Seats.{Seated, main_seat}
use Rattle.flt_life_model.specs.Answers.{Told}
use Rattle.flt_life_model.specs.Played.{IsMade}
use Rattle.flt_fork.specs.Mixing.{Call, HasInOrder, calls_in_lane}
use Rattle.flt_fork.specs.Lived.{CouldClose}
use Rattle.flt_step.specs.Part.{PartOf}
use Rattle.flt_life_model.specs.Making.{PartsMake}
use Rattle.flt_fork.proofs.Closing.{empty_before}
use Rattle.flt_fork.proofs.Rising.{rise_lower}
use Rattle.flt_lane.specs.Block.{HasRunParts}

module _ {S O R : Type 0} (answer : S → List O → O → R) (MadeBy : Step → Told → List (Call O R) → Type 0) where
  -- The journal that a lock left has the calls of the parts.
  pub made_of : (main after : Seated S O) (parts : List (PartOf Step)) (own : List Told) (lanes : List (List Told)) (journal : List (Entry O)) → main ≡ main_seat main.lock main.start main.left
      → HasRunParts answer MadeBy main after parts own lanes → CouldClose after journal → IsMade MadeBy answer main.start parts own lanes journal
  made_of main after parts own lanes journal fresh ran whole =
      let trail = ran.lived.trails journal whole in
      let journal_is : journal ≡ trail.rest = trail.split ∙ ap (λ l. l ++ trail.rest) (empty_before main trail.before fresh trail.whole) in
      let first : main.children + 1 ≡ 1 = ap (λ (s : Seated S O). s.children + 1) fresh in
      record {
        blocks = ran.blocks;
        made = subst (λ n. PartsMake MadeBy n parts own lanes ran.blocks) first ran.made;
        in_order = subst (HasInOrder ran.blocks) (sym journal_is) trail.in_order;
        told = trail.told;
        rising = λ number. rise_lower (length trail.before) 0 (calls_in_lane number ran.blocks) (omega arith) (trail.rising number);
      }
