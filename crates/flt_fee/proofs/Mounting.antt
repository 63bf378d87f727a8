-- What a driver means after a call that only read.
use Rattle.std.proofs.Common.{◌≡◌, ⊎_elim, ℕ, Bool, true, false, List, Option, Some, None, Result, Ok, Err, refl, sym, ◌∙◌, ap, subst}
use Rattle.std.specs.Prelude.{◌&&◌}
use Rattle.flt_flash.specs.Image.{sector_at}
use Rattle.flt_flash.specs.State.{FlashState, OnlyReads}
use Rattle.flt_flash.specs.Blocks.{BlocksState}
use Rattle.flt_flash.specs.Calls.{Follows}
use Rattle.flt_flash.specs.declared.blocks.BlockFault.{BlockFault}
use Rattle.flt_sector_model.specs.Log.{LogFrom, log}
use Rattle.flt_sector_model.specs.Blocks.{current, first_fault, fault_by, place_in}
use Rattle.flt_pages.specs.declared.current.CurrentSector.{CurrentSector}
use Rattle.flt_pages.specs.Told.{TellsOrFails, GivesCurrent, current_of, told_end}
use Rattle.flt_fee.specs.Fee.{is_last, is_past, state_by}
use Rattle.flt_fee.specs.Refusal.{KeepsStuck}
use Rattle.flt_fee.specs.Mounted.{IsMounted}
use Rattle.flt_fee.proofs.Composed.{follows_by}

pub end_told : (sector end found : ℕ) (fault : Option ℕ) → TellsOrFails {T = ℕ} (Ok found) (told_end sector end fault) → (fault ≡ None) × (end ≡ found)
end_told sector end found None tells = (refl, ⊎_elim (λ no. absurd (cc no)) (λ same. sym (cc same)) tells)
end_told sector end found (Some page) tells = ⊎_elim (λ no. absurd (cc no)) (λ no. absurd (cc no)) tells

module _ (used : ℕ) (numbers : List ℕ) (before after : FlashState) (reads : OnlyReads before after) where
  -- The current sector, as it was given.
  pub current_there : (at : CurrentSector) (answer : Option CurrentSector) → answer ≡ Some at → GivesCurrent used (Ok answer) (current used before.image)
      → (current used after.image ≡ Ok (Some (current_of at))) × (at.used ≡ used)
  current_there at answer is given =
      let found = subst (λ (o : Option CurrentSector). GivesCurrent used (Ok o) (current used before.image)) is given in
      (ap (current used) reads.image ∙ found.0, found.1)

  pub reading_follows : (was_stale had_mounted is_stale has_mounted : Bool) → (had_mounted ≡ true → has_mounted ≡ true)
      → Follows (state_by used numbers was_stale had_mounted before) (state_by used numbers is_stale has_mounted after)
  reading_follows was_stale had_mounted is_stale has_mounted once =
      follows_by used numbers before after reads.runs was_stale had_mounted is_stale has_mounted once (λ yes. ap (λ (image : List (List (List ℕ))). is_last (current used image)) reads.image ∙ yes)
      (λ none. ap (first_fault used numbers) reads.image ∙ none) (λ place is. reads.image)

-- The log of the current sector was found to end here.
module _ (at : CurrentSector) (numbers : List ℕ) (before after : FlashState) (reads : OnlyReads before after) (here : current at.used before.image ≡ Ok (Some (current_of at))) where
  abbrev whole : LogFrom
  whole = log at.used numbers (sector_at before.image at.sector)

  pub sound_there : (end : ℕ) → TellsOrFails {T = ℕ} (Ok end) (told_end at.sector whole.end whole.fault) → first_fault at.used numbers before.image ≡ None
  sound_there end tells = ap (fault_by at.used numbers before.image) here ∙ ap (place_in at.sector) (end_told at.sector whole.end end whole.fault tells).0

  pub resumed : (end : ℕ) → TellsOrFails {T = ℕ} (Ok end) (told_end at.sector whole.end whole.fault) → IsMounted false true at numbers after.image end
  resumed end tells =
      let found = end_told at.sector whole.end end whole.fault tells in
      record {
        mounted = λ fresh. refl;
        current = λ fresh. ap (current at.used) reads.image ∙ here;
        sound = λ fresh. ap (λ (image : List (List (List ℕ))). (log at.used numbers (sector_at image at.sector)).fault) reads.image ∙ found.0;
        undamaged = λ yes. ap (first_fault at.used numbers) reads.image ∙ sound_there end tells;
        ends = λ fresh. ap (λ (image : List (List (List ℕ))). (log at.used numbers (sector_at image at.sector)).end) reads.image ∙ found.1;
      }

-- The records that are stuck, after a look.
pub stuck_on : (used : ℕ) (numbers : List ℕ) (before middle : FlashState) → middle.image ≡ before.image → (was_stale had_mounted is_stale has_mounted : Bool) (third : BlocksState) (result : Result (Unit {0}) BlockFault)
    → KeepsStuck (state_by used numbers is_stale has_mounted middle) third result → KeepsStuck (state_by used numbers was_stale had_mounted before) third result
stuck_on used numbers before middle same was_stale had_mounted is_stale has_mounted third (Ok x) stuck = λ block size.
    stuck block size ∙ ap (λ (image : List (List (List ℕ))). is_last (current used image) && is_past used numbers image size (current used image)) same
stuck_on used numbers before middle same was_stale had_mounted is_stale has_mounted third (Err e) stuck = tt
