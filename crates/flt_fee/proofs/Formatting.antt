-- What a driver means while its image holds nothing.
use Rattle.std.proofs.Common.{◌≡◌, ⊎_elim, inl, ◌≤◌, ℕ, Bool, true, false, List, None, Result, Ok, refl, sym, ◌∙◌, ap, subst}
use Rattle.std.specs.Prelude.{IsErrOf}
use Rattle.flt_flash.specs.Image.{sector_at}
use Rattle.flt_flash.specs.Content.{missing}
use Rattle.flt_flash.specs.State.{FlashState, MakesOperations, HasRisenBy}
use Rattle.flt_flash.specs.Calls.{BlockCalls, SameSpent, SameValues}
use Rattle.flt_flash.specs.declared.blocks.BlockFault.{BlockFault}
use Rattle.flt_flash.proofs.Answering.{sound_calls}
use Rattle.flt_flash.specs.declared.blocks.BlockFault.TheVariants.{Flash, Damaged}
use Rattle.flt_sector_model.specs.Blocks.{Current, current, first_fault, fault_by, value_by, block_value}
use Rattle.flt_pages.proofs.Begun.{holds_nothing}
use Rattle.flt_fee.specs.Fee.{is_last, state_by}
use Rattle.flt_pages.specs.declared.current.CurrentSector.{CurrentSector}
use Rattle.flt_pages.specs.Told.{current_of}
use Rattle.flt_pages.specs.LogHolds.{StandsAt}
use Rattle.flt_fee.specs.Mounted.{IsMounted}
use Rattle.flt_fee.proofs.Composed.{follows_by}
use Rattle.flt_pages.specs.SetUp.{IsFresh, HoldsNothing}
use Rattle.flt_fee.proofs.Standing.{stands_value, stands_sound, stands_mounted}

module _ (used : ℕ) (numbers : List ℕ) (least : 2 ≤ used) where
  fresh_stands : (image : List (List (List ℕ))) → IsFresh used image → StandsAt used numbers image 0 1 2 (λ block. missing)
  fresh_stands image is = record { current = is.current; holds = holds_nothing used numbers (sector_at image 0) least is.blank }

  pub nothing_held : (image : List (List (List ℕ))) → HoldsNothing used image → (block : ℕ) → block_value used numbers image block ≡ missing
  nothing_held image is block = ⊎_elim (λ none. ap (value_by used numbers image block) none) (λ fresh. stands_value used numbers image 0 1 2 (λ b. missing) (fresh_stands image fresh) block) is

  pub nothing_wrong : (image : List (List (List ℕ))) → HoldsNothing used image → first_fault used numbers image ≡ None
  nothing_wrong image is = ⊎_elim (λ none. ap (fault_by used numbers image) none) (λ fresh. stands_sound used numbers image 0 1 2 (λ b. missing) (fresh_stands image fresh)) is

  never_last : (image : List (List (List ℕ))) → HoldsNothing used image → is_last (current used image) ≡ false
  never_last image is = ⊎_elim (λ none. ap is_last none) (λ fresh. ap is_last fresh.current) is

  module _ (before after : FlashState) (none : current used before.image ≡ Ok None) (left : HoldsNothing used after.image) where
    pub nothing_changes : (was_stale had_mounted is_stale has_mounted : Bool) → SameValues (state_by used numbers was_stale had_mounted before) (state_by used numbers is_stale has_mounted after)
    nothing_changes was_stale had_mounted is_stale has_mounted block = nothing_held after.image left block ∙ sym (nothing_held before.image (inl none) block)

    -- The last sequence number is in use neither before nor after.
    pub nothing_spent : (was_stale had_mounted is_stale has_mounted : Bool) → SameSpent (state_by used numbers was_stale had_mounted before) (state_by used numbers is_stale has_mounted after)
    nothing_spent was_stale had_mounted is_stale has_mounted = never_last after.image left ∙ sym (never_last before.image (inl none))

    pub formatting_calls : {T : Type 0} (runs : MakesOperations before after) (was_stale had_mounted is_stale has_mounted : Bool) (result : Result T BlockFault) → (had_mounted ≡ true → has_mounted ≡ true)
        → (IsErrOf result Flash → HasRisenBy 1 before.faults after.faults) → ((sector page : ℕ) → IsErrOf result (Damaged sector page) → ⊥)
        → BlockCalls (state_by used numbers was_stale had_mounted before) (state_by used numbers is_stale has_mounted after) result
    formatting_calls runs was_stale had_mounted is_stale has_mounted result once = sound_calls result
        (follows_by used numbers before after runs was_stale had_mounted is_stale has_mounted once (λ yes. absurd (cc (ap is_last none, yes)))
        (λ sound. nothing_wrong after.image left) (λ place is. absurd (cc (nothing_wrong before.image (inl none), is)))) (nothing_wrong before.image (inl none))

-- The driver that began the first sector knows its image.
pub fresh_mounted : (at : CurrentSector) (numbers : List ℕ) (image : List (List (List ℕ))) → current_of at ≡ record { sector = 0; sequence = 1 } → IsFresh at.used image → IsMounted false true at numbers image 2
fresh_mounted at numbers image first is =
    stands_mounted true refl at numbers image 2 (λ block. missing)
    (subst (λ (here : Current). StandsAt at.used numbers image here.sector here.sequence 2 (λ block. missing)) (sym first) (fresh_stands at.used numbers at.least image is))
