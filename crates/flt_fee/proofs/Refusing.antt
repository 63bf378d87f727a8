-- When a driver that is not stale refuses a record.
use Rattle.std.proofs.Common.{◌≡◌, ◌≢◌, ◌+◌, ◌-◌, ◌≤◌, ℕ, Bool, true, false, List, Option, Some, None, Result, refl, ◌∙◌, ap, arith}
use Rattle.std.specs.Prelude.{◌&&◌, not, nat_le, if◌then◌else◌, sum_by}
use Rattle.std.specs.List.{AllPairs}
use Rattle.std.proofs.lemmas.Bool.{le-leb, le-ltb}
use Rattle.flt_flash.specs.Image.{sector_at}
use Rattle.flt_flash.specs.State.{FlashState}
use Rattle.flt_flash.specs.Blocks.{BlocksState, live_pages, pages_of, record_pages}
use Rattle.flt_flash.specs.declared.blocks.BlockFault.TheVariants.{Full, SequenceSpent}
use Rattle.flt_sector_model.specs.Blocks.{Current, current, value_by}
use Rattle.flt_pages.specs.declared.current.CurrentSector.{CurrentSector}
use Rattle.flt_pages.specs.Live.{current_pages}
use Rattle.flt_pages.proofs.Counting.{live_within, log_within}
use Rattle.flt_fee.specs.Fee.{is_last, is_past, state_by}
use Rattle.flt_fee.specs.Mounted.{IsMounted}
use Rattle.flt_fee.specs.Refusal.{record_refusal}

neither : (b : Bool) → (b && false) ≡ false
neither true = refl
neither false = refl

module _ (was_stale has_mounted : Bool) (settled : was_stale ≡ false) (at : CurrentSector) (numbers : List ℕ) (before : FlashState) (end : ℕ) (least : 4 ≤ at.used)
    (distinct : AllPairs (λ a b. a ≢ b) numbers) (is : IsMounted was_stale has_mounted at numbers before.image end) where
  abbrev state : BlocksState
  state = state_by at.used numbers was_stale has_mounted before

  pub live_is : live_pages (state_by at.used numbers was_stale has_mounted before) ≡ current_pages at.used numbers (sector_at before.image at.sector)
  live_is = ap (λ (found : Result (Option Current) (ℕ × ℕ)). sum_by (λ n. pages_of (value_by at.used numbers before.image n found)) numbers) (is.current settled)

  pub end_within : end ≤ at.used
  end_within = omega (arith, log_within at.used numbers (sector_at before.image at.sector) (omega arith) (is.sound settled), is.ends settled)

  pub live_end : 2 + live_pages (state_by at.used numbers was_stale has_mounted before) ≤ end
  live_end = omega (arith, live_is, live_within at.used numbers (sector_at before.image at.sector) (omega arith) (is.sound settled) distinct, is.ends settled)

  pub past_is : (size : ℕ) → is_past at.used numbers before.image size (current at.used before.image) ≡ not (nat_le (end + record_pages size) at.used)
  past_is size = ap (is_past at.used numbers before.image size) (is.current settled) ∙ ap (λ e. not (nat_le (e + record_pages size) at.used)) (is.ends settled)

  module _ (block size : ℕ) where
    -- There is room for it.
    with_room : live_pages (state_by at.used numbers was_stale has_mounted before) + record_pages size ≤ at.used - 2 → (stuck : Bool) → state.is_stuck block size ≡ stuck
        → record_refusal (state_by at.used numbers was_stale has_mounted before) block size ≡ (if stuck then Some SequenceSpent else None)
    with_room fits stuck told =
        (λ i. if le-ltb (at.used - 2) (live_pages state + record_pages size) fits i then Some (Full (live_pages state) (record_pages size)) else if told i then Some SequenceSpent else None)

    pub fits_behind : end + record_pages size ≤ at.used → record_refusal (state_by at.used numbers was_stale has_mounted before) block size ≡ None
    fits_behind fits =
        with_room (omega (arith, live_end)) false
        (ap (λ b. is_last (current at.used before.image) && b) (past_is size ∙ ap not (le-leb (end + record_pages size) at.used fits)) ∙ neither (is_last (current at.used before.image)))
