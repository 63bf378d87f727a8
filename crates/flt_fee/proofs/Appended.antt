-- What a driver means once a record was appended to its log.
use Rattle.std.proofs.Common.{◌≡◌, ◌≢◌, ◌⊎◌, ⊎_elim, inl, inr, ◌+◌, ℕ, Bool, true, false, List, length, None, Result, Ok, Err, refl, sym, ◌∙◌, ap}
use Rattle.std.specs.Prelude.{if◌then◌else◌, IsErrOf}
use Rattle.std.proofs.lemmas.Bool.{eq-eqb, ne_eqb}
use Rattle.flt_flash.specs.Image.{sector_at}
use Rattle.flt_flash.specs.Content.{Content}
use Rattle.flt_flash.specs.State.{FlashState, MakesOperations, HasRisenBy}
use Rattle.flt_flash.specs.Calls.{BlockCalls, Changes}
use Rattle.flt_flash.specs.declared.flash.FlashFailed.{FlashFailed}
use Rattle.flt_flash.proofs.Answering.{sound_calls, changes_done, changes_failed}
use Rattle.flt_flash.specs.declared.blocks.BlockFault.{BlockFault}
use Rattle.flt_flash.specs.declared.blocks.BlockFault.TheVariants.{Flash, Damaged}
use Rattle.flt_pages.specs.Blank.{AreBlank}
use Rattle.flt_flash.specs.Blocks.{byte_pages}
use Rattle.flt_sector_model.specs.Blocks.{current, first_fault, block_value}
use Rattle.flt_pages.specs.declared.current.CurrentSector.{CurrentSector}
use Rattle.flt_pages.specs.LogHolds.{record_content, given, StandsAt}
use Rattle.flt_pages.proofs.LogOn.{blank_behind}
use Rattle.flt_fee.specs.Fee.{is_last, state_by}
use Rattle.flt_pages.specs.Recorded.{Records}
use Rattle.flt_fee.proofs.Composed.{follows_by}
use Rattle.flt_fee.proofs.Standing.{Appending, stands_value, stands_sound, left_standing, done_standing, current_stays}

-- The pages after the log of an image whose current sector is known.
pub blank_at_end : (at : CurrentSector) (numbers : List ℕ) (image : List (List (List ℕ))) (end : ℕ) (value : ℕ → Content) → StandsAt at.used numbers image at.sector at.sequence end value → AreBlank (sector_at image at.sector) end at.used
blank_at_end at numbers image end value stands =
    blank_behind at.used numbers (sector_at image at.sector) (sector_at image at.sector) stands.holds.entries end at.least stands.holds.is (λ k low lt. refl)

-- A call on a driver that is not stale, which leaves the image without a fault and its current sector where it was.
module _ (used : ℕ) (numbers : List ℕ) (before after : FlashState) (runs : MakesOperations before after) (sound : first_fault used numbers before.image ≡ None) (stays_sound : first_fault used numbers after.image ≡ None)
    (same : current used after.image ≡ current used before.image) (was_stale has_mounted is_stale : Bool) where
  pub quiet_calls : {T : Type 0} (result : Result T BlockFault) → (IsErrOf result Flash → HasRisenBy 1 before.faults after.faults)
      → ((sector page : ℕ) → IsErrOf result (Damaged sector page) → ⊥) → BlockCalls (state_by used numbers was_stale has_mounted before) (state_by used numbers is_stale has_mounted after) result
  quiet_calls result = sound_calls result
      (follows_by used numbers before after runs was_stale has_mounted is_stale has_mounted (λ yes. yes) (λ yes. ap is_last same ∙ yes) (λ none. stays_sound) (λ place is. absurd (cc (sound, is)))) sound

module _ {at : CurrentSector} {numbers : List ℕ} {before : FlashState} {page block : ℕ} {held : List ℕ} {valid : Bool} (goes : Appending at numbers before page block held valid) where
  abbrev value : ℕ → Content
  value = block_value at.used numbers before.image

  abbrev asked : Content
  asked = record_content valid held

  given_here : given block asked value block ≡ asked
  given_here = ap (λ b. if b then asked else value block) (eq-eqb block block refl)

  given_other : (other : ℕ) → other ≢ block → given block asked value other ≡ value other
  given_other other apart = ap (λ b. if b then asked else value other) (ne_eqb block other (λ e. apart (sym e)))

  sound_before : first_fault at.used numbers before.image ≡ None
  sound_before = stands_sound at.used numbers before.image at.sector at.sequence page value goes.stands

  module _ {after : FlashState} {result : Result (Unit {0}) FlashFailed} (is : Records before after at.sector page block held valid result) where
    -- What a failed append leaves, whichever it is.
    record Leaves : Type 0 where
      pub either : (block_value at.used numbers after.image block ≡ value block) ⊎ (block_value at.used numbers after.image block ≡ asked)
      pub others : (other : ℕ) → other ≢ block → block_value at.used numbers after.image other ≡ value other
      pub sound : first_fault at.used numbers after.image ≡ None

    old : (last : ℕ) × StandsAt at.used numbers after.image at.sector at.sequence last value → Leaves
    old found =
        let here = stands_value at.used numbers after.image at.sector at.sequence found.0 value found.1 in
        record { either = inl (here block); others = λ other apart. here other; sound = stands_sound at.used numbers after.image at.sector at.sequence found.0 value found.1 }

    new : (last : ℕ) × StandsAt at.used numbers after.image at.sector at.sequence last (given block asked value) → Leaves
    new found =
        let here = stands_value at.used numbers after.image at.sector at.sequence found.0 (given block asked value) found.1 in
        record {
          either = inr (here block ∙ given_here);
          others = λ other apart. here other ∙ given_other other apart;
          sound = stands_sound at.used numbers after.image at.sector at.sequence found.0 (given block asked value) found.1;
        }

    leaves : Leaves
    leaves = ⊎_elim old new (left_standing goes is)

    -- No call brings a fault into the image.
    pub left_sound : first_fault at.used numbers after.image ≡ None
    left_sound = leaves.sound

    module _ (was_stale has_mounted : Bool) (answer : Result (Unit {0}) BlockFault) (told : answer ≡ Err Flash) where
      pub failed_changes : Changes (state_by at.used numbers was_stale has_mounted before) (state_by at.used numbers true has_mounted after) block asked (length held) answer
      failed_changes = changes_failed (state_by at.used numbers was_stale has_mounted before) (state_by at.used numbers true has_mounted after) block asked (length held) answer told leaves.either leaves.others

      pub failed_calls : HasRisenBy 1 before.faults after.faults → BlockCalls (state_by at.used numbers was_stale has_mounted before) (state_by at.used numbers true has_mounted after) answer
      failed_calls cause = quiet_calls at.used numbers before after is.on.runs sound_before leaves.sound (current_stays goes is) was_stale has_mounted true answer (λ flash. cause) (λ s p damaged. cc (told, damaged))

    module _ (was_stale has_mounted : Bool) (ok : result ≡ Ok tt) where
      pub done_changes : Changes (state_by at.used numbers was_stale has_mounted before) (state_by at.used numbers false has_mounted after) block asked (length held) (Ok tt)
      done_changes =
          let now = stands_value at.used numbers after.image at.sector at.sequence (page + (2 + byte_pages (length held))) (given block asked value) (done_standing goes is ok) in
          changes_done (state_by at.used numbers was_stale has_mounted before) (state_by at.used numbers false has_mounted after) block asked (length held) (now block ∙ given_here) (λ other apart. now other ∙ given_other other apart)

      pub done_calls : BlockCalls {T = Unit {0}} (state_by at.used numbers was_stale has_mounted before) (state_by at.used numbers false has_mounted after) (Ok tt)
      done_calls = quiet_calls at.used numbers before after is.on.runs sound_before leaves.sound (current_stays goes is) was_stale has_mounted false {T = Unit {0}} (Ok tt) (λ fault. absurd (cc fault)) (λ s p fault. cc fault)
