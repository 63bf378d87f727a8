-- A call of a driver by what it did to the image.
use Rattle.std.proofs.Common.{◌≡◌, ℕ, Bool, true, List, Some, None, refl, ◌∙◌, ap, arith}
use Rattle.flt_flash.specs.State.{FlashState, MakesOperations}
use Rattle.flt_flash.specs.Calls.{Follows}
use Rattle.flt_sector_model.specs.Blocks.{current, first_fault, block_value}
use Rattle.flt_fee.specs.Fee.{is_last, state_by}

module _ (used : ℕ) (numbers : List ℕ) (before after : FlashState) (runs : MakesOperations before after) (was_stale had_mounted is_stale has_mounted : Bool) where
  -- A driver goes on where its image has no new fault, and one with a fault stays as it was.
  pub follows_by : (had_mounted ≡ true → has_mounted ≡ true) → (is_last (current used before.image) ≡ true → is_last (current used after.image) ≡ true)
      → (first_fault used numbers before.image ≡ None → first_fault used numbers after.image ≡ None)
      → ((place : ℕ × ℕ) → first_fault used numbers before.image ≡ Some place → after.image ≡ before.image)
      → Follows (state_by used numbers was_stale had_mounted before) (state_by used numbers is_stale has_mounted after)
  follows_by once spent sound stays = record {
    numbers = refl;
    room = refl;
    once_mounted = once;
    stays_spent = spent;
    damage_stays = λ place is. (ap (first_fault used numbers) (stays place is) ∙ is, stays place is, λ block. ap (λ (image : List (List (List ℕ))). block_value used numbers image block) (stays place is));
    no_new_damage = sound;
    counts = runs.counts;
    operations = omega (arith, runs.operations);
    erases = runs.erases;
    bench = runs.bench;
  }
