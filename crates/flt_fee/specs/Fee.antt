-- What a driver over a flash means, by what the flash means.
use Rattle.std.specs.Prelude.{◌+◌, ◌-◌, ◌^◌, ◌==◌, ◌&&◌, ℕ, Bool, false, not, nat_le, List, Option, Some, None, Result, Ok, Err}
use Rattle.flt_flash.specs.Image.{sector_at}
use Rattle.flt_flash.specs.State.{FlashState}
use Rattle.flt_flash.specs.Blocks.{BlocksState, device_of, record_pages, recounted}
use Rattle.flt_sector_model.specs.Blocks.{Current, current, first_fault, block_value}
use Rattle.flt_sector_model.specs.Log.{log}
use Rattle.flt_fee.specs.declared.fee.Fee.{Fee}

-- The sequence number of the current sector is the last one.
abbrev pub is_last : Result (Option Current) (ℕ × ℕ) → Bool
is_last (Ok (Some at)) = at.sequence == 2 ^ 32 - 1
is_last (Ok None) = false
is_last (Err place) = false

-- A record of this length does not fit after the log of the current sector.
abbrev pub is_past : ℕ → List ℕ → List (List (List ℕ)) → ℕ → Result (Option Current) (ℕ × ℕ) → Bool
is_past used numbers image size (Ok (Some at)) = not (nat_le ((log used numbers (sector_at image at.sector)).end + record_pages size) used)
is_past used numbers image size (Ok None) = false
is_past used numbers image size (Err place) = false

-- The driver by what it keeps and by its flash, before a call is made of it.
abbrev pub state_by : ℕ → List ℕ → Bool → Bool → FlashState → BlocksState
state_by used numbers is_stale has_mounted flash = record {
  numbers = numbers;
  is_stale = is_stale;
  has_mounted = has_mounted;
  calls = 0;
  last_failed = None;
  value = block_value used numbers flash.image;
  damage = first_fault used numbers flash.image;
  room = Some (used - 2);
  is_spent = is_last (current used flash.image);
  is_stuck = λ block size. is_last (current used flash.image) && is_past used numbers flash.image size (current used flash.image);
  device = device_of flash;
}

-- The driver but for what it keeps of its calls.
abbrev pub uncounted_of : {F : Type 0} {g : _} → (F → FlashState) → Fee F g → BlocksState
uncounted_of state fee = state_by fee.at.used fee.numbers fee.is_stale fee.has_mounted (state fee.flash)

-- The driver as the layers above see it.
abbrev pub fee_state : {F : Type 0} {g : _} → (F → FlashState) → Fee F g → BlocksState
fee_state state fee = recounted fee.tally.calls fee.tally.last_failed (uncounted_of state fee)
