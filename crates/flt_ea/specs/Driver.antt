-- What a driver over an EEPROM means, by what the device means. Its image is one list of units, so each meaning is one of the image.
use Rattle.std.specs.Prelude.{ℕ, Bool, List, None}
use Rattle.flt_flash.specs.State.{FlashState}
use Rattle.flt_flash.specs.Blocks.{BlocksState, device_of}
use Rattle.flt_ea.specs.Image.{value_in, damage_in, is_spent_in, is_stuck_in}

-- The driver by what it keeps and by its device, before a call is made of it.
abbrev pub state_by : List ℕ → Bool → Bool → FlashState → BlocksState
state_by numbers is_stale has_mounted device = record {
  numbers = numbers;
  is_stale = is_stale;
  has_mounted = has_mounted;
  calls = 0;
  last_failed = None;
  value = value_in numbers device.image;
  damage = damage_in numbers device.image;
  room = None;
  is_spent = is_spent_in numbers device.image;
  is_stuck = λ block size. is_stuck_in numbers device.image block;
  device = device_of device;
}
