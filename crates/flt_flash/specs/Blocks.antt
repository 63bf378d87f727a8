-- What a driver of blocks means.
use Rattle.std.specs.Prelude.{◌≡◌, ◌<◌, ◌+◌, ◌/◌, ℕ, Bool, List, length, sum_by, Option, Some, IsSomeAnd}
use Rattle.flt_flash.specs.Content.{Content, missing, invalid, bytes}
use Rattle.flt_flash.specs.State.{BenchState, FlashState, as_counted, erases_of}

-- The device beneath a driver, and its operations and erases where they are known.
pub record DeviceState : Type 0 where
  pub faults : ℕ
  pub image : List (List (List ℕ))
  pub operations : Option ℕ
  pub erases : Option ℕ
  pub bench : BenchState

-- The device that a flash or an EEPROM is.
abbrev pub device_of : FlashState → DeviceState
device_of device = record {
  faults = device.faults;
  image = device.image;
  operations = Some (as_counted device.operations);
  erases = Some (erases_of device.wear);
  bench = device.bench;
}

-- A driver of blocks; a place is a sector and a page, and a record is given by its block and its length.
pub record BlocksState : Type 0 where
  pub numbers : List ℕ  -- the block numbers with which it was made
  pub is_stale : Bool  -- the next call mounts first
  pub has_mounted : Bool  -- a mount has answered Ok
  pub calls : ℕ  -- the mounts, writes, reads and invalidates that were made, as far as the count goes
  pub last_failed : Option ℕ  -- the block of the last write, read or invalidate that the flash failed
  pub value : ℕ → Content  -- what each block holds
  pub damage : Option (ℕ × ℕ)  -- the place of the first fault of the image
  pub room : Option ℕ  -- the pages for records, where they are limited
  pub is_spent : Bool  -- some record can't be written any more
  pub is_stuck : ℕ → ℕ → Bool  -- this record can't be written any more
  pub device : DeviceState

-- A driver that counts this many calls, and of which the flash failed this one last.
abbrev pub recounted : ℕ → Option ℕ → BlocksState → BlocksState
recounted calls last_failed state = record state { calls = calls; last_failed = last_failed }

-- The pages of plain bytes of a record: 32 bytes a page.
abbrev pub byte_pages : ℕ → ℕ
byte_pages length = (length + 31) / 32

-- The pages of a record of this many bytes: a head, the bytes, and a gate.
abbrev pub record_pages : ℕ → ℕ
record_pages length = 2 + byte_pages length

-- The pages of the record that gives a block its content.
abbrev pub pages_of : Content → ℕ
pages_of missing = 0
pages_of invalid = 2
pages_of (bytes held) = record_pages (length held)

-- The pages of the current records of all blocks.
abbrev pub live_pages : BlocksState → ℕ
live_pages state = sum_by (λ number. pages_of (state.value number)) state.numbers

-- The room is a number, and less than the live pages and those of a record of this length together.
pub record IsFull (state : BlocksState) (size live needed : ℕ) : Type 0 where
  pub live_is : live ≡ live_pages state
  pub needed_is : needed ≡ record_pages size
  pub past : IsSomeAnd state.room (λ room. room < live + needed)
