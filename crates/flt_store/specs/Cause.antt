-- Why a write of the store fails, and that there is always room for it.
use Rattle.std.specs.Prelude.{◌≡◌, ◌⊎◌, ℕ, ◌≤◌, ◌-◌, Option, Some, None, Result, IsTrue, IsErrOf}
use Rattle.flt_flash.specs.Content.{Content}
use Rattle.flt_flash.specs.State.{HasRisenBy}
use Rattle.flt_flash.specs.Blocks.{BlocksState, pages_of, IsFull}
use Rattle.flt_flash.specs.Calls.{Follows}
use Rattle.flt_flash.specs.declared.blocks.BlockFault.{BlockFault}
use Rattle.flt_flash.specs.declared.blocks.BlockFault.TheVariants.{Flash, Full, SequenceSpent, Damaged}
use Rattle.flt_config.specs.declared.config.Config.{Config}
use Rattle.flt_store_model.specs.Excess.{own_pages}

-- The flash failed three times.
abbrev pub FailsThrice : BlocksState → BlocksState → Type 0
FailsThrice before after = HasRisenBy 3 before.device.faults after.device.faults

-- Some record can't be written any more, since it does not fit and no sequence number is left.
abbrev pub IsStuck : BlocksState → Type 0
IsStuck state = (number : ℕ) × (size : ℕ) × (size ≤ 96) × IsTrue (state.is_stuck number size)

-- The driver leaves all but the two gates of a sector for records, where it limits them.
abbrev pub HasRoom : Config → Option ℕ → Type 0
HasRoom c None = Unit {0}
HasRoom c (Some room) = room ≡ c.pages - 2

-- Each number holds what it held, or a record no longer than the configuration may write there.
abbrev pub IsWithinOwn : Config → (ℕ → Content) → (ℕ → Content) → Type 0
IsWithinOwn c before after = (number : ℕ) → (after number ≡ before number) ⊎ (pages_of (after number) ≤ own_pages c number)

-- Calls that wrote records of at most 96 bytes, each fault of which has its cause.
pub record StoreWrites {T : Type 0} (before after : BlocksState) (result : Result T BlockFault) : Type 0 where
  -- The driver was called, and nothing else was done with it.
  pub keeps_driver : Follows before after
  -- They fail by the flash only if three tries failed.
  pub flash : IsErrOf result Flash → FailsThrice before after
  -- They find no room only if a record of at most 96 bytes has none.
  pub full : (live needed : ℕ) → IsErrOf result (Full live needed) → (size : ℕ) × (size ≤ 96) × IsFull after size live needed
  -- They find no sequence number only if the driver has none left.
  pub stuck : IsErrOf result SequenceSpent → IsStuck after
  -- They find no damage on a driver that was mounted.
  pub mounted : IsTrue before.has_mounted → (sector page : ℕ) → IsErrOf result (Damaged sector page) → ⊥
