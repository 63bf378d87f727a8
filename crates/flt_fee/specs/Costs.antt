-- What a call on a driver that is not stale costs, of operations and of erases.
use Rattle.std.specs.Prelude.{◌≡◌, ◌⊎◌, ◌+◌, ◌-◌, ◌*◌, ◌<◌, ◌≤◌, ℕ, Bool, false, Result, Ok, Err, IfSome, IsSomeAnd}
use Rattle.flt_flash.specs.State.{FlashState}
use Rattle.flt_flash.specs.Blocks.{BlocksState, record_pages, live_pages}
use Rattle.flt_flash.specs.Calls.{CostsAtMost}
use Rattle.flt_flash.specs.declared.blocks.BlockFault.{BlockFault}
use Rattle.flt_flash.specs.declared.blocks.BlockFault.TheVariants.{Flash, Full, SequenceSpent, Damaged}
use Rattle.flt_pages.specs.Switch.{Erases}

-- This many operations at most, and no erase.
pub record SpendsAtMost (limit : ℕ) (before after : FlashState) : Type 0 where
  pub operations : after.operations ≤ before.operations + limit
  pub wear : after.wear ≡ before.wear

-- The sectors were switched, since the record does not fit after the log and has room beside the current ones.
pub record IsSwitched (limit used end live size sector : ℕ) (before after : FlashState) : Type 0 where
  pub past : used < end + record_pages size
  pub room : 2 + live + record_pages size ≤ used
  pub erases : Erases limit (1 - sector) before after

-- Room is made: there was some, or the sectors were switched.
abbrev pub MakesRoom : ℕ → ℕ → ℕ → ℕ → ℕ → FlashState → FlashState → Type 0
MakesRoom used end live size sector before after =
    ((end + record_pages size ≤ used) × (after ≡ before)) ⊎ IsSwitched (3 + 2 * live) used end live size sector before after

-- A record is stored: after the log, or after that of the other sector; or it is refused, which costs nothing.
abbrev pub Stores : ℕ → ℕ → ℕ → ℕ → ℕ → FlashState → FlashState → Type 0
Stores used end live size sector before after =
    (after ≡ before) ⊎ ((end + record_pages size ≤ used) × SpendsAtMost (record_pages size) before after)
    ⊎ IsSwitched (3 + 2 * live + record_pages size) used end live size sector before after

-- A fact of each answer but a fault of the flash or of a mount.
abbrev pub UnlessFailed : {T : Type 0} → Result T BlockFault → Type 0 → Type 0
UnlessFailed (Ok value) fact = fact
UnlessFailed (Err Flash) fact = Unit {0}
UnlessFailed (Err (Full live needed)) fact = fact
UnlessFailed (Err SequenceSpent) fact = fact
UnlessFailed (Err (Damaged sector page)) fact = Unit {0}

-- The erases of the device rose by this many at most, where they are known.
abbrev pub ErasesAtMost : ℕ → BlocksState → BlocksState → Type 0
ErasesAtMost limit before after = IfSome after.device.erases (λ made. IsSomeAnd before.device.erases (λ earlier. made ≤ earlier + limit))

-- What a write or an invalidate costs: the pages of its record where that fits after the log, and else a switch with one erase too.
pub record StoreCosts (is_past : Bool) (before after : BlocksState) (size : ℕ) : Type 0 where
  pub behind : is_past ≡ false → CostsAtMost (record_pages size) before after × ErasesAtMost 0 before after
  pub switched : CostsAtMost (3 + 2 * live_pages before + record_pages size) before after × ErasesAtMost 1 before after
