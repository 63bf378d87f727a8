-- What a record needs that is stored, and what a store leaves, as a whole and in its parts.
use Rattle.std.specs.Prelude.{◌≡◌, ◌≤◌, ℕ, Bool, true, List, Result, Contains, IsFalse, IsTrue, IsErrOf, OnErr}
use Rattle.flt_flash.specs.State.{FlashState}
use Rattle.flt_flash.specs.Blocks.{BlocksState, IsFull}
use Rattle.flt_flash.specs.Calls.{BlockCalls, Costs, NeverFull, NoFault, SameSpent, SameValues, Settles}
use Rattle.flt_flash.specs.declared.blocks.BlockFault.{BlockFault}
use Rattle.flt_flash.specs.declared.blocks.BlockFault.TheVariants.{Full, SequenceSpent}
use Rattle.flt_code.specs.Word.{is_length}
use Rattle.flt_sector_model.specs.Blocks.{current}
use Rattle.flt_fee.specs.declared.fee.Fee.{Fee}
use Rattle.flt_fee.specs.Costs.{StoreCosts, UnlessFailed}
use Rattle.flt_fee.specs.Fee.{is_past, fee_state, uncounted_of}
use Rattle.flt_fee.specs.Refusal.{record_refusal, AnswersBy, KeepsStuck}
use Rattle.flt_fee.specs.Wear.{StaysEven}

-- A record of this many bytes can be stored: its block is one of the driver's, and a valid one has 1 to 128 bytes, an invalid one none.
pub record CanBeStored (numbers : List ℕ) (block size : ℕ) (valid : Bool) : Type 0 where
  pub number : Contains numbers block
  pub most : size ≤ 128
  pub kind : is_length valid size ≡ true

-- A record is refused, or not, by what the driver held before; one that is refused costs nothing.
pub record RefusesRecord (before after : BlocksState) (flash flash_after : FlashState) (block size : ℕ) (result : Result (Unit {0}) BlockFault) : Type 0 where
  pub answers : AnswersBy (record_refusal before block size) result
  pub full : (live needed : ℕ) → IsErrOf result (Full live needed) → IsFull after size live needed
  pub spent : IsErrOf result SequenceSpent → IsTrue (after.is_stuck block size)
  pub untouched : UnlessFailed result (OnErr result (flash_after ≡ flash))

-- A write or an invalidate on a flash of two sectors.
pub record StoresRecord (used : ℕ) (before after : BlocksState) (block size : ℕ) (result : Result (Unit {0}) BlockFault) : Type 0 where
  -- It is refused exactly where there is no room for it, or else no sequence number for a switch.
  pub answers : AnswersBy (record_refusal before block size) result
  -- It costs the pages of its record where that fits after the log, and else a switch of the sectors with one erase too.
  pub stores : IsFalse before.is_stale → NoFault before after
      → StoreCosts (is_past used before.numbers before.device.image size (current used before.device.image)) before after size

-- The sectors wear evenly, where no operation failed.
abbrev pub WearsEvenly : {F : Type 0} {g : _} → (F → FlashState) → Fee F g → Fee F g → Type 0
WearsEvenly state before after = NoFault (fee_state state before) (fee_state state after) → StaysEven before.at.used (state before.flash) (state after.flash)

-- A write or an invalidate of a block on two sectors, as a call of the driver: when it is refused, what it costs, and how the sectors wear.
pub record StoresOnSectors {F : Type 0} {g : _} (state : F → FlashState) (before after : Fee F g) (block size : ℕ) (result : Result (Unit {0}) BlockFault) : Type 0 where
  pub stored : StoresRecord before.at.used (fee_state state before) (fee_state state after) block size result
  pub costs : Costs (fee_state state before) (fee_state state after) size
  pub even : WearsEvenly state before after

-- A part of a call, which the driver does not count: a fault of the flash has its cause, and leaves the driver stale.
pub record IsPartOfCall {F : Type 0} {g : _} {T : Type 0} (state : F → FlashState) (before after : Fee F g) (result : Result T BlockFault) : Type 0 where
  pub calls : BlockCalls (uncounted_of state before) (uncounted_of state after) result
  pub uncounted : after.tally ≡ before.tally
  pub settles : Settles result (uncounted_of state after)

-- A mount, or a part of it: no block changes, no sequence number is used, and neither a lack of room nor one of numbers is answered.
pub record IsPartOfMount {F : Type 0} {g : _} (state : F → FlashState) (before after : Fee F g) (result : Result (Unit {0}) BlockFault) : Type 0 where
  pub part : IsPartOfCall state before after result
  pub values : SameValues (uncounted_of state before) (uncounted_of state after)
  pub spent : SameSpent (uncounted_of state before) (uncounted_of state after)
  pub stuck : KeepsStuck (uncounted_of state before) (uncounted_of state after) result
  pub never_full : NeverFull result
