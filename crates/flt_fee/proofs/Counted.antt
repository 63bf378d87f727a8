-- What is said of a part of a call is true of the whole call, which is counted.
use Rattle.std.proofs.Common.{ℕ, Option, Result}
use Rattle.flt_flash.specs.State.{FlashState}
use Rattle.flt_flash.specs.Blocks.{BlocksState, recounted}
use Rattle.flt_flash.specs.Calls.{BlockCalls}
use Rattle.flt_flash.specs.declared.blocks.BlockFault.{BlockFault}
use Rattle.flt_fee.specs.declared.fee.Fee.{Fee}
use Rattle.flt_fee.specs.Fee.{uncounted_of}
use Rattle.flt_fee.specs.Stored.{StoresRecord, WearsEvenly}
use Rattle.flt_fee.specs.Wear.{StaysEven, UnlessFlash}
use Rattle.flt_fee.proofs.Wearing.{unless_fault}

pub even_counted : {F : Type 0} {g : _} {T : Type 0} (state : F → FlashState) (old new : Fee F g) (result : Result T BlockFault) → BlockCalls (uncounted_of state old) (uncounted_of state new) result
    → UnlessFlash result (StaysEven old.at.used (state old.flash) (state new.flash)) → WearsEvenly state old new
even_counted state old new result calls even = unless_fault (uncounted_of state old) (uncounted_of state new) result (StaysEven old.at.used (state old.flash) (state new.flash)) calls even

pub stored_counted : {used : ℕ} {before after : BlocksState} {block size : ℕ} {result : Result (Unit {0}) BlockFault} (earlier : ℕ) (failed : Option ℕ) (later : ℕ) (failed_later : Option ℕ)
    → StoresRecord used before after block size result → StoresRecord used (recounted earlier failed before) (recounted later failed_later after) block size result
stored_counted earlier failed later failed_later stored = record {
  answers = stored.answers;
  stores = λ fresh none. (let stores = stored.stores fresh none in record { behind = stores.behind; switched = stores.switched });
}
