-- What the steps of a life without other lanes write of their calls.
use Rattle.std.specs.Prelude.{◌≡◌, ◌+◌, ◌++◌, Vec, length, reverse, vec_len}
use Rattle.std.specs.Vec.{vec_capacity}
use Rattle.flt_model.specs.declared.call.Op.{Op}
use Rattle.flt_turn.specs.declared.vault.Entry.{Entry}
use Rattle.flt_life_model.specs.Journal.{Journal}

-- These calls, the newest first, were written after those of a journal, in the room that was there.
pub record HasWritten {A : Type 0} (calls : Journal) (before after : Vec (Entry Op) A) : Type 0 where
  -- The journal has the calls that it had, and then these.
  pub written : reverse after.items ≡ calls ++ reverse before.items
  -- It is longer by so many.
  pub more : vec_len after ≡ vec_len before + length calls
  -- It has the room that it had.
  pub room : vec_capacity after ≡ vec_capacity before
