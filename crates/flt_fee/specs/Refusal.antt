-- When a record is refused.
use Rattle.std.specs.Prelude.{◌≡◌, ◌+◌, ◌&&◌, ℕ, Bool, true, false, nat_lt, if◌then◌else◌, Option, Some, None, Result, Ok, Err, OnOk}
use Rattle.flt_flash.specs.Blocks.{BlocksState, live_pages, record_pages}
use Rattle.flt_flash.specs.declared.blocks.BlockFault.{BlockFault}
use Rattle.flt_flash.specs.declared.blocks.BlockFault.TheVariants.{Flash, Full, SequenceSpent, Damaged}

-- The room is a number, and less than this many pages.
abbrev pub is_less : Option ℕ → ℕ → Bool
is_less None pages = false
is_less (Some room) pages = nat_lt room pages

-- The fault by which a record that needs this many pages is refused, if it is: for lack of room, or else of sequence numbers.
abbrev pub refusal_by : Option ℕ → ℕ → ℕ → Bool → Option BlockFault
refusal_by room live needed stuck = if is_less room (live + needed) then Some (Full live needed) else if stuck then Some SequenceSpent else None

-- The fault by which a driver refuses a record of this length, if it does.
abbrev pub record_refusal : BlocksState → ℕ → ℕ → Option BlockFault
record_refusal state block size = refusal_by state.room (live_pages state) (record_pages size) (state.is_stuck block size)

-- A record that is refused has no other answer than its refusal, and one that is not has none, but for a fault of the flash or of a mount.
abbrev pub AnswersBy : Option BlockFault → Result (Unit {0}) BlockFault → Type 0
AnswersBy refused (Ok done) = refused ≡ None
AnswersBy refused (Err Flash) = Unit {0}
AnswersBy refused (Err (Full live needed)) = refused ≡ Some (Full live needed)
AnswersBy refused (Err SequenceSpent) = refused ≡ Some SequenceSpent
AnswersBy refused (Err (Damaged sector page)) = Unit {0}

-- A mount that answers Ok leaves the same records stuck.
abbrev pub KeepsStuck : BlocksState → BlocksState → Result (Unit {0}) BlockFault → Type 0
KeepsStuck before after result = OnOk result ((block size : ℕ) → after.is_stuck block size ≡ before.is_stuck block size)

-- Of two tests that hold the first holds.
pub first_holds : (first second : Bool) → (first && second) ≡ true → first ≡ true
first_holds true second both = λ i. true
first_holds false second both = both
