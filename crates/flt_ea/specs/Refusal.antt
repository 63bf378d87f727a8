-- When a record is refused, and how many operations one costs that is written.
use Rattle.std.specs.Prelude.{◌≡◌, ◌+◌, ◌≤◌, ℕ, Bool, true, false, IsErrOf, Result, Ok, Err}
use Rattle.flt_flash.specs.State.{FlashState}
use Rattle.flt_flash.specs.declared.blocks.BlockFault.{BlockFault}
use Rattle.flt_flash.specs.declared.blocks.BlockFault.TheVariants.{Flash, Full, SequenceSpent, Damaged}

-- A record that is stuck is refused for lack of sequence numbers, and no other one is refused, but for a fault of the device or of a mount.
abbrev pub AnswersBy : Bool → Result (Unit {0}) BlockFault → Type 0
AnswersBy stuck (Ok done) = stuck ≡ false
AnswersBy stuck (Err Flash) = Unit {0}
AnswersBy stuck (Err (Full live needed)) = ⊥
AnswersBy stuck (Err SequenceSpent) = stuck ≡ true
AnswersBy stuck (Err (Damaged sector page)) = Unit {0}

-- At most this many operations were made, unless the device failed.
abbrev pub SpendsUnlessFlash : ℕ → FlashState → FlashState → Result (Unit {0}) BlockFault → Type 0
SpendsUnlessFlash pages before after result = (IsErrOf result Flash → ⊥) → after.operations ≤ before.operations + pages
