-- What each call of a driver of blocks leaves.
use Rattle.std.specs.Prelude.{◌≡◌, ◌≢◌, ◌⊎◌, ◌≤◌, ◌+◌, ◌*◌, ◌^◌, ℕ, true, List, ◌++◌, length, drop, Option, Some, None, Result, Ok, Err, IsTrue, IsFalse, IfSome, IsSomeAnd, OnOk, IsErrOf}
use Rattle.flt_flash.specs.Content.{Content, missing, invalid, bytes, size_of}
use Rattle.flt_flash.specs.State.{HasRisenBy, counted_up, last_count, KeepsBench, AddsArm, AddsBoot}
use Rattle.flt_flash.specs.Blocks.{BlocksState, IsFull, byte_pages, record_pages}
use Rattle.flt_flash.specs.declared.arm.Arm.{Arm}
use Rattle.flt_flash.specs.declared.blocks.Found.{Found}
use Rattle.flt_flash.specs.declared.blocks.Found.TheVariants.{Bytes, Missing, Invalid}
use Rattle.flt_flash.specs.declared.blocks.BlockFault.{BlockFault}
use Rattle.flt_flash.specs.declared.blocks.BlockFault.TheVariants.{Flash, Full, SequenceSpent, Damaged}

-- Every block holds what it held.
abbrev pub SameValues : BlocksState → BlocksState → Type 0
SameValues before after = (block : ℕ) → after.value block ≡ before.value block

-- The image of the device is as it was.
abbrev pub SameImage : BlocksState → BlocksState → Type 0
SameImage before after = after.device.image ≡ before.device.image

-- Some record can't be written any more exactly where that was so before: no record was written, so no sequence number was used.
abbrev pub SameSpent : BlocksState → BlocksState → Type 0
SameSpent before after = after.is_spent ≡ before.is_spent

-- Every other block holds what it held.
abbrev pub OthersKept : ℕ → BlocksState → BlocksState → Type 0
OthersKept block before after = (other : ℕ) → other ≢ block → after.value other ≡ before.value other

-- A count that is known, or not, never falls.
abbrev pub NeverFalls : Option ℕ → Option ℕ → Type 0
NeverFalls None None = Unit {0}
NeverFalls None (Some after) = ⊥
NeverFalls (Some before) None = ⊥
NeverFalls (Some before) (Some after) = before ≤ after

-- What holds after any number of mounts, writes, reads and invalidates, whatever they answered.
pub record Follows (before after : BlocksState) : Type 0 where
  pub numbers : after.numbers ≡ before.numbers
  pub room : after.room ≡ before.room
  pub once_mounted : IsTrue before.has_mounted → IsTrue after.has_mounted
  pub stays_spent : IsTrue before.is_spent → IsTrue after.is_spent
  pub damage_stays : (place : ℕ × ℕ) → before.damage ≡ Some place → (after.damage ≡ Some place) × (after.device.image ≡ before.device.image)
      × SameValues before after
  pub no_new_damage : before.damage ≡ None → after.damage ≡ None
  pub counts : HasRisenBy 0 before.device.faults after.device.faults
  pub operations : NeverFalls before.device.operations after.device.operations
  pub erases : NeverFalls before.device.erases after.device.erases
  pub bench : KeepsBench before.device.bench after.device.bench

-- One mount, write, read or invalidate: a fault of the flash has its cause, a fault of the image is reported by a mount
-- alone, before one has answered Ok, and none is passed over.
pub record BlockCalls {T : Type 0} (before after : BlocksState) (result : Result T BlockFault) : Type 0 where
  pub keeps_driver : Follows before after
  pub flash : IsErrOf result Flash → HasRisenBy 1 before.device.faults after.device.faults
  pub damaged : (sector page : ℕ) → IsErrOf result (Damaged sector page) → (before.damage ≡ Some (sector, page)) × IsFalse before.has_mounted
  pub refuses_damage : OnOk result (before.damage ≡ None)

-- One mount, write, read or invalidate more was made.
abbrev pub CountsCall : BlocksState → BlocksState → Type 0
CountsCall before after = after.calls ≡ counted_up before.calls

-- The block of the last call that the flash failed, after a call of this block that was answered by this fault.
abbrev pub failed_by : ℕ → Option ℕ → BlockFault → Option ℕ
failed_by block earlier Flash = Some block
failed_by block earlier (Full live needed) = earlier
failed_by block earlier SequenceSpent = earlier
failed_by block earlier (Damaged sector page) = earlier

-- The same, after a call of this block with this answer.
abbrev pub failed_after : {T : Type 0} → ℕ → Option ℕ → Result T BlockFault → Option ℕ
failed_after block earlier (Ok value) = earlier
failed_after block earlier (Err fault) = failed_by block earlier fault

-- A write, read or invalidate of this block that the flash failed is the last one that it failed, and no other answer changes which that is.
abbrev pub NamesFailure : {T : Type 0} → ℕ → BlocksState → BlocksState → Result T BlockFault → Type 0
NamesFailure block before after result = after.last_failed ≡ failed_after block before.last_failed result

-- One write, read or invalidate of this block more was made.
pub record CountsCallOf {T : Type 0} (block : ℕ) (before after : BlocksState) (result : Result T BlockFault) : Type 0 where
  pub calls : CountsCall before after
  pub named : NamesFailure block before after result

-- One mount more was made, which is of no block.
pub record CountsMount (before after : BlocksState) : Type 0 where
  pub calls : CountsCall before after
  pub named : after.last_failed ≡ before.last_failed

-- A fault of the flash or of the image leaves the driver stale, and no other answer does.
abbrev pub Settles : {T : Type 0} → Result T BlockFault → BlocksState → Type 0
Settles (Ok value) after = IsFalse after.is_stale
Settles (Err Flash) after = IsTrue after.is_stale
Settles (Err (Full live needed)) after = IsFalse after.is_stale
Settles (Err SequenceSpent) after = IsFalse after.is_stale
Settles (Err (Damaged sector page)) after = IsTrue after.is_stale

-- A lack of room and one of sequence numbers are no answers of this call.
pub record NeverFull {T : Type 0} (result : Result T BlockFault) : Type 0 where
  pub full : (live needed : ℕ) → IsErrOf result (Full live needed) → ⊥
  pub spent : IsErrOf result SequenceSpent → ⊥

-- A block is given a content that takes a record of this length.
pub record Changes (before after : BlocksState) (block : ℕ) (asked : Content) (size : ℕ) (result : Result (Unit {0}) BlockFault) : Type 0 where
  pub holds_asked : OnOk result (after.value block ≡ asked)
  pub failed : IsErrOf result Flash → (after.value block ≡ before.value block) ⊎ (after.value block ≡ asked)
  pub others : OthersKept block before after
  pub full : (live needed : ℕ) → IsErrOf result (Full live needed) → IsFull after size live needed × SameValues before after
  pub spent : IsErrOf result SequenceSpent → IsTrue (after.is_stuck block size) × SameValues before after
  pub damaged : (sector page : ℕ) → IsErrOf result (Damaged sector page) → SameValues before after

-- A call that reads alone: no block changes, no sequence number is used, and on a driver that was not stale nothing is written.
pub record ReadsAlone {T : Type 0} (before after : BlocksState) (result : Result T BlockFault) : Type 0 where
  pub values : SameValues before after
  pub calls : BlockCalls before after result
  pub never_full : NeverFull result
  pub spent : SameSpent before after
  pub settled : OnOk result (IsFalse after.is_stale)
  pub stale : IsFalse before.is_stale → IsFalse after.is_stale
  pub image : IsFalse before.is_stale → SameImage before after

-- What a read finds of a content, with its bytes at the start of out.
abbrev pub ReadsContent : Content → Found → List ℕ → List ℕ → Type 0
ReadsContent missing Missing before after = after ≡ before
ReadsContent missing Invalid before after = ⊥
ReadsContent missing (Bytes n) before after = ⊥
ReadsContent invalid Invalid before after = after ≡ before
ReadsContent invalid Missing before after = ⊥
ReadsContent invalid (Bytes n) before after = ⊥
ReadsContent (bytes held) (Bytes n) before after = (n ≡ length held) × (after ≡ held ++ drop n before)
ReadsContent (bytes held) Missing before after = ⊥
ReadsContent (bytes held) Invalid before after = ⊥

-- What a read finds of a content, without its bytes.
abbrev pub found_of : Content → Found
found_of missing = Missing
found_of invalid = Invalid
found_of (bytes held) = Bytes (length held)

-- The count of faults did not rise.
abbrev pub NoFault : BlocksState → BlocksState → Type 0
NoFault before after = HasRisenBy 1 before.device.faults after.device.faults → ⊥

-- The erases are known, are well below their greatest number, and did not rise.
abbrev pub NoErase : BlocksState → BlocksState → Type 0
NoErase before after = IsSomeAnd before.device.erases (λ erases. (erases + 2 ^ 32 ≤ last_count) × (after.device.erases ≡ Some erases))

-- The operations of the device rose by this many at most, where they are known.
abbrev pub CostsAtMost : ℕ → BlocksState → BlocksState → Type 0
CostsAtMost limit before after = IfSome after.device.operations (λ made. IsSomeAnd before.device.operations (λ earlier. made ≤ earlier + limit))

-- The operations of a record of this length, with a switch of sectors before it where the room is limited.
abbrev pub switch_cost : Option ℕ → ℕ → ℕ
switch_cost None size = record_pages size
switch_cost (Some room) size = 2 * room + 4

-- What a record of this length costs on a driver that is not stale, where no operation failed.
pub record Costs (before after : BlocksState) (size : ℕ) : Type 0 where
  pub at_the_end : IsFalse before.is_stale → NoFault before after → NoErase before after → CostsAtMost (record_pages size) before after
  pub at_most : IsFalse before.is_stale → NoFault before after → CostsAtMost (switch_cost before.room size) before after

-- What a read of a block costs on a driver that is not stale, where no operation failed.
abbrev pub ReadCosts : BlocksState → BlocksState → ℕ → Type 0
ReadCosts before after block = IsFalse before.is_stale → NoFault before after → CostsAtMost (byte_pages (size_of (before.value block))) before after

-- The operations of a mount: where the room is limited the four gates of two sectors are read, and a log whose end is read twice; else two
-- gates of each number.
abbrev pub mount_cost : Option ℕ → List ℕ → ℕ
mount_cost None numbers = 2 * length numbers
mount_cost (Some room) numbers = room + 5

-- What a mount costs at most, whatever it answers.
abbrev pub MountCosts : BlocksState → BlocksState → Type 0
MountCosts before after = CostsAtMost (mount_cost before.room before.numbers) before after

-- An arm is made on the device, and nothing else changes.
pub record ArmsDriver (arm : Arm) (before after : BlocksState) : Type 0 where
  pub bench : AddsArm arm before.device.faults before.device.bench after.device.bench
  pub rest : after ≡ record before { device = record before.device { bench = after.device.bench } }

-- The device is on again, the driver is stale, and nothing else changes.
pub record PowersUpDriver (before after : BlocksState) : Type 0 where
  pub bench : AddsBoot before.device.faults before.device.image before.device.bench after.device.bench
  pub rest : after ≡ record before { is_stale = true; device = record before.device { bench = after.device.bench } }
