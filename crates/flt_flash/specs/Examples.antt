-- Worked operations of a flash in memory: which arm acts, which arms remain after it, and what a pattern leaves; which block failed last, and what a
-- mount costs.
use Rattle.std.specs.Prelude.{◌≡◌, ◌^◌, ◌-◌, ◌<◌, ℕ, Bool, true, false, List, [], ◌∷◌, length, map, nat_le, if◌then◌else◌, Option, Some, None, Result, Ok, Err, slice_index, slice_index_or}
use Rattle.flt_flash.specs.Image.{blank_page, ArePages}
use Rattle.flt_flash.specs.Arms.{IsTornBy, IsErasedBy, IsProgrammedBy}
use Rattle.flt_flash.specs.Power.{PowerState, failing_by, read_fails, power_after_write, power_after_read}
use Rattle.flt_flash.specs.Calls.{failed_after, mount_cost}
use Rattle.flt_flash.specs.declared.blocks.BlockFault.{BlockFault}
use Rattle.flt_flash.specs.declared.blocks.BlockFault.TheVariants.{Flash, Full, SequenceSpent, Damaged}
use Rattle.flt_flash.specs.declared.arm.Arm.{Arm}
use Rattle.flt_flash.specs.declared.arm.Arm.TheVariants.{Cut, Fault, Mute}
use Rattle.flt_flash.specs.declared.arm.Pattern.{Pattern}
use Rattle.flt_flash.specs.declared.arm.Pattern.TheVariants.{Nothing, All, Tail, Odd}

-- A power with these counts of faults and of operations, and these arms.
abbrev pub power_on : ℕ → ℕ → List Arm → PowerState
power_on faults operations standing = record { is_off = false; faults = faults; operations = operations; standing = standing }

abbrev pub power_off : ℕ → ℕ → List Arm → PowerState
power_off faults operations standing = record { is_off = true; faults = faults; operations = operations; standing = standing }

-- A program or an erase: the power before it, the pattern by which it fails, and the power after it.
pub record Written : Type 0 where
  pub before : PowerState
  pub fails : Option Pattern
  pub after : PowerState

abbrev pub written_as : PowerState → Option Pattern → PowerState → Written
written_as before fails after = record { before = before; fails = fails; after = after }

-- An arm acts at its number and is gone then; a cut comes before a fault, and of one kind the one made first; arms that meet there are all
-- gone, and mutes stay. A cut turns the power off. While it is off each operation fails, without effect, and no arm counts it. Counts stay
-- at their greatest number.
abbrev pub writes : List Written
writes =
    written_as (power_on 0 0 []) None (power_on 0 1 [])
    ∷ written_as (power_on 0 5 (Cut 2 Tail ∷ [])) None (power_on 0 6 (Cut 1 Tail ∷ []))
    ∷ written_as (power_on 0 6 (Cut 1 Tail ∷ [])) (Some Tail) (power_off 1 7 [])
    ∷ written_as (power_on 3 0 (Fault 1 Odd ∷ Fault 2 All ∷ [])) (Some Odd) (power_on 4 1 (Fault 1 All ∷ []))
    ∷ written_as (power_on 0 0 (Fault 1 Odd ∷ Cut 1 All ∷ [])) (Some All) (power_off 1 1 [])
    ∷ written_as (power_on 0 0 (Fault 1 Odd ∷ Fault 1 All ∷ [])) (Some Odd) (power_on 1 1 [])
    ∷ written_as (power_on 0 0 (Cut 1 Nothing ∷ Cut 1 All ∷ [])) (Some Nothing) (power_off 1 1 [])
    ∷ written_as (power_on 0 0 (Mute 0 3 2 ∷ Fault 1 Tail ∷ Cut 2 All ∷ [])) (Some Tail) (power_on 1 1 (Mute 0 3 2 ∷ Cut 1 All ∷ []))
    ∷ written_as (power_off 1 1 (Cut 1 All ∷ Mute 0 3 2 ∷ [])) (Some Nothing) (power_off 2 2 (Cut 1 All ∷ Mute 0 3 2 ∷ []))
    ∷ written_as (power_off (2 ^ 64 - 1) (2 ^ 64 - 1) []) (Some Nothing) (power_off (2 ^ 64 - 1) (2 ^ 64 - 1) [])
    ∷ []

-- A read of page 3 of sector 0: the power before it, whether it fails, and the power after it.
pub record Read : Type 0 where
  pub before : PowerState
  pub fails : Bool
  pub after : PowerState

abbrev pub read : PowerState → Bool → PowerState → Read
read before fails after = record { before = before; fails = fails; after = after }

-- A mute makes this many reads of its page fail, and reads of no other page, nor a program or an erase, count for it. Each mute of the page
-- counts the read. A read brings no cut or fault nearer.
abbrev pub reads : List Read
reads =
    read (power_on 0 0 []) false (power_on 0 1 [])
    ∷ read (power_on 0 0 (Mute 0 3 2 ∷ [])) true (power_on 1 1 (Mute 0 3 1 ∷ []))
    ∷ read (power_on 1 1 (Mute 0 3 1 ∷ [])) true (power_on 2 2 [])
    ∷ read (power_on 0 0 (Mute 0 4 2 ∷ Mute 1 3 2 ∷ [])) false (power_on 0 1 (Mute 0 4 2 ∷ Mute 1 3 2 ∷ []))
    ∷ read (power_on 0 0 (Mute 0 3 1 ∷ Mute 0 3 2 ∷ [])) true (power_on 1 1 (Mute 0 3 1 ∷ []))
    ∷ read (power_on 0 0 (Cut 1 All ∷ Fault 1 Odd ∷ [])) false (power_on 0 1 (Cut 1 All ∷ Fault 1 Odd ∷ []))
    ∷ read (power_on 0 0 (Mute 0 3 0 ∷ [])) false (power_on 0 1 [])
    ∷ read (power_off 1 1 (Mute 0 3 2 ∷ [])) true (power_off 2 2 (Mute 0 3 2 ∷ []))
    ∷ []

-- The operations fail so, and leave the power so.
pub record ArmsAct : Type 0 where
  pub writes_fail : map (λ row. failing_by row.before) writes ≡ map (λ row. row.fails) writes
  pub writes_leave : map (λ row. power_after_write row.before) writes ≡ map (λ row. row.after) writes
  pub reads_fail : map (λ row. read_fails 0 3 row.before) reads ≡ map (λ row. row.fails) reads
  pub reads_leave : map (λ row. power_after_read 0 3 row.before) reads ≡ map (λ row. row.after) reads

-- What a torn byte is: as before, as after, as after in the tail alone, or with bits 1, 3, 5 and 7 as after.
pub record BytesAreTorn : Type 0 where
  pub nothing : (before after torn : ℕ) → IsTornBy Nothing true before after torn → torn ≡ before
  pub all : (before after torn : ℕ) → IsTornBy All false before after torn → torn ≡ after
  pub tail : (before after torn : ℕ) → IsTornBy Tail true before after torn → torn ≡ after
  pub rest : (before after torn : ℕ) → IsTornBy Tail false before after torn → torn ≡ before
  pub odd : (torn : ℕ) → IsTornBy Odd false 0x00 0xFF torn → torn ≡ 0xAA
  pub even : (torn : ℕ) → IsTornBy Odd true 0xFF 0x00 torn → torn ≡ 0x55

-- An erase that is torn in its tail leaves pages 0 and 1 as they were, and the others blank.
abbrev pub ErasesAreTorn : Type 0
ErasesAreTorn =
    (before torn : List (List ℕ)) (page : ℕ) → IsErasedBy Tail before torn → ArePages before → page < length before
    → slice_index_or torn page [] ≡ (if nat_le 2 page then blank_page else slice_index_or before page [])

-- A program that is torn in its tail leaves bytes 0 to 15 as they were, and the others as asked.
abbrev pub ProgramsAreTorn : Type 0
ProgramsAreTorn =
    (pages after : List (List ℕ)) (page : ℕ) (bytes : List ℕ) (byte : ℕ) → IsProgrammedBy Tail pages page bytes after → page < length pages
    → byte < length (slice_index_or pages page [])
    → slice_index (slice_index_or after page []) byte ≡ (if nat_le 16 byte then slice_index bytes byte else slice_index (slice_index_or pages page []) byte)

-- The block that the flash failed last after a call of block 9, answered so, where it failed none before, or block 8.
abbrev pub failed_last : Result (Unit {0}) BlockFault → List (Option ℕ)
failed_last answer = map (λ earlier. failed_after 9 earlier answer) (None ∷ Some 8 ∷ [])

-- A fault of the flash is of the block that was called, and no other answer is of any.
pub record FailuresAreNamed : Type 0 where
  pub flash : failed_last (Err Flash) ≡ Some 9 ∷ Some 9 ∷ []
  pub done : failed_last (Ok tt) ≡ None ∷ Some 8 ∷ []
  pub full : failed_last (Err (Full 6 5)) ≡ None ∷ Some 8 ∷ []
  pub spent : failed_last (Err SequenceSpent) ≡ None ∷ Some 8 ∷ []
  pub damaged : failed_last (Err (Damaged 0 3)) ≡ None ∷ Some 8 ∷ []

-- Of three blocks each of the six gates is read once. Of sectors of twelve pages with a room of ten: the four gates, and eleven reads of a
-- log whose ten pages are blank, of which the first is read twice.
pub record MountsCost : Type 0 where
  pub gates : mount_cost None (8 ∷ 16 ∷ 17 ∷ []) ≡ 6
  pub log : mount_cost (Some 10) (8 ∷ 16 ∷ 17 ∷ []) ≡ 15
