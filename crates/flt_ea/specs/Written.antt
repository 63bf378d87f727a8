-- What the write of a record to a place leaves.
use Rattle.std.specs.Prelude.{◌≡◌, ◌⊎◌, ◌+◌, ℕ, false, List, [], length, Some, None, Result, OnOk, OnErr, slice_range, slice_index_or}
use Rattle.std.specs.List.{flat_map}
use Rattle.flt_flash.specs.Blocks.{byte_pages}
use Rattle.flt_flash.specs.State.{FlashState, HasRisenBy}
use Rattle.flt_flash.specs.Image.{sector_at}
use Rattle.flt_flash.specs.declared.flash.FlashFailed.{FlashFailed}
use Rattle.flt_code.specs.Seal.{unsealed}
use Rattle.flt_code.specs.Spoiled.{is_spoiled}
use Rattle.flt_pages.specs.Record.{KeptApart, on_pages}
use Rattle.flt_pages.specs.Recorded.{OnSector}
use Rattle.flt_ea.specs.Gate.{gate_bytes}
use Rattle.flt_ea.specs.Image.{bytes_after_gate}
use Rattle.flt_ea.specs.declared.gate.Gate.{Gate}

-- The gate unit is no code word, and none that a tearing can't have left.
pub record IsEmptyAt (units : List (List ℕ)) (unit : ℕ) : Type 0 where
  pub none : unsealed (slice_index_or units unit []) ≡ None
  pub unspoiled : is_spoiled (slice_index_or units unit []) ≡ false

-- The gate is there, with these bytes after it, on units that are filled up with ones.
pub record HoldsRecord (units : List (List ℕ)) (unit : ℕ) (gate : Gate) (held : List ℕ) : Type 0 where
  pub gate_is : unsealed (slice_index_or units unit []) ≡ Some (gate_bytes gate)
  pub unspoiled : is_spoiled (slice_index_or units unit []) ≡ false
  pub holds : bytes_after_gate units unit (length held) ≡ held
  pub filled : flat_map (λ unit. unit) (slice_range units (unit + 1) (unit + 1 + byte_pages (length held))) ≡ on_pages held

-- The gate is as it was, or the place is empty, or it holds the record.
abbrev pub UnitRecordLeft : List (List ℕ) → List (List ℕ) → ℕ → Gate → List ℕ → Type 0
UnitRecordLeft before after unit gate held = (slice_index_or after unit [] ≡ slice_index_or before unit []) ⊎ IsEmptyAt after unit ⊎ HoldsRecord after unit gate held

-- A record is written to the five units of a place, of which this is the first.
pub record WritesRecord {T : Type 0} (before after : FlashState) (unit : ℕ) (gate : Gate) (held : List ℕ) (result : Result T FlashFailed) : Type 0 where
  pub units : List (List ℕ)
  pub on : OnSector before after 0 units
  pub apart : KeptApart (sector_at before.image 0) units unit (unit + 5)
  pub holds_record : OnOk result (HoldsRecord units unit gate held)
  pub one_of_forms : UnitRecordLeft (sector_at before.image 0) units unit gate held
  pub cause : OnErr result (HasRisenBy 1 before.faults after.faults)
