-- What the part that a flash and an EEPROM in a file share means.
use Rattle.std.specs.Prelude.{ℕ, List, Option, unwrap_or}
use Rattle.flt_file.specs.Kept.{KeptState}
use Rattle.flt_file.specs.Stage.{is_off, boots_at, boots_left_at}
use Rattle.flt_file.specs.declared.kept.Kept.{Kept}

-- Its bytes are those that the store reveals, or else those of the copy in memory.
abbrev pub kept_of : {B : Type 0} {g : _} → (B → Option (List ℕ)) → Kept B g → KeptState
kept_of told kept = record {
  bytes = unwrap_or (told kept.store) kept.bytes.items;
  is_off = is_off kept.stage;
  faults = kept.faults;
  operations = kept.operations;
  boots = boots_at kept.stage (record { faults = kept.boot_faults; bytes = kept.boot_bytes.items });
  boots_left = boots_left_at kept.stage;
}
