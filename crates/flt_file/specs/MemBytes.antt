-- What bytes in memory are.
use Rattle.std.specs.Prelude.{ℕ, List}
use Rattle.flt_file.specs.declared.memory.MemBytes.{MemBytes}

abbrev pub memory_bytes : MemBytes → List ℕ
memory_bytes store = store.bytes.items
