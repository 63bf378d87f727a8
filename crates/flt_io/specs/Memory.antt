-- What callers may know of a source and a sink in memory.
use Rattle.std.specs.Prelude.{ℕ, List, drop}
use Rattle.flt_io.specs.declared.mem_source.MemSource.{MemSource}
use Rattle.flt_io.specs.declared.mem_sink.MemSink.{MemSink}

-- The bytes that were not pulled yet.
abbrev pub bytes_left : MemSource → List ℕ
bytes_left s = drop s.taken s.bytes.items

-- The numbers of the pulls that fail.
abbrev pub failing_pulls : MemSource → List ℕ
failing_pulls s = s.failing.items

-- How many pulls were made.
abbrev pub pulls_made : MemSource → ℕ
pulls_made s = s.calls

-- How many pulls failed.
abbrev pub pull_faults : MemSource → ℕ
pull_faults s = s.faults

-- The bytes that were pushed.
abbrev pub bytes_held : MemSink → List ℕ
bytes_held s = s.bytes.items

-- The most bytes that the sink takes.
abbrev pub room_of : MemSink → ℕ
room_of s = s.room

-- The numbers of the pushes that fail.
abbrev pub failing_pushes : MemSink → List ℕ
failing_pushes s = s.failing.items

-- How many pushes were made.
abbrev pub pushes_made : MemSink → ℕ
pushes_made s = s.calls

-- How many pushes failed.
abbrev pub push_faults : MemSink → ℕ
push_faults s = s.faults
