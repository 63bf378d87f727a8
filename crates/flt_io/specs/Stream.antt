-- What callers may know of a source over a reader and a sink over a writer.
use Rattle.std.specs.Prelude.{ℕ}
use Rattle.flt_io.specs.declared.read_source.ReadSource.{ReadSource}
use Rattle.flt_io.specs.declared.write_sink.WriteSink.{WriteSink}

-- The reader of a source.
abbrev pub reader_of : {R : Type 0} → ReadSource R → R
reader_of s = s.inner

-- How often the source has failed.
abbrev pub read_faults : {R : Type 0} → ReadSource R → ℕ
read_faults s = s.faults

-- The writer of a sink.
abbrev pub writer_of : {W : Type 0} → WriteSink W → W
writer_of s = s.inner

-- How often the sink has failed.
abbrev pub write_faults : {W : Type 0} → WriteSink W → ℕ
write_faults s = s.faults
