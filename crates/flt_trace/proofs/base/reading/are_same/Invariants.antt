use Rattle.std.proofs.Common.{◌≡◌, take}
use Rattle.std.specs.Prelude.{map}
use Rattle.std.specs.String.{string_bytes}
use Rattle.flt_trace.specs.Trace.{texts_seen}
use Rattle.flt_trace.proofs.base.reading.are_same.Given as goal

abbrev pub invariant-loop-place : goal.invariant-loop-place
invariant-loop-place l = take l.place (texts_seen l.texts) ≡ take l.place (map string_bytes l.printed)
