use Rattle.std.proofs.Common.{◌≡◌, ◌-◌, ◌≤◌, length, take}
use Rattle.std.specs.Io.KnownBytes.{Appends}
use Rattle.flt_io.proofs.write_sink.WriteSinkSink.push.Given as goal

abbrev pub invariant-loop-sent : goal.invariant-loop-sent
invariant-loop-sent g l = record {
  within : l.sent ≤ length l.piece;
  sound : l.self.faults ≡ l.fn.self.faults;
  front : Appends (g.W.Write.contents l.fn.self.inner) (g.W.Write.contents l.self.inner) (take l.sent l.piece);
}

abbrev pub decreases-loop-sent : goal.decreases-loop-sent
decreases-loop-sent g l = length l.piece - l.sent
