use Rattle.std.proofs.Common.{◌≤◌}
use Rattle.flt_report.specs.Left.{IsWritten}
use Rattle.flt_run.specs.Left.{lives_left}
use Rattle.flt_run.proofs.ending.write_lives.Given as goal

abbrev pub invariant-loop-index : goal.invariant-loop-index
invariant-loop-index g l = record {
  later : g.K.Sink.faults l.fn.sink ≤ g.K.Sink.faults l.sink;
  written : IsWritten (g.K.Sink.held l.fn.sink) (g.K.Sink.held l.sink) (lives_left l.made.script.items l.made.lives.items l.index) (lives_left l.made.script.items l.made.lives.items l.from);
  from : l.from ≤ l.index;
}
