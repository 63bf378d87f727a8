use Rattle.std.proofs.Common.{◌≤◌}
use Rattle.flt_life_model.specs.Room.{told_in}
use Rattle.flt_report.specs.Life.{lines_text}
use Rattle.flt_report.specs.Left.{IsWritten}
use Rattle.flt_report.proofs.Written.{steps_left}
use Rattle.flt_report.proofs.writing.write_steps.Given as goal

abbrev pub invariant-loop-index : goal.invariant-loop-index
invariant-loop-index g l = record {
  later : g.K.Sink.faults l.fn.sink ≤ g.K.Sink.faults l.sink;
  written : IsWritten (g.K.Sink.held l.fn.sink) (g.K.Sink.held l.sink) (steps_left l.replies.responses.items l.steps l.replies.answers.items l.index)
      (lines_text l.steps (told_in l.replies));
}
