use Rattle.std.proofs.Common.{◌≤◌, map}
use Rattle.flt_life_model.specs.Room.{told_in}
use Rattle.flt_report.specs.Left.{IsWritten}
use Rattle.flt_report.specs.Life.{lane_steps, lanes_text}
use Rattle.flt_report.proofs.Written.{lanes_left}
use Rattle.flt_report.proofs.writing.write_lanes.Given as goal

abbrev pub invariant-loop-index : goal.invariant-loop-index
invariant-loop-index g l = record {
  later : g.K.Sink.faults l.fn.sink ≤ g.K.Sink.faults l.sink;
  written : IsWritten (g.K.Sink.held l.fn.sink) (g.K.Sink.held l.sink) (lanes_left l.number l.lanes l.told l.index) (lanes_text l.number (lane_steps l.lanes) (map told_in l.told));
}
