use Rattle.std.proofs.Common.{◌≡◌, ◌≤◌, ◌++◌, length, map, take}
use Rattle.flt_step.specs.Part.{parts_of}
use Rattle.flt_life_model.specs.Parts.{widths}
use Rattle.flt_life_model.specs.Room.{told_in}
use Rattle.flt_report.specs.Life.{parts_text}
use Rattle.flt_report.proofs.PartsLeft.{parts_left}
use Rattle.flt_report.specs.Left.{IsWritten}
use Rattle.flt_report.proofs.writing.put_parts.Given as goal

abbrev pub invariant-loop-part : goal.invariant-loop-part
invariant-loop-part g l = record {
  later : g.K.Sink.faults l.fn.sink ≤ g.K.Sink.faults l.sink;
  written : IsWritten (g.K.Sink.held l.fn.sink) (g.K.Sink.held l.sink) (l.piece.items ++ parts_left l.parts (told_in l.own) (map told_in l.told) l.part-index l.answered l.lanes_told)
      (l.fn.piece.items ++ parts_text 1 (parts_of l.parts) (told_in l.own) (map told_in l.told));
  answered : l.answered ≤ length l.own.answers.items;
  lanes : l.lanes_told ≡ widths (parts_of (take l.part-index l.parts));
}
