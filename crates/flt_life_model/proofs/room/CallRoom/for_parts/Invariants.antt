use Rattle.std.proofs.Common.{◌≡◌, take}
use Rattle.std.specs.Prelude.{sum_by}
use Rattle.flt_step.specs.Part.{parts_of}
use Rattle.flt_life_model.specs.Parts.{calls_in, queued_in}
use Rattle.flt_life_model.proofs.room.CallRoom.for_parts.Given as goal

abbrev pub invariant-loop-part : goal.invariant-loop-part
invariant-loop-part l = record {
  machine : l.room.machine ≡ sum_by calls_in (parts_of (take l.part-index l.parts));
  queue : l.room.queue ≡ sum_by queued_in (parts_of (take l.part-index l.parts));
}
