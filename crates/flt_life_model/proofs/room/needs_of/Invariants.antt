use Rattle.std.proofs.Common.{◌≡◌, take, length, All}
use Rattle.std.specs.Prelude.{vec_len}
use Rattle.flt_step.specs.Part.{parts_of}
use Rattle.flt_life_model.specs.Parts.{lanes_in, own_steps, widths}
use Rattle.flt_life_model.specs.Room.{IsLaneRoom, sizes_of, steps_of}
use Rattle.flt_life_model.proofs.room.needs_of.Given as goal

abbrev pub invariant-loop-part : goal.invariant-loop-part
invariant-loop-part l = record {
  answers : l.answers ≡ length (own_steps (parts_of (take l.part-index l.parts)));
  bytes : l.bytes ≡ sizes_of (own_steps (parts_of (take l.part-index l.parts)));
  lanes : steps_of l.rooms.items ≡ lanes_in (parts_of (take l.part-index l.parts));
  len : vec_len l.rooms ≡ widths (parts_of (take l.part-index l.parts));
  ready : All IsLaneRoom l.rooms.items;
}
