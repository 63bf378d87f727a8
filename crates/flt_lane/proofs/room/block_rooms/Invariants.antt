use Rattle.flt_step.specs.Part.{parts_of}
use Rattle.flt_lane.proofs.Parts.{left_of}
use Rattle.flt_lane.proofs.Rooms.{AreHandedOut}
use Rattle.flt_lane.proofs.room.block_rooms.Given as goal

abbrev pub invariant-loop-part : goal.invariant-loop-part
invariant-loop-part g l = AreHandedOut (parts_of l.parts) (left_of l.parts l.part-index) l.rooms.items l.lanes.rest.items
