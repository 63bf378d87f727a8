use Rattle.flt_model.proofs.RoomLaws.{fitting_base_has_room, entries_keep_room}
use Rattle.flt_model.proofs.laws.entries_keep_room.Goals as goal

pub returns : goal.returns
returns c = record { base = fitting_base_has_room; calls = entries_keep_room }
