use Rattle.flt_store_model.proofs.Pages.{borne_has_room}
use Rattle.flt_store_model.proofs.laws.borne_excess_leaves_room.Goals as goal

pub returns : goal.returns
returns c = borne_has_room
