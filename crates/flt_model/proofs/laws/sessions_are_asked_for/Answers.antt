use Rattle.flt_model.proofs.SessionLaws.{extended_where_asked}
use Rattle.flt_model.proofs.HoldLaws.{held_where_asked, default_holds_nothing}
use Rattle.flt_model.proofs.laws.sessions_are_asked_for.Goals as goal

pub returns : goal.returns
returns c = record { extended = extended_where_asked; held = held_where_asked; default = default_holds_nothing }
