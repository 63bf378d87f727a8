use Rattle.flt_model.proofs.EnableLaws.{disabled_events_are_left, disabled_events_go_on, disabled_events_are_ended_and_cleared}
use Rattle.flt_model.proofs.laws.disabled_events_stand_still.Goals as goal

pub returns : goal.returns
returns c = record { left = disabled_events_are_left; goes_on = disabled_events_go_on; ends = disabled_events_are_ended_and_cleared }
