use Rattle.flt_model.proofs.EnableLaws.{events_without_needs, events_are_enabled}
use Rattle.flt_model.proofs.ConditionLaws.{conditions_that_nobody_needs}
use Rattle.flt_model.proofs.laws.conditions_matter_where_needed.Goals as goal

pub returns : goal.returns
returns c = record { needs = events_without_needs; first = events_are_enabled; nobody = conditions_that_nobody_needs }
