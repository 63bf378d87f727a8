use Rattle.std.proofs.Common.{◌∙◌, ap, arith}
use Rattle.flt_model.specs.Happening.{are_met}
use Rattle.flt_dem.proofs.ConditionLemmas.{met_where}
use Rattle.flt_dem.proofs.conditions.Conditions.meet.Goals as goal

pub returns : goal.returns
returns c = met_where c.args.needs c.self.inside.missing (omega (arith, c.ranges.needs)) ∙ ap (are_met c.args.needs) c.self.view_is
