use Rattle.std.proofs.Common.{◌∷◌}
use Rattle.flt_dcm.proofs.UnitLemmas.{says_standard}
use Rattle.flt_dcm.proofs.unit.Unit.apply_into.Goals as goal

pub returns-clause-standard : goal.returns-clause-standard
returns-clause-standard g c = λ life past s. says_standard life (c.args.op.now ∷ past) c.step.new.self (c.step.ensures.applied.stands life past s)
