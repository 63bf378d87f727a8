use Rattle.std.proofs.Common.{rules}
use Rattle.flt_config.proofs.CheckLaws.{valid_from_ok}
use Rattle.flt_config.proofs.valid_config.verdict.Goals as goal

pub returns-clause-valid : goal.returns-clause-valid
returns-clause-valid c = valid_from_ok c.args.config.now (search rules) (search rules) (search rules)
