use Rattle.flt_model.proofs.RecentLaws.{recent_is_of_last_failure, recent_is_of_base}
use Rattle.flt_model.proofs.laws.recent_is_of_last_failure.Goals as goal

pub returns : goal.returns
returns c = record { failure = recent_is_of_last_failure; base = recent_is_of_base }
