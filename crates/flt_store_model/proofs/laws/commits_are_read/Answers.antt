use Rattle.flt_store_model.proofs.Commits.{few_events}
use Rattle.flt_store_model.proofs.ImageLaws as laws
use Rattle.flt_store_model.proofs.laws.commits_are_read.Goals as goal

pub returns : goal.returns
returns c = record { read = laws.commits_are_read; few = few_events }
