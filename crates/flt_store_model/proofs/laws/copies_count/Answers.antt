use Rattle.flt_store_model.proofs.ImageLaws as laws
use Rattle.flt_store_model.proofs.laws.copies_count.Goals as goal

pub returns-clause-either : goal.returns-clause-either
returns-clause-either c = laws.either_copy_counts

pub returns-clause-alone : goal.returns-clause-alone
returns-clause-alone c = laws.only_bytes_count
