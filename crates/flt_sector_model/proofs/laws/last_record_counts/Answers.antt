use Rattle.flt_sector_model.proofs.LastRecord as lemmas
use Rattle.flt_sector_model.proofs.laws.last_record_counts.Goals as goal

pub returns : goal.returns
returns c = lemmas.last_record_counts
