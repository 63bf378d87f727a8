use Rattle.flt_store_model.proofs.ImageLaws as laws
use Rattle.flt_store_model.proofs.laws.held_is_what_stands.Goals as goal

pub returns-clause-held : goal.returns-clause-held
returns-clause-held c = laws.held_stands

pub returns-clause-spare : goal.returns-clause-spare
returns-clause-spare c = laws.spare_stands
