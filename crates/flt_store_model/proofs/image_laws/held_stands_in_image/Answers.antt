use Rattle.flt_store_model.proofs.WholeLaws as laws
use Rattle.flt_store_model.proofs.image_laws.held_stands_in_image.Goals as goal

pub returns-clause-held : goal.returns-clause-held
returns-clause-held c = laws.held_stands_in_image

pub returns-clause-spare : goal.returns-clause-spare
returns-clause-spare c = laws.spare_stands_in_image
