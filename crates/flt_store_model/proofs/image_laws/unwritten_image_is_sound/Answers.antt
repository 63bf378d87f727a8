use Rattle.flt_store_model.proofs.WholeLaws.{unwritten_holds_first, blank_holds_first}
use Rattle.flt_store_model.proofs.image_laws.unwritten_image_is_sound.Goals as goal

pub returns-clause-unwritten : goal.returns-clause-unwritten
returns-clause-unwritten c = unwritten_holds_first

pub returns-clause-blank : goal.returns-clause-blank
returns-clause-blank c = blank_holds_first
