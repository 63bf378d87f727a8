use Rattle.flt_image.proofs.Rows.{numbers_differ}
use Rattle.flt_image.proofs.laws.numbers_are_distinct.Goals as goal

pub returns : goal.returns
returns c = numbers_differ
