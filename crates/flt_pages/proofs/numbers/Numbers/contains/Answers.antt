use Rattle.std.proofs.Common.{◌∙◌}
use Rattle.flt_pages.proofs.Rows.{is_among}
use Rattle.flt_pages.proofs.numbers.Numbers.contains.Goals as goal

pub returns : goal.returns
returns c = c.is_some.ensures ∙ is_among c.args.self.now c.args.block c.index_of.result c.index_of.ensures.found c.index_of.ensures.none
