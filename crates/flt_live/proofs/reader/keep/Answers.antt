use Rattle.std.proofs.Common.{◌∙◌, rules}
use Rattle.flt_live.proofs.Taking.{short_more, long_more}
use Rattle.flt_live.proofs.reader.keep.Goals as goal

pub returns-then-len-lt-KEPT-clause-kept : goal.returns-then-len-lt-KEPT-clause-kept
returns-then-len-lt-KEPT-clause-kept c = λ whole is. c.push_reserved.ensures.items ∙ short_more whole c.args.line.now.items c.args.byte is (search rules)

pub returns-else-len-lt-KEPT-clause-kept : goal.returns-else-len-lt-KEPT-clause-kept
returns-else-len-lt-KEPT-clause-kept c = λ whole is. long_more whole c.args.line.now.items c.args.byte is (search rules)
