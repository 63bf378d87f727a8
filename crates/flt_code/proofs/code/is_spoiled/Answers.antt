use Rattle.std.proofs.Common.{sym, arith}
use Rattle.flt_code.proofs.Unspoiled.{unspoiled_from, spoiled_by}
use Rattle.flt_code.proofs.code.is_spoiled.Goals as goal

pub returns-then-page-byte : goal.returns-then-page-byte
returns-then-page-byte c = sym (spoiled_by c.args.page.now c.loop-byte.byte (omega arith) c.if-page-byte.true)

pub returns : goal.returns
returns c = sym (unspoiled_from c.args.page.now (λ k lt. c.loop-byte.invariant k (omega arith)))
