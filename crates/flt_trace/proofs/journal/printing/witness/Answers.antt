use Rattle.std.proofs.Common.{arith}
use Rattle.flt_trace.proofs.Printed.{all_bytes}
use Rattle.flt_trace.proofs.journal.printing.witness.Goals as goal

pub returns : goal.returns
returns c = all_bytes c.args.bytes.now (λ index. let small = c.type_inv.bytes index in omega (arith, small))
