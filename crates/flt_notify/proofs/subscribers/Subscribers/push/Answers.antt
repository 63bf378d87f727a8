use Rattle.std.proofs.Common.{refl, arith, length-append}
use Rattle.flt_notify.proofs.RowsLemmas.{rows_kinds-push}
use Rattle.flt_notify.proofs.subscribers.Subscribers.push.Goals as goal

pub invariant_of-self : goal.invariant_of-self
invariant_of-self g c = record { filled = rw c.push.ensures.items (rw rows_kinds-push (simp length-append (omega (arith, c.args.self.now.filled)))) }

pub returns : goal.returns
returns g c = rw c.push.ensures.items (rw rows_kinds-push refl)
