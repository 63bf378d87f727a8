use Rattle.std.proofs.Common.{◌≡◌, ◌∙◌, Some, sym, ap, subst}
use Rattle.flt_model.specs.Trace.{with_result}
use Rattle.flt_model.specs.declared.call.Qualified.TheVariants.{Passed}
use Rattle.flt_dem.specs.Standing.{DurablePartStands}
use Rattle.flt_dem.proofs.durable.DurablePart.take.Goals as goal

pub returns-in-Some-Passed-clause-stands : goal.returns-in-Some-Passed-clause-stands
returns-in-Some-Passed-clause-stands g c = λ life marks s.
    let values = c.args.signals.now.values in
    let passed : c.in-Some-Passed.field-0 ≡ Passed = rw c.in-Some-Passed.is at c.in-Some-Passed.field-0-is in
    let is : c.args.qualified ≡ Some Passed = c.in-Some-Passed.is ∙ ap Some passed in
    subst (λ q. DurablePartStands life (with_result life values c.args.event q marks) c.pass.new.self) (sym is) (c.pass.ensures.stands values life marks s)
