use Rattle.std.proofs.Common.{inr, refl}
use Rattle.flt_did.specs.Table.{dids_of}
use Rattle.flt_examine.specs.Traced.{RunsOnBlank}
use Rattle.flt_examine.proofs.LastLife.{refused_is_told}
use Rattle.flt_examine.proofs.Made.{of_some}
use Rattle.flt_examine.proofs.tracing.trace_refused.Goals as goal

pub returns : goal.returns
returns g c =
    let dids = dids_of c.args.dids in
    let outcome = c.in_ok-outcome.outcome in
    let run = of_some (RunsOnBlank dids c.args.bytes.now) c.run_on_blank.result outcome c.in_ok-outcome.was c.run_on_blank.ensures in
    (run, record { status = refl; text = inr (refused_is_told dids c.args.bytes.now outcome c.requires run, c.new.ensures.items) })
