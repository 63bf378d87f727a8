use Rattle.std.proofs.Common.{arith, ◌∙◌, sym, ap}
use Rattle.flt_config.specs.Ranges.{ranges_result, event_settings}
use Rattle.flt_config.proofs.RangesLemmas.{events_settings-ok, events_settings-err, events_settings-end}
use Rattle.flt_config.proofs.ranges.check_events.Goals as goal

pub returns-in_err-check_event : goal.returns-in_err-check_event
returns-in_err-check_event c =
    let same = ap (λ e. ranges_result (event_settings c.loop-number.number e)) c.index-events-number.is in
    grind (arith, c.loop-number.invariant, events_settings-err)

pub loop-number-preserved : goal.loop-number-preserved
loop-number-preserved c =
    let same = ap (λ e. ranges_result (event_settings c.loop-number.number e)) c.index-events-number.is in
    grind (arith, c.loop-number.invariant, events_settings-ok c.args.events.now c.loop-number.number c.index-events-number.result)

pub returns : goal.returns
returns c = sym (c.loop-number.invariant ∙ events_settings-end c.args.events.now c.loop-number.number c.loop-number-test.false)
