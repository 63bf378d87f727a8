use Rattle.std.proofs.Common.{◌≡◌, ◌≤◌, ◌∙◌, [], ap, length, take, arith, length-take-le}
use Rattle.std.proofs.lemmas.List.{length-map}
use Rattle.flt_config.specs.declared.config.EventCfg.{EventCfg}
use Rattle.flt_model.specs.Debounce.{debounced}
use Rattle.flt_dem.proofs.events.at_rest.Goals as goal

pub push-requires : goal.push-requires
push-requires c =
    let done = c.loop-event.event-index in
    let events = c.as_slice-event-items.result.now in
    let within : done ≤ length events = omega (arith, c.loop-event-test.true) in
    let long : length c.loop-event.debounces.items ≡ done =
    ap length c.loop-event.invariant ∙ length-map (take done events) (λ (event : EventCfg). debounced event.debounce []) ∙ length-take-le done events within in
    (omega arith, omega (arith, long, c.loop-event-test.true, c.as_slice-event-items.ensures.fits))
