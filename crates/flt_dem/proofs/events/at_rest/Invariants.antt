use Rattle.std.proofs.Common.{◌≡◌, [], map, take}
use Rattle.flt_model.specs.Debounce.{debounced}
use Rattle.flt_dem.proofs.events.at_rest.Given as goal

abbrev pub invariant-loop-event : goal.invariant-loop-event
invariant-loop-event l = l.debounces.items ≡ map (λ event. debounced event.debounce []) (take l.event-index l.event-items)
