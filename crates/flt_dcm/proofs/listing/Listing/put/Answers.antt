use Rattle.flt_dcm.proofs.ListLemmas.{list_fits}
use Rattle.flt_dcm.proofs.listing.Listing.put.Goals as goal

pub put_event-requires-clause-room : goal.put_event-requires-clause-room
put_event-requires-clause-room c =
    list_fits c.args.self c.args.dem.now c.loop-event.event c.event_count-event-end.result c.loop-event.out.items c.loop-event.invariant
    c.loop-event-test.true c.event_count-event-end.ensures.events
