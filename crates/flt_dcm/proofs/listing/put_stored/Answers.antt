use Rattle.flt_dcm.proofs.ListLemmas.{records_fit}
use Rattle.flt_dcm.proofs.listing.put_stored.Goals as goal

pub put_records-requires-clause-room : goal.put_records-requires-clause-room
put_records-requires-clause-room c =
    records_fit c.args.dem.now c.loop-event.event c.event_count-count.result c.loop-event.out.items c.loop-event.invariant
    c.loop-event-test.true c.event_count-count.ensures.entries
