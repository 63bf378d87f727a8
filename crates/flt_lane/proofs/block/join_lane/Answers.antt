use Rattle.std.proofs.Common.{sym, ◌∙◌}
use Rattle.std.proofs.lemmas.List.Elements.{All-head}
use Rattle.flt_lane.specs.Views.{known_by}
use Rattle.flt_lane.specs.Work.{AreSeatsOf}
use Rattle.flt_lane.proofs.block.join_lane.Goals as goal

pub join-requires-clause-lock : goal.join-requires-clause-lock
join-requires-clause-lock g c =
    let can = c.requires.can.1 in
    (can.dem.lock_is ∙ sym c.turn.ensures, (All-head (AreSeatsOf (known_by g.L.StatusLock.known c.args.locks.now)) c.args.work c.requires.can.0 can.seats).dem.0 ∙ sym c.turn.ensures)
