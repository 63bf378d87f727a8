use Rattle.std.proofs.Common.{sym, ap}
use Rattle.flt_turn.proofs.Opens.{opens}
use Rattle.flt_turn.proofs.turn.Turn.make.Goals as goal

pub new-requires : goal.new-requires
new-requires g c =
    let empty = c.in-Ok.ensures.items in
    let room = c.in-Ok.ensures.capacity in
    rw (c.push_reserved.ensures.items, c.in-Ok-with_capacity.ensures.items)
    (opens _ _ _ empty (ap g.M.Machine.start (sym c.of.ensures)) room c.ranges.room.fits)
