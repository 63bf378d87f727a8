use Rattle.std.proofs.Common.{◌<◌, length, refl, arith}
use Rattle.std.proofs.lemmas.List.{length-take}
use Rattle.flt_io.proofs.Taken.{lost_all, took_all, took_enough}
use Rattle.flt_io.proofs.front.read_front.Goals as goal

pub returns-then-count-eq0-clause-read : goal.returns-then-count-eq0-clause-read
returns-then-count-eq0-clause-read g c =
    let taken = c.loop-piece.invariant.taken in
    let here = c.in_ok-count.ensures.bytes in
    let room : 0 < length c.pull.new.out = omega (arith, length-take c.min-room.result c.loop-piece.piece, c.loop-piece.invariant.room, c.min-room.ensures, c.pull.auto.out) in
    took_all _ _ _ _ _ _ taken here.0 (rw c.if-count-eq0.true refl) (here.1 c.if-count-eq0.true room) (omega (arith, c.loop-piece.bytes.ok.0))

pub returns-clause-read : goal.returns-clause-read
returns-clause-read g c = took_enough _ _ _ _ c.loop-piece.invariant.taken (omega (arith, c.loop-piece.bytes.ok.0))

pub returns-then-count-eq0-clause-lost : goal.returns-then-count-eq0-clause-lost
returns-then-count-eq0-clause-lost g c =
    let here = c.in_ok-count.ensures.bytes in
    lost_all _ _ _ _ _ c.loop-piece.invariant.taken here.0 (rw c.if-count-eq0.true refl)

pub returns-clause-lost : goal.returns-clause-lost
returns-clause-lost g c = c.loop-piece.invariant.taken
