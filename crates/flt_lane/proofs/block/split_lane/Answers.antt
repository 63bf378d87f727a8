use Rattle.std.proofs.Common.{arith, ap, refl, sym, ◌∙◌}
use Rattle.flt_turn.specs.Seats.{split_off, split_seat}
use Rattle.flt_lane.specs.Views.{known_by}
use Rattle.flt_lane.proofs.Seating.{calls_for, lane_for, queued_for, seated}
use Rattle.flt_lane.proofs.block.split_lane.Goals as goal

pub for_lane-calls-requires : goal.for_lane-calls-requires
for_lane-calls-requires g c = (lane_for (known_by g.L.StatusLock.known c.args.locks.now) c.args.main.now c.args.room c.requires.can.0 c.requires.can.1).1

pub split-dem-requires : goal.split-dem-requires
split-dem-requires g c =
    let can = c.requires.can.1 in
    let calls = calls_for (known_by g.L.StatusLock.known c.args.locks.now) c.args.main.now c.args.room c.requires.can.0 can in
    record {
      lock = can.dem.main_is.lock_is ∙ sym c.turn.ensures;
      main = can.dem.main_is.number_is;
      calls = omega (arith, calls, c.for_lane-calls.ensures.machine);
      children = omega (arith, can.dem.numbers);
    }

pub split-queue-requires : goal.split-queue-requires
split-queue-requires g c =
    let can = c.requires.can.1 in
    let queued = queued_for (known_by g.L.StatusLock.known c.args.locks.now) c.args.main.now c.args.room c.requires.can.0 can in
    record {
      lock = can.queue.main_is.lock_is;
      main = can.queue.main_is.number_is;
      calls = omega (arith, queued, c.for_lane-calls.ensures.queue);
      children = omega (arith, can.queue.numbers);
    }

pub returns : goal.returns
returns g c =
    let calls = c.for_lane-calls.ensures in
    let dem = c.args.main.now.dem in
    let queue = c.args.main.now.queue in
    record {
      seated = seated (known_by g.L.StatusLock.known c.args.locks.now) c.args.main.now c.args.room c.requires.can.0 c.requires.can.1 _ _
          (c.split-dem.ensures.main ∙ ap (λ n. split_off n dem) calls.machine) (c.split-queue.ensures.main ∙ ap (λ n. split_off n queue) calls.queue)
          (c.split-dem.ensures.seat ∙ ap (λ n. split_seat n dem) calls.machine) (c.split-queue.ensures.seat ∙ ap (λ n. split_seat n queue) calls.queue) c.number-number.ensures refl refl;
    }
