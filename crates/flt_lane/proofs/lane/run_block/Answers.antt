use Rattle.std.proofs.Common.{◌<◌, length, arith}
use Rattle.flt_lane.specs.Views.{LaneWork, known_locks}
use Rattle.flt_lane.specs.Work.{HasConfig, IsPrepared}
use Rattle.flt_lane.proofs.Swapping.{all_exchanged, are_run, exchanged, stores_exchanged}
use Rattle.flt_lane.proofs.lane.run_block.Goals as goal

pub run_first-requires-clause-first : goal.run_first-requires-clause-first
run_first-requires-clause-first g c κs within =
    let stores = c.in-Some.ensures.some in
    stores_exchanged c.in-Some.place c.args.lanes.now c.swap.new.self (exchanged c.in-Some.place c.args.lanes.now c.swap.new.self stores.within c.swap.ensures.len c.swap.ensures.by_index) stores

pub run_first-requires-clause-ready : goal.run_first-requires-clause-ready
run_first-requires-clause-ready g c κs within =
    let stores = c.in-Some.ensures.some in
    all_exchanged (IsPrepared (known_locks c.args.locks.now)) c.in-Some.place c.args.lanes.now c.swap.new.self
    (exchanged c.in-Some.place c.args.lanes.now c.swap.new.self stores.within c.swap.ensures.len c.swap.ensures.by_index) c.requires.ready

pub run_first-requires-clause-config : goal.run_first-requires-clause-config
run_first-requires-clause-config g c κs within =
    let stores = c.in-Some.ensures.some in
    all_exchanged (λ (lane : LaneWork). HasConfig c.args.config.now lane.seats.dem) c.in-Some.place c.args.lanes.now c.swap.new.self
    (exchanged c.in-Some.place c.args.lanes.now c.swap.new.self stores.within c.swap.ensures.len c.swap.ensures.by_index) c.requires.config

pub returns-clause-ran : goal.returns-clause-ran
returns-clause-ran g c =
    let place = c.in-Some.place in
    let lanes = c.args.lanes.now in
    let begun = c.swap.new.self in
    let ended = c.run_first.new.lanes in
    let stores = c.in-Some.ensures.some in
    let len = c.swap.ensures.len in
    let run_len = c.run_first.ensures.ran.len in
    let inside = stores.within in
    let here : place < length ended = omega (arith, len, run_len, inside) in
    are_run c.args.config.now place lanes begun ended c.swap-2.new.self c.args.store.now c.run_first.new.store stores (exchanged place lanes begun inside len c.swap.ensures.by_index)
    (exchanged place ended c.swap-2.new.self here c.swap-2.ensures.len c.swap-2.ensures.by_index) c.run_first.ensures.ran
