use Rattle.std.proofs.Common.{[], ap, refl, rules, ◌∙◌}
use Rattle.flt_config.specs.declared.config.Config.{Config}
use Rattle.flt_lane.specs.Views.{known_locks}
use Rattle.flt_lane.proofs.Running.{begins, calls_left, goes_on, has_run, possible_next, queued_left, room_next, start_now, take_past}
use Rattle.flt_lane.proofs.Storing.{has_stored, leaves_step, storing_begins, storing_more}
use Rattle.flt_lane.proofs.Starts.{config_stays}
use Rattle.flt_lane.proofs.lane.run_store_lane.Goals as goal

pub loop-index-init : goal.loop-index-init
loop-index-init g c = storing_begins c.args.config.now (known_locks c.args.locks.now) c.args.lane.now c.args.store.now (begins (known_locks c.args.locks.now) c.args.lane.now c.requires.ready)

pub do_step-requires-clause-ready : goal.do_step-requires-clause-ready
do_step-requires-clause-ready g c =
    let seats = c.loop-index.invariant.part.seats in
    let start = start_now (known_locks c.args.locks.now) c.args.lane.now c.loop-index.lane c.loop-index.index c.index-steps-index.result c.requires.ready c.loop-index.invariant.part (search rules) c.index-steps-index.is in
    let config = config_stays c.args.config.now c.args.lane.now.seats.dem c.loop-index.lane.seats.dem start c.requires.store.config in
    record {
      dem = record { lock = seats.dem; has = config };
      queue = record { lock = seats.queue; blocks = seats.blocks ∙ ap (λ (config : Config). config.blocks) config.same; valid = config.valid };
    }

pub do_step-requires-clause-alive : goal.do_step-requires-clause-alive
do_step-requires-clause-alive g c = (c.loop-index.invariant.carries []).alive c.requires.store.alive

pub do_step-requires-clause-calls : goal.do_step-requires-clause-calls
do_step-requires-clause-calls g c = record {
  dem = calls_left (known_locks c.args.locks.now) c.args.lane.now c.loop-index.lane c.loop-index.index c.index-steps-index.result c.requires.ready c.loop-index.invariant.part (search rules) c.index-steps-index.is;
  queue = queued_left (known_locks c.args.locks.now) c.args.lane.now c.loop-index.lane c.loop-index.index c.index-steps-index.result c.requires.ready c.loop-index.invariant.part (search rules) c.index-steps-index.is;
}

pub do_step-requires-clause-room : goal.do_step-requires-clause-room
do_step-requires-clause-room g c =
    room_next (known_locks c.args.locks.now) c.args.lane.now c.loop-index.lane c.loop-index.index c.index-steps-index.result c.requires.ready c.loop-index.invariant.part (search rules) c.index-steps-index.is

pub loop-index-preserved : goal.loop-index-preserved
loop-index-preserved g c =
    let taken = c.do_step.ensures.takes in
    let on = c.loop-index.invariant in
    let step = c.index-steps-index.result in
    let possible = possible_next (known_locks c.args.locks.now) c.args.lane.now c.loop-index.lane c.loop-index.index step c.requires.ready on.part (search rules) c.index-steps-index.is in
    let more = goes_on (known_locks c.args.locks.now) c.args.lane.now _ c.loop-index.index step c.requires.ready on.part (search rules) c.index-steps-index.is _ taken.made refl refl c.do_step.ensures.lock c.do_step.ensures.queue in
    storing_more c.args.config.now (known_locks c.args.locks.now) c.args.lane.now _ _ c.loop-index.index step taken.made.answer c.args.store.now _ c.do_step.new.store (search rules) c.index-steps-index.is on more taken.made.keeps.told taken.carries
    (leaves_step step _ c.do_step.new.store possible.0 taken.keeps_driver taken.arms_made taken.armed)

pub returns-clause-ran : goal.returns-clause-ran
returns-clause-ran g c =
    has_stored c.args.config.now (known_locks c.args.locks.now) c.args.lane.now _ c.loop-index.index c.args.store.now _ c.loop-index.invariant (take_past c.loop-index.index c.args.lane.now.steps.now (search rules))
    (has_run (known_locks c.args.locks.now) c.args.lane.now _ c.loop-index.index c.loop-index.invariant.part (search rules))
