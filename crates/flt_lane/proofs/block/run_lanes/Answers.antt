use Rattle.std.proofs.Common.{◌≡◌, ◌+◌, ◌≤◌, inr, ◌∷◌, All, length, map, arith, ap, subst, sym, ◌∙◌}
use Rattle.std.specs.Prelude.{vec_len}
use Rattle.std.proofs.lemmas.List.{length-map}
use Rattle.std.proofs.lemmas.List.Elements.{All-head}
use Rattle.flt_config.specs.declared.config.Config.{Config}
use Rattle.flt_step.specs.Step.{store_lanes}
use Rattle.flt_lane.specs.Views.{BlockRoom, IsOfLock, LaneWork, known_by}
use Rattle.flt_life_model.specs.declared.room.LaneRoom.{LaneRoom}
use Rattle.flt_life_model.specs.Parts.{calls_of}
use Rattle.flt_life_model.specs.Room.{told_in}
use Rattle.flt_fork.proofs.Passed.{split_each}
use Rattle.flt_lane.specs.BlockRun.{GainsPart}
use Rattle.flt_lane.specs.Keeping.{AreAllowed}
use Rattle.flt_lane.specs.Room.{IsBlockRoom, IsLaneFor, lanes_of}
use Rattle.flt_lane.specs.Work.{HasConfig}
use Rattle.flt_lane.proofs.Lives.{able_for, all_mapped, calls_for, can_behind, gains_block, part_allowed, part_for, queued_for}
use Rattle.flt_lane.proofs.Rooms.{rooms_behind}
use Rattle.flt_lane.proofs.Starts.{config_stays}
use Rattle.flt_lane.proofs.WorkRuns.{has_run_lanes}
use Rattle.flt_lane.proofs.block.run_lanes.Given as given
use Rattle.flt_lane.proofs.block.run_lanes.Goals as goal

-- As many lanes as rooms of lanes.
long : (room : BlockRoom) → length (lanes_of room) ≡ length room.lanes.items
long room = length-map room.lanes.items (λ (r : LaneRoom). r.steps.now)

pub seat_lanes-works-requires-clause-can : goal.seat_lanes-works-requires-clause-can
seat_lanes-works-requires-clause-can g c =
    let can = c.requires.can.2 in
    let locks = (known_by g.L.StatusLock.known c.args.common.now.locks.now) in
    let config = c.args.common.now.config.now in
    let part = inr (lanes_of c.args.room) in
    let rooms = c.args.room ∷ c.requires.can.0 in
    let same = long c.args.room in
    record {
      dem = record {
        main_is = record { lock_is = can.ready.dem.lock.0; number_is = can.main.0.number_is };
        numbers = omega (arith, can.calls.dem_numbers, same);
        enough = calls_for g.S.LifeStore.keeping g.met.S.LifeStore.laws locks config c.args.seats.now c.args.store.now rooms c.args.answers.now part c.requires.can.1 can;
      };
      queue = record {
        main_is = record { lock_is = can.ready.queue.lock; number_is = can.main.1.number_is };
        numbers = omega (arith, can.calls.queue_numbers, same);
        enough = queued_for g.S.LifeStore.keeping g.met.S.LifeStore.laws locks config c.args.seats.now c.args.store.now rooms c.args.answers.now part c.requires.can.1 can;
      };
      config = can.ready.dem.lock.1;
      blocks = can.ready.queue.blocks ∙ ap (λ (config : Config). config.blocks) (sym can.ready.dem.has.same);
      ready = (All-head IsBlockRoom c.args.room c.requires.can.0 can.rooms_are.ready).ready;
      steps = subst (λ (d : Config). All (IsLaneFor d) (lanes_of c.args.room)) (sym can.ready.dem.has.same)
          (part_for g.S.LifeStore.keeping g.met.S.LifeStore.laws locks config c.args.seats.now c.args.store.now rooms c.args.answers.now part c.requires.can.1 can).0;
    }

pub seat_lanes-works-requires-clause-room : goal.seat_lanes-works-requires-clause-room
seat_lanes-works-requires-clause-room g c = All-head IsBlockRoom c.args.room c.requires.can.0 c.requires.can.2.rooms_are.ready

pub run_works-requires-clause-ready : goal.run_works-requires-clause-ready
run_works-requires-clause-ready g c κs within = c.seat_lanes-works.ensures.seated.ready

pub run_works-requires-clause-one_stores : goal.run_works-requires-clause-one_stores
run_works-requires-clause-one_stores g c κs within =
    let steps = part_for g.S.LifeStore.keeping g.met.S.LifeStore.laws (known_by g.L.StatusLock.known c.args.common.now.locks.now) c.args.common.now.config.now c.args.seats.now c.args.store.now (c.args.room ∷ c.requires.can.0) c.args.answers.now (inr (lanes_of c.args.room)) c.requires.can.1 c.requires.can.2 in
    subst (λ l. store_lanes l ≤ 1) (sym c.seat_lanes-works.ensures.seated.steps_are) steps.1

pub run_works-requires-clause-allowed : goal.run_works-requires-clause-allowed
run_works-requires-clause-allowed g c κs within =
    all_mapped (λ (w : LaneWork). w.steps.now) (AreAllowed g.S.LifeStore.keeping) c.seat_lanes-works.result.items
    (subst (All (AreAllowed g.S.LifeStore.keeping)) (sym c.seat_lanes-works.ensures.seated.steps_are)
    (part_allowed g.S.LifeStore.keeping g.met.S.LifeStore.laws (known_by g.L.StatusLock.known c.args.common.now.locks.now) c.args.common.now.config.now c.args.seats.now c.args.store.now (c.args.room ∷ c.requires.can.0) c.args.answers.now (inr (lanes_of c.args.room)) c.requires.can.1 c.requires.can.2))

pub run_works-requires-clause-config : goal.run_works-requires-clause-config
run_works-requires-clause-config g c κs within =
    let config = c.args.common.now.config.now in
    split_each (λ (w : LaneWork). w.seats.dem) (λ w. calls_of w.steps.now) c.args.seats.now.dem (λ w. HasConfig config w.seats.dem) (λ number w is. config_stays config c.args.seats.now.dem w.seats.dem is.start_is c.requires.can.2.ready.dem.has) _
    c.seat_lanes-works.result.items c.seat_lanes-works.ensures.seated.dem

pub run_works-requires-clause-able : goal.run_works-requires-clause-able
run_works-requires-clause-able g c κs within =
    able_for g.S.LifeStore.keeping g.met.S.LifeStore.laws (known_by g.L.StatusLock.known c.args.common.now.locks.now) c.args.common.now.config.now c.args.seats.now c.args.store.now (c.args.room ∷ c.requires.can.0) c.args.answers.now (inr (lanes_of c.args.room)) c.requires.can.1 c.requires.can.2

pub join_lanes-requires-clause-can : goal.join_lanes-requires-clause-can
join_lanes-requires-clause-can g c =
    let can = c.requires.can.2 in
    let dem = c.seat_lanes-works.ensures.seated.dem_off in
    let queue = c.seat_lanes-works.ensures.seated.queue_off in
    record {
      dem = record { lock_is = dem.lock_is ∙ can.ready.dem.lock.0; number_is = dem.number_is ∙ can.main.0.number_is };
      queue = record { lock_is = queue.lock_is ∙ can.ready.queue.lock; number_is = queue.number_is ∙ can.main.1.number_is };
      config = ap (λ s. s.config) dem.start_is ∙ can.ready.dem.lock.1;
      seats = c.run_works.ensures.seats;
    }

told_len : (g : given.Over) (c : goal.After-join_lanes g) → vec_len c.join_lanes.new.told ≡ vec_len c.args.answers.now.told + length (lanes_of c.args.room)
told_len g c =
    let ran : length c.run_works.new.works.items ≡ length c.seat_lanes-works.result.items = c.run_works.ensures.ran.len in
    let same = long c.args.room in
    omega (arith, c.join_lanes.ensures.len, ran, c.seat_lanes-works.ensures.count, same)

gains : (g : given.Over) (c : goal.After-join_lanes g) → GainsPart g.S.LifeStore.keeping c.args.common.now.config.now c.args.seats.now c.join_lanes.new.main (inr (lanes_of c.args.room))
    (told_in c.args.answers.now.own) (told_in c.args.answers.now.own) (map told_in c.args.answers.now.told.items) (map told_in c.join_lanes.new.told.items) c.args.store.now c.run_works.new.store
gains g c =
    let before = c.args.seats.now in
    let after = c.join_lanes.new.main in
    let told = map told_in c.args.answers.now.told.items in
    let told_after = map told_in c.join_lanes.new.told.items in
    let can = c.requires.can.2 in
    gains_block g.S.LifeStore.keeping c.args.common.now.config.now before after c.args.store.now c.run_works.new.store (lanes_of c.args.room) (told_in c.args.answers.now.own) told told_after
    (has_run_lanes g.S.LifeStore.keeping (known_by g.L.StatusLock.known c.args.common.now.locks.now) c.args.common.now.config.now before c.seat_lanes-works.new.main after (lanes_of c.args.room) c.seat_lanes-works.result.items c.run_works.new.works.items
    told told_after c.args.store.now c.run_works.new.store can.main.0 can.main.1 c.seat_lanes-works.ensures.seated c.run_works.ensures.ran c.run_works.ensures.carries c.join_lanes.ensures.joined)

pub returns-clause-runs : goal.returns-clause-runs
returns-clause-runs g c = record { gains = gains g c; told_len = told_len g c }

pub returns-clause-can : goal.returns-clause-can
returns-clause-can g c = λ later rest can.
    let off = c.seat_lanes-works.ensures.seated in
    let joined = c.join_lanes.ensures.joined in
    let lock : IsOfLock (g.L.StatusLock.known c.args.common.now.locks.now.dem) c.join_lanes.new.main.dem =
    (joined.dem.lock_is ∙ off.dem_off.lock_is ∙ can.ready.dem.lock.0, ap (λ s. s.config) (joined.dem.start_is ∙ off.dem_off.start_is) ∙ can.ready.dem.lock.1) in
    can_behind g.S.LifeStore.keeping g.met.S.LifeStore.laws (known_by g.L.StatusLock.known c.args.common.now.locks.now) c.args.common.now.config.now c.args.seats.now c.args.store.now (c.args.room ∷ later) c.args.answers.now (inr (lanes_of c.args.room)) rest can
    c.join_lanes.new.main c.run_works.new.store later (record { own = c.args.answers.now.own; told = c.join_lanes.new.told; response = c.args.answers.now.response })
    (gains g c) lock (joined.queue.lock_is ∙ off.queue_off.lock_is ∙ can.ready.queue.lock) (omega (arith, joined.dem.left_is, off.dem_off.left_is)) (omega (arith, joined.queue.left_is, off.queue_off.left_is))
    (omega arith) can.room.own (told_len g c) c.join_lanes.ensures.capacity (rooms_behind (lanes_of c.args.room) rest c.args.room later can.rooms_are)
