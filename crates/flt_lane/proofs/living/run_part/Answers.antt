use Rattle.std.proofs.Common.{inl, ◌∷◌, map, arith, refl, ap, subst}
use Rattle.flt_step.specs.declared.step.Part.{Part}
use Rattle.flt_step.specs.Part.{part_of}
use Rattle.flt_life_model.specs.Room.{told_in}
use Rattle.flt_lane.specs.Views.{known_by}
use Rattle.flt_lane.specs.BlockRun.{GainsPart}
use Rattle.flt_lane.specs.declared.living.LifeAnswers.{LifeAnswers}
use Rattle.flt_lane.specs.Parts.{CanRunParts, RunsPart}
use Rattle.flt_lane.proofs.Lives.{can_behind, can_next, gains_one}
use Rattle.flt_lane.proofs.Rooms.{next_room}
use Rattle.flt_lane.proofs.living.run_part.Given as given
use Rattle.flt_lane.proofs.living.run_part.Goals as goal

-- ---- a step

gains_step : (g : given.Over) (c : goal.After-after g) → GainsPart g.S.LifeStore.keeping c.args.common.now.config.now c.args.seats.now c.make_step.new.seats (inl c.in-One.step) (told_in c.args.answers.now.own)
    (told_in c.make_step.new.replies) (map told_in c.args.answers.now.told.items) (map told_in c.args.answers.now.told.items) c.args.store.now c.make_step.new.self
gains_step g c =
    gains_one g.S.LifeStore.keeping c.args.common.now.config.now c.args.seats.now c.make_step.new.seats c.args.store.now c.make_step.new.self c.in-One.step c.args.answers.now.own c.make_step.new.replies
    (map told_in c.args.answers.now.told.items) c.requires.can.1.main.0 c.requires.can.1.main.1 c.make_step.ensures.takes

pub returns-in-One-clause-runs : goal.returns-in-One-clause-runs
returns-in-One-clause-runs g c =
    let answers = c.args.answers.now in
    let told : LifeAnswers = record { own = c.make_step.new.replies; told = answers.told; response = c.make_step.new.response } in
    let runs : RunsPart g.S.LifeStore.keeping c.args.common.now.config.now c.args.seats.now c.make_step.new.seats (inl c.in-One.step) answers told c.args.store.now c.make_step.new.self =
    record { gains = gains_step g c; told_len = omega arith } in
    rw c.in-One.is runs

pub returns-in-One-clause-can : goal.returns-in-One-clause-can
returns-in-One-clause-can g c = λ rest given.
    let made = c.make_step.ensures.takes.made in
    let can = subst (λ (p : Part). CanRunParts g.S.LifeStore.keeping (known_by g.L.StatusLock.known c.args.common.now.locks.now) c.args.common.now.config.now c.args.seats.now c.args.store.now c.args.rooms.now.rest.items c.args.answers.now (part_of p ∷ rest)) c.in-One.is given in
    can_behind g.S.LifeStore.keeping g.met.S.LifeStore.laws (known_by g.L.StatusLock.known c.args.common.now.locks.now) c.args.common.now.config.now c.args.seats.now c.args.store.now c.args.rooms.now.rest.items c.args.answers.now (inl c.in-One.step) rest can
    c.make_step.new.seats c.make_step.new.self c.args.rooms.now.rest.items (record { own = c.make_step.new.replies; told = c.args.answers.now.told; response = c.make_step.new.response })
    (gains_step g c) c.make_step.ensures.lock c.make_step.ensures.queue made.dem.left made.queue.left (omega (arith, made.keeps.len)) (made.keeps.room _ can.room.own) (omega arith) refl
    (record { lanes_are = can.rooms_are.lanes_are; ready = can.rooms_are.ready })

-- ---- a block

pub run_lanes-requires-clause-can : goal.run_lanes-requires-clause-can
run_lanes-requires-clause-can g c κs within = (
  c.next.new.self.rest.items,
  c.requires.can.0,
  can_next g.S.LifeStore.keeping (known_by g.L.StatusLock.known c.args.common.now.locks.now) c.args.common.now.config.now c.args.seats.now c.args.store.now c.args.answers.now (part_of c.args.part.now) _ c.requires.can.0 c.in-Some.room _ _
      (ap part_of c.in-Lanes.is) c.in-Some.ensures.items c.requires.can.1,
)

pub returns-in-Some-clause-runs : goal.returns-in-Some-clause-runs
returns-in-Some-clause-runs g c = rw (next_room (part_of c.args.part.now) _ c.requires.can.0 c.in-Some.room _ _ (ap part_of c.in-Lanes.is) c.in-Some.ensures.items c.requires.can.1.rooms_are) c.run_lanes.ensures.runs

pub returns-in-Some-clause-can : goal.returns-in-Some-clause-can
returns-in-Some-clause-can g c = λ rest given. c.run_lanes.ensures.can c.next.new.self.rest.items rest
    (can_next g.S.LifeStore.keeping (known_by g.L.StatusLock.known c.args.common.now.locks.now) c.args.common.now.config.now c.args.seats.now c.args.store.now c.args.answers.now (part_of c.args.part.now) _ rest c.in-Some.room _ _ (ap part_of c.in-Lanes.is) c.in-Some.ensures.items given)
