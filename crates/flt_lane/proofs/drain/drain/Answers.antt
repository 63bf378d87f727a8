use Rattle.std.proofs.Common.{◌≡◌, ◌<◌, ◌∙◌, ◌+◌, ℕ, Bool, true, false, not, refl, subst, sym, arith}
use Rattle.std.specs.Prelude.{vec_len}
use Rattle.std.specs.Vec.{vec_capacity}
use Rattle.std.specs.Int.{from_bool}
use Rattle.flt_step.specs.declared.step.Step.TheVariants as steps
use Rattle.flt_turn.specs.Sums.{one_if}
use Rattle.flt_life_model.specs.Answers.{Told}
use Rattle.flt_life_model.specs.declared.action.Action.TheVariants as action
use Rattle.flt_life_model.specs.declared.replies.LaneReplies.{LaneReplies}
use Rattle.flt_life_model.specs.declared.answer.StepAnswer.TheVariants as answers
use Rattle.flt_lane.specs.Draining.{HasDrained}
use Rattle.flt_lane.specs.Stepped.{HasRoomForAnswer, TakesStep}
use Rattle.flt_lane.proofs.Answering.{keeps, takes_deed}
use Rattle.flt_lane.proofs.DrainEnds.{full_carries, short_carries, short_leaves}
use Rattle.flt_lane.proofs.Drains.{drained_first, drained_more}
use Rattle.flt_lane.proofs.Stepping.{full_drained, none_made, short_drained}
use Rattle.flt_lane.proofs.drain.drain.Goals as goal

as_number : (b : Bool) → from_bool b ≡ one_if b
as_number true = refl
as_number false = refl

pub loop-job-init : goal.loop-job-init
loop-job-init g c = record { drained = drained_first c.args.config.now c.args.seat.now c.args.store.now; lock = c.requires.ready.lock; none_kept = refl }

pub take_job-requires-clause-alive : goal.take_job-requires-clause-alive
take_job-requires-clause-alive g c =
    let alive = c.requires.alive in
    record { held = alive.held; spare = alive.spare; running = c.loop-job.invariant.drained.drains.running alive.held alive.spare alive.running }

pub loop-job-preserved : goal.loop-job-preserved
loop-job-preserved g c =
    let before = c.loop-job in
    let was = c.in-Some.was_written in
    let drained = drained_more c.args.config.now c.args.seat.now before.seat c.take_job.new.seat before.written before.failed before._job was c.args.store.now before.store c.take_job.new.store before.invariant.drained c.in-Some.ensures.looks in
    record {
      drained = subst (λ n. HasDrained c.args.config.now c.args.seat.now c.take_job.new.seat n (before.failed + c.from-failed.result) (before._job + 1) c.args.store.now c.take_job.new.store)
          (let same = c.from-written.ensures ∙ as_number was in omega (arith, same))
          (subst (λ n. HasDrained c.args.config.now c.args.seat.now c.take_job.new.seat (before.written + one_if was) n (before._job + 1) c.args.store.now c.take_job.new.store)
          (let same = c.from-failed.ensures ∙ as_number (not was) in omega (arith, same)) drained);
      lock = c.take_job.ensures.lock;
      none_kept = c.loop-job.invariant.none_kept;
    }

-- There is room for the answer, of which none is kept yet.
room_still : (replies now : LaneReplies) → now ≡ replies → HasRoomForAnswer replies action.Drain → vec_len now.answers < vec_capacity now.answers
room_still replies now same room = subst (λ (r : LaneReplies). vec_len r.answers < vec_capacity r.answers) (sym same) (let answers = room.answers in omega (arith, answers))

pub keep-requires-clause-answers : goal.keep-requires-clause-answers
keep-requires-clause-answers g c = room_still c.args.replies.now c.loop-job.replies c.loop-job.invariant.none_kept c.requires.room

pub keep-requires-2-clause-answers : goal.keep-requires-2-clause-answers
keep-requires-2-clause-answers g c = room_still c.args.replies.now c.loop-job.replies c.loop-job.invariant.none_kept c.requires.room

pub returns-in_default-clause-takes : goal.returns-in_default-clause-takes
returns-in_default-clause-takes g c = λ dem.
    let on = c.loop-job in
    let told : Told = answers.Drained on.written on.failed in
    let kept = c.keep.ensures in
    let few : on._job < 32 = omega (arith, c.loop-job-test.true) in
    subst (λ r. TakesStep c.args.config.now dem dem c.args.seat.now c.take_job.new.seat steps.Drain r c.keep.new.self c.args.store.now c.take_job.new.store) on.invariant.none_kept
    (takes_deed c.args.config.now dem dem c.args.seat.now c.take_job.new.seat steps.Drain told on.replies c.keep.new.self c.args.store.now c.take_job.new.store refl
    (keeps on.replies c.keep.new.self steps.Drain (answers.Drained on.written on.failed) kept.told kept.answers kept.room kept.responses kept.bytes refl)
    (none_made dem steps.Drain told refl)
    (short_drained c.args.config.now c.args.seat.now on.seat c.take_job.new.seat on.written on.failed on._job c.args.store.now on.store c.take_job.new.store few on.invariant.drained c.in_default.ensures.looks)
    (λ earlier. short_carries c.args.config.now dem earlier c.args.seat.now on.seat c.take_job.new.seat on.written on.failed on._job c.args.store.now on.store c.take_job.new.store few on.invariant.drained c.in_default.ensures.looks)
    (short_leaves c.args.config.now c.args.seat.now on.seat c.take_job.new.seat on.written on.failed on._job c.args.store.now on.store c.take_job.new.store on.invariant.drained c.in_default.ensures.looks))

-- It took 32 jobs.
all_taken : (job : ℕ) → job ≡ 32 → job ≡ 32
all_taken job is = is

pub returns-clause-takes : goal.returns-clause-takes
returns-clause-takes g c = λ dem.
    let on = c.loop-job in
    let told : Told = answers.Drained on.written on.failed in
    let kept = c.keep-2.ensures in
    let drained = subst (λ n. HasDrained c.args.config.now c.args.seat.now on.seat on.written on.failed n c.args.store.now on.store) (all_taken on._job (omega (arith, c.loop-job-test.false, on.auto._job-end))) on.invariant.drained in
    subst (λ r. TakesStep c.args.config.now dem dem c.args.seat.now on.seat steps.Drain r c.keep-2.new.self c.args.store.now on.store) on.invariant.none_kept
    (takes_deed c.args.config.now dem dem c.args.seat.now on.seat steps.Drain told on.replies c.keep-2.new.self c.args.store.now on.store refl
    (keeps on.replies c.keep-2.new.self steps.Drain (answers.Drained on.written on.failed) kept.told kept.answers kept.room kept.responses kept.bytes refl)
    (none_made dem steps.Drain told refl)
    (full_drained c.args.config.now c.args.seat.now on.seat on.written on.failed c.args.store.now on.store drained)
    (λ earlier. full_carries c.args.config.now dem earlier c.args.seat.now on.seat on.written on.failed c.args.store.now on.store drained)
    drained.drains.leaves)
