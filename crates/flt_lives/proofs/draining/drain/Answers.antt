use Rattle.std.proofs.Common.{◌≡◌, ◌<◌, ◌≤◌, ◌∙◌, ◌+◌, ℕ, Bool, true, false, not, refl, subst, arith}
use Rattle.std.specs.Int.{from_bool}
use Rattle.flt_turn.specs.Sums.{one_if}
use Rattle.flt_flash.proofs.CallsInARow.{more_calls, no_call}
use Rattle.flt_store.specs.Store.{driver_of}
use Rattle.flt_lives.specs.Draining.{IsDraining}
use Rattle.flt_lives.proofs.Jobs.{draining_first, draining_more, drains_full, drains_short}
use Rattle.flt_lives.proofs.draining.drain.Goals as goal

as_number : (b : Bool) → from_bool b ≡ one_if b
as_number true = refl
as_number false = refl

pub loop-job-init : goal.loop-job-init
loop-job-init g c = record {
  blocks = refl;
  running = λ held spare running. running;
  few = omega arith;
  keeps_driver = no_call (driver_of c.args.store.now);
  draining = λ jobs stands. draining_first c.args.config.now jobs c.args.store.now c.args.queue.now stands;
}

pub take_job-requires-clause-blocks : goal.take_job-requires-clause-blocks
take_job-requires-clause-blocks g c = c.loop-job.invariant.blocks ∙ c.requires.blocks

pub take_job-requires-clause-alive : goal.take_job-requires-clause-alive
take_job-requires-clause-alive g c =
    let alive = c.requires.alive in
    record { held = alive.held; spare = alive.spare; running = c.loop-job.invariant.running alive.held alive.spare alive.running }

pub loop-job-preserved : goal.loop-job-preserved
loop-job-preserved g c =
    let was = c.in-Some.was_written in
    let before = c.loop-job in
    let some = c.from-written.ensures ∙ as_number was in
    let none = c.from-failed.ensures ∙ as_number (not was) in
    let few = before.invariant.few in
    record {
      blocks = c.take_job.ensures.blocks ∙ before.invariant.blocks;
      running = λ held spare running. c.take_job.ensures.running held spare (before.invariant.running held spare running);
      few = one_each was before.written before.failed before._job _ _ some none few;
      keeps_driver = more_calls (driver_of c.args.store.now) (driver_of before.store) (driver_of c.take_job.new.store) before.invariant.keeps_driver c.take_job.ensures.calls;
      draining = λ jobs stands.
          (let on = before.invariant.draining jobs stands in
          subst (λ n. IsDraining c.args.config.now jobs (before._job + 1) n (before.failed + c.from-failed.result) c.take_job.new.queue c.args.store.now c.take_job.new.store) (omega (arith, some))
          (subst (λ n. IsDraining c.args.config.now jobs (before._job + 1) (before.written + one_if was) n c.take_job.new.queue c.args.store.now c.take_job.new.store) (omega (arith, none))
          (draining_more c.args.config.now jobs c.args.store.now before._job before.written before.failed was before.queue c.take_job.new.queue before.store c.take_job.new.store on (c.in-Some.ensures.taken _ on.stands)
          (each_one was before.written before.failed before._job on.all))));
    }
  where
    one_each : (was : Bool) (written failed job some none : ℕ) → some ≡ one_if was → none ≡ one_if (not was) → written + failed ≤ job → (written + some) + (failed + none) ≤ job + 1
    one_each true written failed job some none some_is none_is few = omega (arith, some_is, none_is, few)
    one_each false written failed job some none some_is none_is few = omega (arith, some_is, none_is, few)

    each_one : (was : Bool) (written failed job : ℕ) → written + failed ≡ job → (written + one_if was) + (failed + one_if (not was)) ≡ job + 1
    each_one true written failed job all = omega (arith, all)
    each_one false written failed job all = omega (arith, all)

pub returns-in_default-clause-drained : goal.returns-in_default-clause-drained
returns-in_default-clause-drained g c = λ jobs stands.
    let before = c.loop-job in
    let on = before.invariant.draining jobs stands in
    let few : before._job < 32 = omega (arith, c.loop-job-test.true) in
    drains_short c.args.config.now jobs c.args.store.now before._job before.written before.failed before.queue c.take_job.new.queue before.store c.take_job.new.store few on (c.in_default.ensures.taken _ on.stands)

pub returns-in_default-clause-blocks : goal.returns-in_default-clause-blocks
returns-in_default-clause-blocks g c = c.take_job.ensures.blocks ∙ c.loop-job.invariant.blocks

pub returns-in_default-clause-running : goal.returns-in_default-clause-running
returns-in_default-clause-running g c = λ held spare running. c.take_job.ensures.running held spare (c.loop-job.invariant.running held spare running)

pub returns-clause-drained : goal.returns-clause-drained
returns-clause-drained g c = λ jobs stands.
    let on = c.loop-job in
    let all : on._job ≡ 32 = omega (arith, c.loop-job-test.false, on.auto._job-end) in
    drains_full c.args.config.now jobs c.args.store.now on.written on.failed on.queue on.store
    (subst (λ n. IsDraining c.args.config.now jobs n on.written on.failed on.queue c.args.store.now on.store) all (on.invariant.draining jobs stands))

pub returns-in_default-clause-calls : goal.returns-in_default-clause-calls
returns-in_default-clause-calls g c =
    more_calls (driver_of c.args.store.now) (driver_of c.loop-job.store) (driver_of c.take_job.new.store) c.loop-job.invariant.keeps_driver c.take_job.ensures.calls
