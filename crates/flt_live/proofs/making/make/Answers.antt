use Rattle.std.proofs.Common.{◌<◌, ◌∙◌, ◌∷◌, sym, subst, arith}
use Rattle.flt_store_model.specs.Layout.{applications}
use Rattle.flt_dcm.specs.Whole.{unit_seen}
use Rattle.flt_queue.specs.Stands.{QueueStands}
use Rattle.flt_life_model.specs.Actions.{IsPossible}
use Rattle.flt_life_model.specs.Answers.{told_with}
use Rattle.flt_live.proofs.Midway.{made_plain, made_queue, made_drain, made_get, no_arm, plain_else}
use Rattle.flt_live.proofs.making.make.Goals as goal

pub make_step-requires-clause-step : goal.make_step-requires-clause-step
make_step-requires-clause-step g c =
    let none = no_arm c.args.action c.requires.no_arm in
    record {
      possible = c.requires.possible;
      plain = plain_else c.args.action c.in_default.not-Queue c.in_default.not-Drain c.in_default.not-Get;
      arms = λ some. absurd (omega (arith, some, none));
    }

pub returns-in_default-clause-made : goal.returns-in_default-clause-made
returns-in_default-clause-made g c = λ step is.
    let plain = plain_else c.args.action c.in_default.not-Queue c.in_default.not-Drain c.in_default.not-Get in
    made_plain c.args.config.now step c.args.action _ is plain c.requires.no_arm (unit_seen c.args.unit.now) (unit_seen c.make_step.new.unit) c.args.queue.now c.args.store.now c.make_step.new.store
    c.make_step.ensures.made c.make_step.ensures.leaves.applications (c.make_step.ensures.leaves.calls (no_arm c.args.action c.requires.no_arm))

pub returns-in-Queue-clause-made : goal.returns-in-Queue-clause-made
returns-in-Queue-clause-made g c = λ step is.
    let blocks = c.requires.up.blocks in
    let old = c.args.queue.now in
    made_queue c.args.config.now step c.in-Queue.op _ _ (is ∙ c.in-Queue.is) (subst (IsPossible c.args.config.now) c.in-Queue.is c.requires.possible).0 (unit_seen c.args.unit.now) old c.apply-reply.new.self c.args.store.now
    (λ jobs stands. subst (λ n. QueueStands n (c.in-Queue.op ∷ jobs) c.apply-reply.new.self) blocks (c.apply-reply.ensures.stands jobs (subst (λ n. QueueStands n jobs old) (sym blocks) stands)))
    (λ jobs stands. c.apply-reply.ensures.answer jobs (subst (λ n. QueueStands n jobs old) (sym blocks) stands))

pub returns-in-Get-clause-made : goal.returns-in-Get-clause-made
returns-in-Get-clause-made g c = λ step is.
    let response = c.args.buffers.now.response.items in
    let most = c.requires.up.under_way.valid.blocks in
    let here : c.in-Get.block < c.args.config.now.blocks = subst (IsPossible c.args.config.now) c.in-Get.is c.requires.possible in
    let below : c.in-Get.block < applications = omega (arith, here, most) in
    made_get c.args.config.now step (told_with response c.get.result) c.in-Get.block (is ∙ c.in-Get.is) below (unit_seen c.args.unit.now) c.args.queue.now c.args.store.now c.get.new.store (c.get.ensures.reads response)

pub returns-in-Drain-clause-made : goal.returns-in-Drain-clause-made
returns-in-Drain-clause-made g c = λ step is.
    made_drain c.args.config.now step c.drain-written.result.0 c.drain-written.result.1 (is ∙ c.in-Drain.is) (unit_seen c.args.unit.now) c.args.queue.now c.drain-written.new.queue c.args.store.now c.drain-written.new.store
    c.drain-written.ensures.running c.drain-written.ensures.calls c.drain-written.ensures.drained

pub returns-in-Drain-clause-up : goal.returns-in-Drain-clause-up
returns-in-Drain-clause-up g c =
    let up = c.requires.up in
    let alive = up.alive in
    record {
      under_way = up.under_way;
      blocks = c.drain-written.ensures.blocks ∙ up.blocks;
      alive = record { held = alive.held; spare = alive.spare; running = c.drain-written.ensures.running alive.held alive.spare alive.running };
    }
