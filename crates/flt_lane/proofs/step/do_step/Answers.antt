use Rattle.std.proofs.Common.{◌∙◌, subst, sym}
use Rattle.flt_life_model.specs.Actions.{IsPossible}
use Rattle.flt_step.specs.declared.step.Step.{Step}
use Rattle.flt_lane.specs.Stepped.{IsLockCall, TakesStep}
use Rattle.flt_lane.proofs.OffStore.{else_calls}
use Rattle.flt_lane.proofs.Answering.{takes_call}
use Rattle.flt_life_model.proofs.ByAction.{is_arming, is_drain, is_get, is_save}
use Rattle.flt_lane.proofs.step.do_step.Goals as goal

pub returns-in-Save-clause-takes : goal.returns-in-Save-clause-takes
returns-in-Save-clause-takes g c =
    let seats = c.args.seats.now in
    subst (λ (s : Step). TakesStep c.args.common.now.config.now seats.dem c.save.new.seat seats.queue seats.queue s c.args.replies.now c.save.new.replies c.args.store.now c.save.new.store)
    (sym (is_save c.args.step.now (sym c.action_of.ensures ∙ c.in-Save.is))) (c.save.ensures.takes seats.queue)

pub returns-in-Drain-clause-takes : goal.returns-in-Drain-clause-takes
returns-in-Drain-clause-takes g c =
    let seats = c.args.seats.now in
    subst (λ (s : Step). TakesStep c.args.common.now.config.now seats.dem seats.dem seats.queue c.drain.new.seat s c.args.replies.now c.drain.new.replies c.args.store.now c.drain.new.store)
    (sym (is_drain c.args.step.now (sym c.action_of.ensures ∙ c.in-Drain.is))) (c.drain.ensures.takes seats.dem)

pub get-requires-clause-alive : goal.get-requires-clause-alive
get-requires-clause-alive g c = (c.args.common.now.config.now, subst (IsPossible c.args.common.now.config.now) (sym c.action_of.ensures ∙ c.in-Get.is) c.requires.step, c.requires.alive)

pub returns-in-Get-clause-takes : goal.returns-in-Get-clause-takes
returns-in-Get-clause-takes g c =
    let seats = c.args.seats.now in
    subst (λ (s : Step). TakesStep c.args.common.now.config.now seats.dem seats.dem seats.queue seats.queue s c.args.replies.now c.get.new.replies c.args.store.now c.get.new.store)
    (sym (is_get c.args.step.now c.in-Get.block (sym c.action_of.ensures ∙ c.in-Get.is))) (c.get.ensures.takes c.args.common.now.config.now seats.dem seats.queue)

pub returns-in-Arm-clause-takes : goal.returns-in-Arm-clause-takes
returns-in-Arm-clause-takes g c =
    let seats = c.args.seats.now in
    subst (λ (s : Step). TakesStep c.args.common.now.config.now seats.dem seats.dem seats.queue seats.queue s c.args.replies.now c.make_arm.new.replies c.args.store.now c.make_arm.new.store)
    (sym (is_arming c.args.step.now c.in-Arm.arm (sym c.action_of.ensures ∙ c.in-Arm.is))) (c.make_arm.ensures.takes c.args.common.now.config.now seats.dem seats.queue)

pub make_call-requires-clause-call : goal.make_call-requires-clause-call
make_call-requires-clause-call g c = else_calls c.action_of.result c.in_default.not-Save c.in_default.not-Drain c.in_default.not-Get c.in_default.not-Arm

pub returns-in_default-clause-takes : goal.returns-in_default-clause-takes
returns-in_default-clause-takes g c =
    let seats = c.args.seats.now in
    let after = c.make_call.new.seats in
    takes_call c.args.common.now.config.now seats.dem after.dem seats.queue after.queue c.args.step.now c.args.replies.now c.make_call.new.replies c.args.store.now
    (subst IsLockCall c.action_of.ensures (else_calls c.action_of.result c.in_default.not-Save c.in_default.not-Drain c.in_default.not-Get c.in_default.not-Arm)) (c.make_call.ensures.made c.args.step.now (sym c.action_of.ensures))
