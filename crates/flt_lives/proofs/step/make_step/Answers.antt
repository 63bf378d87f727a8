use Rattle.std.proofs.Common.{rules, ◌≡◌, ◌∙◌, ◌<◌, ◌≤◌, [], ap, arith, refl, subst, sym}
use Rattle.flt_config.specs.declared.config.Config.{Config}
use Rattle.flt_dcm.specs.ReplyKind.{reply_with}
use Rattle.flt_flash.specs.Blocks.{BlocksState}
use Rattle.flt_flash.specs.Calls.{Follows}
use Rattle.flt_flash.proofs.CallsInARow.{no_call}
use Rattle.flt_store_model.specs.Layout.{application_number}
use Rattle.flt_dcm.specs.Whole.{unit_seen}
use Rattle.flt_life_model.specs.declared.action.Action.{Action}
use Rattle.flt_life_model.specs.declared.action.Action.TheVariants as actions
use Rattle.flt_life_model.specs.declared.answer.StepAnswer.TheVariants as answers
use Rattle.flt_life_model.specs.Actions.{IsPossible, arm_count, response_size}
use Rattle.flt_life_model.specs.Answers.{Told, reply_size, told_with}
use Rattle.flt_life_model.proofs.Keeping.{kept_entry}
use Rattle.flt_life_model.proofs.Riding.{goes_by_calls, goes_nowhere}
use Rattle.flt_life_model.proofs.Causing.{caused_arm}
use Rattle.flt_life_model.proofs.Giving.{none_given, none_since}
use Rattle.flt_store.specs.Store.{driver_of}
use Rattle.flt_lives.specs.Living.{IsUnderWay}
use Rattle.flt_lives.specs.Steps.{GivesArms, MakesPlainStep, StepLeaves}
use Rattle.flt_lives.proofs.Rooms.{size_of_call}
use Rattle.flt_lives.proofs.step.make_step.Goals as goal

pub returns-in-Call-clause-ready : goal.returns-in-Call-clause-ready
returns-in-Call-clause-ready g c =
    let ready = c.requires.ready in
    record {
      same = c.call-reply.ensures.config ∙ ready.same;
      under_way = subst (λ (k : Config). IsUnderWay k (unit_seen c.call-reply.new.unit)) ready.same c.call-reply.ensures.under_way;
      alive = ready.alive;
    }

pub returns-in-Call-clause-made : goal.returns-in-Call-clause-made
returns-in-Call-clause-made g c =
    let config = c.args.config.now in
    let told : Told = answers.Dem (record { place = c.args.place; reply = reply_with c.call-reply.result c.call-reply.new.buffers.response.items }) in
    let possible = subst (IsPossible config) c.in-Call.is c.requires.step.possible in
    let made : MakesPlainStep config (actions.Call c.in-Call.op) (unit_seen c.args.unit.now) (unit_seen c.call-reply.new.unit) c.args.store.now c.args.store.now told = record {
      answered = λ start journal stands. c.call-reply.ensures.answer start _ stands;
      living = λ first journal earlier living. record {
        stands = c.call-reply.ensures.stands _ _ living.stands;
        held = living.held;
        spare = living.spare;
        running = living.running;
        kept = kept_entry config first journal earlier living.held living.spare living.kept 0 c.in-Call.op possible.0;
      };
      caused = λ begun earlier caused. caused;
    } in
    subst (λ (action : Action). MakesPlainStep config action (unit_seen c.args.unit.now) (unit_seen c.call-reply.new.unit) c.args.store.now c.args.store.now told) (sym c.in-Call.is) made

pub returns-in-Call-clause-size : goal.returns-in-Call-clause-size
returns-in-Call-clause-size g c = λ few.
    subst (λ (action : Action). reply_size (reply_with c.call-reply.result c.call-reply.new.buffers.response.items) ≤ response_size action) (sym c.in-Call.is)
    (size_of_call c.in-Call.op c.call-reply.result c.call-reply.new.buffers.response.items c.call-reply.ensures.no_response few)

pub returns-in-Call-clause-leaves : goal.returns-in-Call-clause-leaves
returns-in-Call-clause-leaves g c =
    let store = driver_of c.args.store.now in
    subst (λ (action : Action). StepLeaves action store store) (sym c.in-Call.is)
    (record {
      applications = λ block below. refl;
      gives = record { keeps_driver = goes_nowhere store; arms_made = none_given store.device.bench.arms; armed = omega arith };
      calls = λ none. no_call store;
    })

pub returns-in-Save-clause-made : goal.returns-in-Save-clause-made
returns-in-Save-clause-made g c =
    let told = told_with c.save.new.buffers.response.items c.save.result in
    subst (λ (action : Action). MakesPlainStep c.args.config.now action (unit_seen c.args.unit.now) (unit_seen c.save.new.unit) c.args.store.now c.save.new.store told) (sym c.in-Save.is)
    (c.save.ensures.made c.save.new.buffers.response.items)

gives_none : (before after : BlocksState) → Follows before after → GivesArms [] 0 before after
gives_none before after follows =
    let armed = follows.bench.armed in
    record {
      keeps_driver = goes_by_calls before after follows;
      arms_made = none_since before.device.bench.arms after.device.bench.arms follows.bench.arms;
      armed = omega (arith, armed);
    }

pub returns-in-Save-clause-leaves : goal.returns-in-Save-clause-leaves
returns-in-Save-clause-leaves g c =
    let before = driver_of c.args.store.now in
    let after = driver_of c.save.new.store in
    subst (λ (action : Action). StepLeaves action before after) (sym c.in-Save.is)
    (record { applications = c.save.ensures.applications; gives = gives_none before after c.save.ensures.keeps_driver; calls = λ none. c.save.ensures.keeps_driver })

pub arm-requires-clause-room : goal.arm-requires-clause-room
arm-requires-clause-room g c = c.requires.step.arms (subst (λ (action : Action). 0 < arm_count action) (sym c.in-Arm.is) (omega arith))

pub returns-in-Arm-clause-ready : goal.returns-in-Arm-clause-ready
returns-in-Arm-clause-ready g c =
    let ready = c.requires.ready in
    record {
      same = ready.same;
      under_way = ready.under_way;
      alive = record { held = ready.alive.held; spare = ready.alive.spare; running = c.arm.ensures.running c.args.config.now ready.alive.held ready.alive.spare ready.alive.running };
    }

pub returns-in-Arm-clause-made : goal.returns-in-Arm-clause-made
returns-in-Arm-clause-made g c =
    let config = c.args.config.now in
    let unit = unit_seen c.args.unit.now in
    let made : MakesPlainStep config (actions.Arm c.in-Arm.arm) unit unit c.args.store.now c.arm.new.self answers.Armed = record {
      answered = λ start journal stands. refl;
      living = λ first journal earlier living. record {
        stands = living.stands;
        held = living.held;
        spare = living.spare;
        running = c.arm.ensures.running config living.held living.spare living.running;
        kept = living.kept;
      };
      caused = λ begun earlier caused.
          caused_arm config begun earlier c.args.store.now c.arm.new.self caused _ c.arm.ensures.arms (c.arm.ensures.running config caused.held_now caused.spare_now caused.running);
    } in
    subst (λ (action : Action). MakesPlainStep config action unit unit c.args.store.now c.arm.new.self answers.Armed) (sym c.in-Arm.is) made

pub returns-in-Arm-clause-leaves : goal.returns-in-Arm-clause-leaves
returns-in-Arm-clause-leaves g c = record {
  applications = λ block below. ap (λ (d : BlocksState). d.value (application_number block)) c.arm.ensures.arms.rest;
  gives = search rules;
  calls = λ none. (let one : arm_count c.args.action ≡ 1 = ap arm_count c.in-Arm.is in absurd (omega (arith, none, one)));
}

pub returns-in-Save-clause-placed : goal.returns-in-Save-clause-placed
returns-in-Save-clause-placed g c = c.save.ensures.placed c.args.place c.save.new.buffers.response.items
