use Rattle.std.proofs.Common.{◌≤◌, [], arith, refl, rules, subst, sym, ◌∙◌}
use Rattle.std.specs.Prelude.{reverse}
use Rattle.flt_turn.specs.Seats.{ops_before}
use Rattle.flt_shared.specs.Call.{whole}
use Rattle.flt_life_model.specs.Actions.{IsPossible, response_size}
use Rattle.flt_life_model.specs.Answers.{Told, reply_size}
use Rattle.flt_life_model.specs.Played.{ActionMakes, ActionQueues}
use Rattle.flt_life_model.specs.declared.action.Action.TheVariants as action
use Rattle.flt_life_model.specs.declared.answer.StepAnswer.TheVariants as answers
use Rattle.flt_lane.proofs.Answering.{keeps, keeps_with}
use Rattle.flt_lane.proofs.Stepping.{none_made, none_queued, one_made, one_queued, size_of_queued, size_of_told}
use Rattle.flt_lane.proofs.step.make_call.Goals as goal

pub returns-in-Ok-clause-made : goal.returns-in-Ok-clause-made
returns-in-Ok-clause-made g c = λ step is.
    let seat = c.args.seats.now.dem in
    let jobs = c.args.seats.now.queue in
    let op = c.in-Call.op in
    let makes = is ∙ c.in-Call.is in
    let told = whole c.in-Ok.told c.call_into.new.response in
    let kept = c.keep.ensures in
    let size : reply_size told.reply ≤ response_size (action.Call op) =
    size_of_told seat.start (reverse (ops_before c.in-Ok.told.place c.call_into.new.seat.seen)) op c.in-Ok.told.reply c.call_into.new.response.items c.in-Ok.ensures.call.call.reply (search rules) in
    record {
      answer = answers.Dem told;
      keeps = keeps_with c.args.replies.now c.keep.new.self step (answers.Dem c.in-Ok.told) c.call_into.new.response.items _ c.as_slice.ensures.value kept.told kept.answers kept.room kept.responses kept.bytes
          (subst (λ a. reply_size told.reply ≤ response_size a) (sym makes) size);
      dem = one_made seat step op told c.call_into.new.seat makes c.in-Ok.ensures.call.call;
      queue = none_queued jobs step (answers.Dem told) (subst (λ a. ActionQueues a (answers.Dem told) []) (sym makes) refl);
    }

pub keep-requires-in-Queue-clause-responses : goal.keep-requires-in-Queue-clause-responses
keep-requires-in-Queue-clause-responses g c =
    let config = c.args.seats.now.dem.start.config in
    let none = size_of_queued config c.args.seats.now.queue c.call.new.seat c.in-Queue.op c.in-Ok-call.told (subst (IsPossible config) c.in-Queue.is c.requires.possible) c.in-Ok-call.ensures.call in
    let room = c.requires.room.responses in
    omega (arith, none, room)

pub returns-in-Ok-call-clause-made : goal.returns-in-Ok-call-clause-made
returns-in-Ok-call-clause-made g c = λ step is.
    let seat = c.args.seats.now.dem in
    let makes = is ∙ c.in-Queue.is in
    let told : Told = answers.Queue c.in-Ok-call.told in
    let kept = c.keep-in-Queue.ensures in
    record {
      answer = told;
      keeps = keeps c.args.replies.now c.keep-in-Queue.new.self step (answers.Queue c.in-Ok-call.told) kept.told kept.answers kept.room kept.responses kept.bytes
          (size_of_queued seat.start.config c.args.seats.now.queue c.call.new.seat c.in-Queue.op c.in-Ok-call.told (subst (IsPossible seat.start.config) c.in-Queue.is c.requires.possible) c.in-Ok-call.ensures.call);
      dem = none_made seat step told (subst (λ a. ActionMakes a told []) (sym makes) refl);
      queue = one_queued c.args.seats.now.queue step c.in-Queue.op c.in-Ok-call.told c.call.new.seat makes c.in-Ok-call.ensures.call;
    }
