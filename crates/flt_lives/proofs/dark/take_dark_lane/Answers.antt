use Rattle.std.proofs.Common.{◌∙◌, ◌++◌, ◌∷◌, [], take, length, refl, ap, sym, subst, arith}
use Rattle.std.specs.Prelude.{IsTrue}
use Rattle.std.proofs.lemmas.List.{map_more, take_all}
use Rattle.flt_step.specs.declared.step.Step.{Step}
use Rattle.flt_step.specs.Step.{is_lane_step}
use Rattle.flt_life_model.specs.Actions.{action_of}
use Rattle.flt_life_model.specs.Answers.{told_by}
use Rattle.flt_life_model.specs.Played.{dark_answer, dark_answers}
use Rattle.flt_lives.proofs.Rooms.{dark_in_lane}
use Rattle.flt_lives.proofs.dark.take_dark_lane.Goals as goal

pub loop-step-init : goal.loop-step-init
loop-step-init c = record {
  answers = ap (λ answers. told_by c.args.lane.replies.responses.items answers) c.requires.room.empty.answers;
  len = c.args.lane.replies.answers.ok.0 ∙ ap length c.requires.room.empty.answers;
  room = refl;
  responses = refl;
  bytes = omega arith;
}

pub keep-requires-clause-answers : goal.keep-requires-clause-answers
keep-requires-clause-answers c =
    let within = c.loop-step-test.true in
    let len = c.loop-step.invariant.len in
    let room = c.loop-step.invariant.room in
    let most = c.requires.room.room.answers in
    omega (arith, within, len, room, most)

pub keep-requires-clause-responses : goal.keep-requires-clause-responses
keep-requires-clause-responses c =
    let len = c.loop-step.invariant.responses in
    let room = c.loop-step.invariant.bytes in
    let most = c.requires.room.room.responses in
    omega (arith, len, room, most)

pub loop-step-preserved : goal.loop-step-preserved
loop-step-preserved c =
    let steps = c.args.lane.steps.now in
    let index = c.loop-step._step-index in
    let step = c._step-item.result in
    let may : IsTrue (is_lane_step step) = subst (λ (s : Step). IsTrue (is_lane_step s)) (sym c._step-item.is) (c.requires.steps index step c.loop-step-test.true) in
    let last = dark_in_lane step may in
    let more = map_more (λ (s : Step). dark_answer (action_of s)) steps index step c.loop-step-test.true in
    let len = c.keep.ensures.answers in let inv_len = c.loop-step.invariant.len in
    let responses = c.keep.ensures.responses in let inv_responses = c.loop-step.invariant.responses in
    let bytes = c.keep.ensures.bytes in let inv_bytes = c.loop-step.invariant.bytes in
    record {
      answers = c.keep.ensures.told
          ∙ (λ i. c.loop-step.invariant.answers i ++ sym last i ∷ [])
          ∙ ap (λ (s : Step). dark_answers (take index steps) ++ dark_answer (action_of s) ∷ []) c._step-item.is
          ∙ sym more;
      len = omega (arith, len, inv_len);
      room = c.keep.ensures.room ∙ c.loop-step.invariant.room;
      responses = omega (arith, responses, inv_responses);
      bytes = omega (arith, bytes, inv_bytes);
    }

pub returns : goal.returns
returns c =
    c.loop-step.invariant.answers ∙ ap dark_answers (take_all c.loop-step._step-index c.args.lane.steps.now c.loop-step-test.false)
