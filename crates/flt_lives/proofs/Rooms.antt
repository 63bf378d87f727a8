-- The room that the steps of a life need.
use Rattle.std.proofs.Common.{◌≡◌, inl, inr, true, ℕ, suc, ◌+◌, ◌*◌, ◌<◌, ◌≤◌, List, [], ◌∷◌, ◌++◌, length, map, take, drop, get_or, refl, ap, sym, subst, arith, drop-cons, add-one, ◌∙◌}
use Rattle.std.specs.Prelude.{sum_by, All, IsTrue, vec_len}
use Rattle.std.specs.Vec.{vec_capacity}
use Rattle.std.proofs.lemmas.List.{get_or-map, length-append, length-map, map-append, take-append-drop}
use Rattle.std.proofs.lemmas.List.Sums.{sum_by-cons}
use Rattle.std.proofs.lemmas.List.Elements.{All-nil, All-cons, All-head, All-tail, All-append, All-weaker}
use Rattle.flt_config.specs.declared.config.Config.{Config}
use Rattle.flt_dcm.specs.Unit.{IsTesterCall}
use Rattle.flt_dcm.specs.ReplyKind.{ReplyKind, reply_with}
use Rattle.flt_model.specs.Answer.{answer}
use Rattle.flt_model.specs.Start.{Start, History}
use Rattle.flt_model.specs.declared.TheConstants.{RESPONSE}
use Rattle.flt_model.specs.declared.call.Op.{Op}
use Rattle.flt_model.specs.declared.call.Op.TheVariants as ops
use Rattle.flt_life_model.specs.Answers.{byte_room, reply_size}
use Rattle.flt_life_model.specs.declared.action.Action.{Action}
use Rattle.flt_life_model.specs.declared.action.Action.TheVariants.{Call, Queue, Save, Drain, Get, Arm}
use Rattle.flt_step.specs.declared.step.Part.{Part}
use Rattle.flt_step.specs.declared.step.Part.TheVariants.{One}
use Rattle.flt_step.specs.declared.step.Step.{Step}
use Rattle.flt_step.specs.Part.{PartOf, part_of, parts_of}
use Rattle.flt_life_model.specs.Actions.{IsPossible, IsPossibleArm, action_of, arm_count, call_count, response_size}
use Rattle.flt_life_model.specs.Parts.{IsPossibleInLane, IsPossiblePart, arms_in, calls_in, lanes_in, own_actions, own_steps, steps_in}
use Rattle.flt_life_model.specs.declared.answer.StepAnswer.TheVariants as answers
use Rattle.flt_life_model.specs.Played.{dark_answer}
use Rattle.flt_fork.proofs.Blocks.{all_left, all_right}
use Rattle.flt_life_model.proofs.Sizes.{own_more, own_steps-append, parts_more_by}
use Rattle.flt_step.specs.Step.{is_lane_step}
use Rattle.flt_lives.specs.Alone.{IsAlone, AreAlone, actions_in}
use Rattle.flt_lives.specs.Dark.{IsLaneSteps}
use Rattle.flt_lives.specs.declared.account.Account.{Account}
use Rattle.flt_lives.specs.Living.{HasRoomFor}
use Rattle.flt_life_model.proofs.Calls.{call_most}
use Rattle.flt_life_model.proofs.ByAction.{may_stand, stands}
use Rattle.flt_life_model.proofs.Responses.{answer_size, size_most}

-- ---- bounds of one step and of all

-- The calls of steps by themselves.
pub alone_calls : (parts : List (PartOf Step)) → AreAlone parts → sum_by calls_in parts ≡ sum_by call_count (own_actions parts)
alone_calls [] alone = refl
alone_calls (inl step ∷ parts) alone =
    let rest = alone_calls parts (All-tail IsAlone (inl step) parts alone) in
    let sum = sum_by-cons calls_in (inl step) parts in
    let actions = sum_by-cons call_count (action_of step) (own_actions parts) in
    omega (arith, rest, sum, actions)
alone_calls (inr lanes ∷ parts) alone = absurd (All-head IsAlone (inr lanes) parts alone)

pub calls_most : (parts : List (PartOf Step)) → sum_by call_count (own_actions parts) ≤ sum_by steps_in parts * 2
calls_most [] = omega arith
calls_most (inl step ∷ parts) =
    let rest = calls_most parts in
    let sum = sum_by-cons steps_in (inl step) parts in
    let actions = sum_by-cons call_count (action_of step) (own_actions parts) in
    let one = call_most (action_of step) in
    omega (arith, rest, sum, actions, one)
calls_most (inr lanes ∷ parts) = let rest = calls_most parts in let sum = sum_by-cons steps_in (inr lanes) parts in omega (arith, rest, sum)

-- The arms of a part are those of its step.
pub arms_are : (parts : List (PartOf Step)) → sum_by arms_in parts ≡ sum_by arm_count (own_actions parts)
arms_are [] = refl
arms_are (inl step ∷ parts) =
    let rest = arms_are parts in
    let sum = sum_by-cons arms_in (inl step) parts in
    let actions = sum_by-cons arm_count (action_of step) (own_actions parts) in
    omega (arith, rest, sum, actions)
arms_are (inr lanes ∷ parts) = let rest = arms_are parts in let sum = sum_by-cons arms_in (inr lanes) parts in omega (arith, rest, sum)

-- ---- one step of those that are left, and one more of those that were made

module _ (parts : List Part) (index : ℕ) (part : Part) (within : index < length parts) (is : part ≡ get_or parts index part) (step : Step) (one : part ≡ One step) where
  pub left_more : actions_in (drop index parts) ≡ action_of step ∷ actions_in (drop (index + 1) parts)
  left_more = rw (drop-cons parts index part within, add-one) (ap (λ (p : Part). actions_in (p ∷ drop (suc index) parts)) (sym is ∙ one))

  pub made_more : actions_in (take (index + 1) parts) ≡ actions_in (take index parts) ++ action_of step ∷ []
  made_more = ap (map action_of) (own_more parts index part within is step one) ∙ map-append action_of (own_steps (parts_of (take index parts))) (step ∷ [])

  pub parts_are : parts_of (take (index + 1) parts) ≡ parts_of (take index parts) ++ inl step ∷ []
  parts_are = parts_more_by parts index part within is ∙ ap (λ (p : Part). parts_of (take index parts) ++ part_of p ∷ []) one

pub one_of : (account : Account) (first : Action) (rest : List Action) → HasRoomFor account (first ∷ rest) → HasRoomFor account (first ∷ [])
one_of account first rest room =
    let calls = sum_by-cons call_count first rest in
    let responses = sum_by-cons response_size first rest in
    let few = room.few in let call_room = room.calls in let answers = room.answers in let bytes = room.responses in
    record {
      few = omega (arith, few, calls);
      calls = omega (arith, call_room, calls);
      answers = omega (arith, answers);
      responses = omega (arith, bytes, responses);
    }

pub response_fits : (account : Account) (action : Action) → HasRoomFor account (action ∷ []) → vec_len account.replies.responses + response_size action ≤ byte_room account.replies.responses
response_fits account action room =
    let sum = sum_by-cons response_size action [] in
    let fits = room.responses in
    omega (arith, sum, fits)

-- The room that a step leaves for the others.
pub room_after : (before after : Account) (action : Action) (rest : List Action) → HasRoomFor before (action ∷ rest) → vec_len after.journal ≤ vec_len before.journal + call_count action
    → vec_capacity after.journal ≡ vec_capacity before.journal → vec_len after.replies.answers ≡ vec_len before.replies.answers + 1
    → vec_capacity after.replies.answers ≡ vec_capacity before.replies.answers → vec_len after.replies.responses ≤ vec_len before.replies.responses + response_size action
    → byte_room before.replies.responses ≤ byte_room after.replies.responses → HasRoomFor after rest
room_after before after action rest room calls call_room answers answer_room responses response_room =
    let call_sum = sum_by-cons call_count action rest in
    let response_sum = sum_by-cons response_size action rest in
    let few = room.few in let call_fits = room.calls in let answer_fits = room.answers in let response_fits = room.responses in
    record {
      few = omega (arith, few, call_sum, calls);
      calls = omega (arith, call_fits, call_sum, calls, call_room);
      answers = omega (arith, answer_fits, answers, answer_room);
      responses = omega (arith, response_fits, response_sum, responses, response_room);
    }

pub no_response : (life : Start) (past : History) (op : Op) (kind : ReplyKind) (response : List ℕ) → reply_with kind response ≡ answer life past op → ¬ IsTesterCall op →
    reply_size (reply_with kind response) ≡ 0
no_response life past op kind response is other = ap reply_size is ∙ answer_size life past op other

pub size_of_call : (op : Op) (kind : ReplyKind) (response : List ℕ) → (¬ IsTesterCall op → reply_size (reply_with kind response) ≡ 0) → length response ≤ RESPONSE → reply_size (reply_with kind response) ≤ response_size (Call op)
size_of_call (ops.Request tester bytes) kind response none few = size_most kind response few
size_of_call (ops.Signal index value) kind response none few = let is = none (λ no. no) in omega (arith, is)
size_of_call (ops.Enable condition fulfilled) kind response none few = let is = none (λ no. no) in omega (arith, is)
size_of_call (ops.Report event report) kind response none few = let is = none (λ no. no) in omega (arith, is)
size_of_call (ops.Tick ticks) kind response none few = let is = none (λ no. no) in omega (arith, is)
size_of_call (ops.Cycle cycle) kind response none few = let is = none (λ no. no) in omega (arith, is)
size_of_call (ops.Show event) kind response none few = let is = none (λ no. no) in omega (arith, is)
size_of_call ops.Snapshot kind response none few = let is = none (λ no. no) in omega (arith, is)
size_of_call (ops.Saved number) kind response none few = let is = none (λ no. no) in omega (arith, is)

-- A possible step is possible in a dark life.
pub possible_arm : (c : Config) (action : Action) → IsPossible c action → IsPossibleArm action
possible_arm c (Call op) possible = tt
possible_arm c (Queue op) possible = tt
possible_arm c Save possible = tt
possible_arm c Drain possible = tt
possible_arm c (Get block) possible = tt
possible_arm c (Arm arm) possible = possible

pub possible_own : (c : Config) (parts : List (PartOf Step)) → All (IsPossiblePart c) parts → All IsPossibleArm (own_actions parts)
possible_own c [] possible = All-nil IsPossibleArm
possible_own c (inl step ∷ parts) possible =
    All-cons IsPossibleArm (action_of step) (own_actions parts) (possible_arm c (action_of step) (All-head (IsPossiblePart c) (inl step) parts possible))
    (possible_own c parts (All-tail (IsPossiblePart c) (inl step) parts possible))
possible_own c (inr lanes ∷ parts) possible = possible_own c parts (All-tail (IsPossiblePart c) (inr lanes) parts possible)

pub possible_alone : (c : Config) (parts : List (PartOf Step)) → All (IsPossiblePart c) parts → All (IsPossible c) (own_actions parts)
possible_alone c [] possible = All-nil (IsPossible c)
possible_alone c (inl step ∷ parts) possible =
    All-cons (IsPossible c) (action_of step) (own_actions parts) (All-head (IsPossiblePart c) (inl step) parts possible) (possible_alone c parts (All-tail (IsPossiblePart c) (inl step) parts possible))
possible_alone c (inr lanes ∷ parts) possible = possible_alone c parts (All-tail (IsPossiblePart c) (inr lanes) parts possible)

lanes_possible : (c : Config) (lanes : List (List Step)) → All (λ lane. All (IsPossibleInLane c) lane) lanes → All IsLaneSteps lanes
lanes_possible c lanes possible =
    All-weaker (λ lane. All (IsPossibleInLane c) lane) IsLaneSteps (λ lane all. All-weaker (IsPossibleInLane c) (λ step. IsTrue (is_lane_step step)) (λ step one. one.0) lane all) lanes possible

pub possible_lanes : (c : Config) (parts : List (PartOf Step)) → All (IsPossiblePart c) parts → All IsLaneSteps (lanes_in parts)
possible_lanes c [] possible = All-nil IsLaneSteps
possible_lanes c (inl step ∷ parts) possible = possible_lanes c parts (All-tail (IsPossiblePart c) (inl step) parts possible)
possible_lanes c (inr lanes ∷ parts) possible =
    All-append IsLaneSteps lanes (lanes_in parts) (lanes_possible c lanes (All-head (IsPossiblePart c) (inr lanes) parts possible).0) (possible_lanes c parts (All-tail (IsPossiblePart c) (inr lanes) parts possible))

-- ---- parts one after the other

-- The next one of those that are left.
pub next_of : {X : Type 0} (P : X → Type 0) (done later : List X) (next : X) → All P (done ++ next ∷ later) → P next
next_of P done later next all = All-head P next later (all_right P done (next ∷ later) all)

pub own_actions-append : (parts more : List (PartOf Step)) → own_actions (parts ++ more) ≡ own_actions parts ++ own_actions more
own_actions-append parts more = ap (map action_of) (own_steps-append parts more) ∙ map-append action_of (own_steps parts) (own_steps more)

module _ (parts : List Part) (index : ℕ) (part : Part) (within : index < length parts) (is : part ≡ get_or parts index part) where
  pub actions_are : own_actions (parts_of (take (index + 1) parts)) ≡ own_actions (parts_of (take index parts)) ++ own_actions (part_of part ∷ [])
  actions_are = ap own_actions (parts_more_by parts index part within is) ∙ own_actions-append (parts_of (take index parts)) (part_of part ∷ [])

  pub steps_are : own_steps (parts_of (take (index + 1) parts)) ≡ own_steps (parts_of (take index parts)) ++ own_steps (part_of part ∷ [])
  steps_are = ap own_steps (parts_more_by parts index part within is) ∙ own_steps-append (parts_of (take index parts)) (part_of part ∷ [])

  whole : parts_of parts ≡ parts_of (take (index + 1) parts) ++ parts_of (drop (index + 1) parts)
  whole = ap parts_of (sym (take-append-drop (index + 1) parts)) ∙ map-append part_of (take (index + 1) parts) (drop (index + 1) parts)

  pub own_among : (P : Action → Type 0) → All P (own_actions (parts_of parts)) → All P (own_actions (part_of part ∷ []))
  own_among P all =
      let back = own_actions (parts_of (drop (index + 1) parts)) in
      let split = ap own_actions whole ∙ own_actions-append (parts_of (take (index + 1) parts)) (parts_of (drop (index + 1) parts)) in
      all_right P (own_actions (parts_of (take index parts))) (own_actions (part_of part ∷ []))
      (subst (All P) actions_are (all_left P (own_actions (parts_of (take (index + 1) parts))) back (subst (All P) split all)))

  pub own_steps_within : length (own_steps (parts_of (take index parts))) + length (own_steps (part_of part ∷ [])) ≤ length (own_steps (parts_of parts))
  own_steps_within =
      let front = parts_of (take (index + 1) parts) in
      let back = parts_of (drop (index + 1) parts) in
      let all = ap (λ ps. length (own_steps ps)) whole ∙ ap length (own_steps-append front back) ∙ length-append (own_steps front) (own_steps back) in
      let more = ap length steps_are ∙ length-append (own_steps (parts_of (take index parts))) (own_steps (part_of part ∷ [])) in
      omega (arith, all, more)

-- ---- a step in a lane is not made in a dark life

dark_unarmed : (does : Action) → may_stand does ≡ true → dark_answer does ≡ answers.Dark
dark_unarmed (Call op) may = refl
dark_unarmed (Queue op) may = refl
dark_unarmed Save may = refl
dark_unarmed Drain may = refl
dark_unarmed (Get block) may = refl
dark_unarmed (Arm arm) may = absurd (cc)

pub dark_in_lane : (step : Step) → IsTrue (is_lane_step step) → dark_answer (action_of step) ≡ answers.Dark
dark_in_lane step may = dark_unarmed (action_of step) (stands step may)

-- Each of parts by themselves is one.
pub one_alone : (parts : List Part) (index : ℕ) (part : Part) → index < length parts → part ≡ get_or parts index part → AreAlone (parts_of parts) → IsAlone (part_of part)
one_alone parts index part within is alone =
    let size = length-map parts part_of in
    subst IsAlone (get_or-map part_of parts index part (part_of part) within ∙ ap part_of (sym is)) (alone index (part_of part) (omega (arith, within, size)))
