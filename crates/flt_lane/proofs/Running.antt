-- A lane after some of its steps.
use Rattle.std.proofs.Common.{◌≡◌, ℕ, zero, suc, ◌<◌, ◌≤◌, ◌+◌, List, [], ◌∷◌, ◌++◌, length, take, drop, get_or, drop-cons, add-one, arith, refl, sym, ap, subst, ◌∙◌}
use Rattle.std.specs.Prelude.{sum_by}
use Rattle.std.proofs.lemmas.List.{take_more, take-append-drop, append-nil, append_assoc}
use Rattle.std.proofs.lemmas.List.Sums.{sum_by-append, sum_by-cons}
use Rattle.flt_step.specs.declared.step.Step.{Step}
use Rattle.flt_queue.specs.Call as queued
use Rattle.flt_queue.specs.Queue as queue
use Rattle.flt_shared.specs.Call.{Seat, MayBeAsked, reply_after}
use Rattle.flt_lane.specs.Views.{IsOfLock, KnownLocks, LaneWork}
use Rattle.flt_turn.specs.Seats as turn
use Rattle.flt_life_model.specs.Actions.{action_of}
use Rattle.flt_life_model.specs.Answers.{Told}
use Rattle.flt_life_model.specs.Parts.{IsPossibleInLane}
use Rattle.flt_life_model.specs.Played.{StepMakes, StepQueues}
use Rattle.flt_life_model.specs.declared.replies.LaneReplies.{LaneReplies}
use Rattle.flt_life_model.specs.Room.{HasRoomForSteps, told_in}
use Rattle.flt_life_model.proofs.Sizes.{sizes-cons}
use Rattle.flt_lane.specs.Runs.{QueueSeat, Makes, Queues, calls_by, queued_by}
use Rattle.flt_lane.specs.Stepped.{HasRoomForAnswer, MakesStep}
use Rattle.flt_lane.specs.Work.{AreSeatsOf, IsPrepared, HasRun}
use Rattle.flt_fork.proofs.Chains.{chain_fact}
use Rattle.flt_fork.proofs.PartWays.{PartBy, part_first, part_more, part_runs, part_start, part_number}

abbrev pub DemPart : Seat → Seat → List Step → List Told → Type 0
DemPart = PartBy MayBeAsked reply_after StepMakes calls_by

abbrev pub QueuePart : QueueSeat → QueueSeat → List Step → List Told → Type 0
QueuePart = PartBy queue.IsQueueCallFor queued.reply_after StepQueues queued_by

-- ---- the room for an answer

-- Of the steps that are left, the first one has room.
pub room_for : (replies : LaneReplies) (step : Step) (later : List Step) → HasRoomForSteps replies (step ∷ later) → HasRoomForAnswer replies (action_of step)
room_for replies step later room =
    let sum = sizes-cons step later in
    let answers = room.answers in
    let responses = room.responses in
    record { answers = omega (arith, answers); responses = omega (arith, sum, responses) }

-- ---- a lane on its way

pub record IsPartway (locks : KnownLocks) (before now : LaneWork) (index : ℕ) : Type 0 where
  pub told : List Told
  pub dem : DemPart before.seats.dem now.seats.dem (take index before.steps.now) told
  pub queue : QueuePart before.seats.queue now.seats.queue (take index before.steps.now) told
  pub answers : told_in now.replies ≡ told_in before.replies ++ told
  pub number : now.number ≡ before.number
  pub seat_number : now.number ≡ now.seats.dem.number
  pub steps : now.steps.now ≡ before.steps.now
  pub room : HasRoomForSteps now.replies (drop index before.steps.now)
  pub seats : AreSeatsOf locks now

pub begins : (locks : KnownLocks) (lane : LaneWork) → IsPrepared locks lane → IsPartway locks lane lane 0
begins locks lane ready = record {
  told = [];
  dem = part_first MayBeAsked reply_after StepMakes calls_by lane.seats.dem;
  queue = part_first queue.IsQueueCallFor queued.reply_after StepQueues queued_by lane.seats.queue;
  answers = sym (append-nil _);
  number = refl;
  seat_number = ready.number;
  steps = refl;
  room = ready.room;
  seats = ready.seats;
}

-- The next step of those that are left.
pub next_step : (steps : List Step) (index : ℕ) (step : Step) → index < length steps → step ≡ get_or steps index step → drop index steps ≡ step ∷ drop (index + 1) steps
next_step steps index step within is = rw (drop-cons steps index step within, add-one) (ap (λ s. s ∷ drop (suc index) steps) (sym is))

-- What all steps come to, by those so far, the next one and the others.
pub sum_so_far : (amount : Step → ℕ) (steps : List Step) (index : ℕ) (step : Step) → index < length steps → step ≡ get_or steps index step
    → sum_by amount steps ≡ sum_by amount (take index steps) + (amount step + sum_by amount (drop (index + 1) steps))
sum_so_far amount steps index step within is =
    ap (sum_by amount) (sym (take-append-drop index steps)) ∙ sum_by-append amount (take index steps) (drop index steps)
    ∙ ap (λ l. sum_by amount (take index steps) + sum_by amount l) (next_step steps index step within is) ∙ ap (λ n. sum_by amount (take index steps) + n) (sum_by-cons amount step (drop (index + 1) steps))

-- The seats stay those of the locks.
pub seats_stay : (locks : KnownLocks) (now after : LaneWork) (step : Step) (told : Told) → AreSeatsOf locks now → Makes now.seats.dem step told after.seats.dem → Queues now.seats.queue step told after.seats.queue
    → IsOfLock locks.dem after.seats.dem → turn.IsSeatOf locks.queue.turn after.seats.queue → AreSeatsOf locks after
seats_stay locks now after step told seats makes queues dem job_seat = record {
  dem = dem;
  queue = job_seat;
  blocks = (chain_fact queue.IsQueueCallFor queued.reply_after now.seats.queue queues.calls after.seats.queue queues.chain).start_is ∙ seats.blocks
      ∙ ap (λ s. s.config.blocks) (sym (chain_fact MayBeAsked reply_after now.seats.dem makes.calls after.seats.dem makes.chain).start_is);
}

module _ (locks : KnownLocks) (before now : LaneWork) (index : ℕ) (step : Step) (ready : IsPrepared locks before) (on : IsPartway locks before now index) (within : index < length before.steps.now)
    (is : step ≡ get_or before.steps.now index step) where
  -- There are the calls for the next step.
  pub calls_left : calls_by step ≤ now.seats.dem.left
  calls_left = let sum = sum_so_far calls_by before.steps.now index step within is in let left = on.dem.left in omega (arith, sum, left, ready.calls)

  pub queued_left : queued_by step ≤ now.seats.queue.left
  queued_left = let sum = sum_so_far queued_by before.steps.now index step within is in let left = on.queue.left in omega (arith, sum, left, ready.queued)

  pub start_now : now.seats.dem.start ≡ before.seats.dem.start
  start_now = part_start MayBeAsked reply_after StepMakes calls_by before.seats.dem now.seats.dem (take index before.steps.now) on.told on.dem

  pub possible_next : IsPossibleInLane now.seats.dem.start.config step
  possible_next = subst (λ s. IsPossibleInLane s.config step) (sym start_now) (subst (IsPossibleInLane before.seats.dem.start.config) (sym is) (ready.steps index step within))

  -- There is room for its answer.
  pub room_next : HasRoomForAnswer now.replies (action_of step)
  room_next = room_for now.replies step (drop (index + 1) before.steps.now) (subst (HasRoomForSteps now.replies) (next_step before.steps.now index step within is) on.room)

  pub goes_on : (after : LaneWork) → (made : MakesStep now.seats.dem after.seats.dem now.seats.queue after.seats.queue step now.replies after.replies) → after.number ≡ now.number → after.steps.now ≡ now.steps.now
      → IsOfLock locks.dem after.seats.dem → turn.IsSeatOf locks.queue.turn after.seats.queue → IsPartway locks before after (index + 1)
  goes_on after made number steps seat job_seat =
      let all = before.steps.now in
      let told = made.answer in
      let taken : take (index + 1) all ≡ take index all ++ step ∷ [] = take_more all index step within ∙ ap (λ s. take index all ++ s ∷ []) (sym is) in
      let dem = part_more MayBeAsked reply_after StepMakes calls_by before.seats.dem now.seats.dem after.seats.dem (take index all) on.told step told on.dem made.dem in
      let queue = part_more queue.IsQueueCallFor queued.reply_after StepQueues queued_by before.seats.queue now.seats.queue after.seats.queue (take index all) on.told step told on.queue made.queue in
      record {
        told = on.told ++ told ∷ [];
        dem = subst (λ l. DemPart before.seats.dem after.seats.dem l (on.told ++ told ∷ [])) (sym taken) dem;
        queue = subst (λ l. QueuePart before.seats.queue after.seats.queue l (on.told ++ told ∷ [])) (sym taken) queue;
        answers = made.keeps.told ∙ ap (λ l. l ++ told ∷ []) on.answers ∙ append_assoc (told_in before.replies) on.told (told ∷ []);
        number = number ∙ on.number;
        seat_number = number ∙ on.seat_number ∙ sym (part_number MayBeAsked reply_after StepMakes calls_by now.seats.dem after.seats.dem (step ∷ []) (told ∷ [])
            (part_more MayBeAsked reply_after StepMakes calls_by now.seats.dem now.seats.dem after.seats.dem [] [] step told (part_first MayBeAsked reply_after StepMakes calls_by now.seats.dem) made.dem));
        steps = steps ∙ on.steps;
        room = made.keeps.room (drop (index + 1) all) (subst (HasRoomForSteps now.replies) (next_step all index step within is) on.room);
        seats = seats_stay locks now after step told on.seats made.dem made.queue seat job_seat;
      }

pub take_past : {X : Type 0} (n : ℕ) (xs : List X) → length xs ≤ n → take n xs ≡ xs
take_past zero [] short = refl
take_past (suc n) [] short = refl
take_past zero (x ∷ xs) short = absurd (omega arith)
take_past (suc n) (x ∷ xs) short = ap (λ l. x ∷ l) (take_past n xs (omega arith))

pub has_run : (locks : KnownLocks) (before now : LaneWork) (index : ℕ) → IsPartway locks before now index → length before.steps.now ≤ index → HasRun before now
has_run locks before now index on all =
    let whole = take_past index before.steps.now all in
    record {
      told = on.told;
      dem = part_runs MayBeAsked reply_after StepMakes calls_by before.seats.dem now.seats.dem before.steps.now on.told (subst (λ l. DemPart before.seats.dem now.seats.dem l on.told) whole on.dem);
      queue = part_runs queue.IsQueueCallFor queued.reply_after StepQueues queued_by before.seats.queue now.seats.queue before.steps.now on.told (subst (λ l. QueuePart before.seats.queue now.seats.queue l on.told) whole on.queue);
      answers = on.answers;
      number = (on.number, on.seat_number);
      steps = on.steps;
    }
