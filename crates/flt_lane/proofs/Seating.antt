-- The lanes of a block at the main seats.
use Rattle.std.proofs.Common.{◌≡◌, ℕ, ◌≤◌, ◌+◌, List, ◌∷◌, ◌++◌, [], All, length, map, arith, refl, sym, ap, subst, ◌∙◌}
use Rattle.std.specs.Prelude.{sum_by}
use Rattle.std.proofs.lemmas.List.Sums.{sum_by-cons}
use Rattle.std.proofs.lemmas.List.Elements.{All-head, All-tail}
use Rattle.flt_step.specs.declared.step.Step.{Step}
use Rattle.flt_turn.specs.Seats.{split_off, split_seat}
use Rattle.flt_fork.specs.Passed.{HavePassed}
use Rattle.flt_fork.specs.Seats.{IsSplitOff}
use Rattle.flt_fork.proofs.Passed.{joined_seats, joins_on, passed_alone, passed_behind, passed_each, passed_same, split_main, split_seats, splits_on, splits_with}
use Rattle.flt_shared.specs.Call.{Seat}
use Rattle.flt_life_model.specs.Parts.{calls_of, queued_of}
use Rattle.flt_life_model.specs.declared.replies.LaneReplies.{LaneReplies}
use Rattle.flt_life_model.specs.declared.room.LaneRoom.{LaneRoom}
use Rattle.flt_life_model.specs.Room.{HasRoomForSteps, IsEmpty, IsLaneRoom, steps_of, told_in}
use Rattle.flt_lane.specs.Views.{KnownLocks, LaneWork, Seats}
use Rattle.flt_lane.specs.Room.{IsLaneFor, all_calls, all_queued}
use Rattle.flt_lane.specs.Runs.{QueueSeat}
use Rattle.flt_lane.specs.Seating.{AreSeated, CanJoin, CanSeat, HaveJoined, IsJoined, IsSeated}
use Rattle.flt_lane.specs.Work.{AreSeatsOf, IsPrepared}

pub none_told : (replies : LaneReplies) → IsEmpty replies → told_in replies ≡ []
none_told replies empty = rw empty.answers refl

-- The answers fit as well where others are the same.
pub room_same : (replies other : LaneReplies) (steps same : List Step) → other ≡ replies → same ≡ steps → HasRoomForSteps replies steps → HasRoomForSteps other same
room_same replies other steps same replies_are steps_are room = subst (λ l. HasRoomForSteps l same) (sym replies_are) (subst (HasRoomForSteps replies) (sym steps_are) room)

-- What the first lane needs, and the later ones.
pub all_of_first : (amount : List Step → ℕ) (room : LaneRoom) (later : List LaneRoom) (steps : List Step) → steps ≡ room.steps.now → sum_by amount (steps_of (room ∷ later)) ≡ amount steps + sum_by amount (steps_of later)
all_of_first amount room later steps is = sum_by-cons amount room.steps.now (steps_of later) ∙ ap (λ l. amount l + sum_by amount (steps_of later)) (sym is)

pub first_fits : (amount : List Step → ℕ) (room : LaneRoom) (later : List LaneRoom) (left : ℕ) → sum_by amount (steps_of (room ∷ later)) ≤ left → amount room.steps.now ≤ left
first_fits amount room later left enough = let sum = all_of_first amount room later room.steps.now refl in omega (arith, sum, enough)

module _ (locks : KnownLocks) (before : Seats) (room : LaneRoom) (later : List LaneRoom) (can : CanSeat locks before (room ∷ later)) where
  -- The calls of the next lane, and what is known of it.
  pub calls_for : calls_of room.steps.now ≤ before.dem.left
  calls_for = first_fits calls_of room later before.dem.left can.dem.enough

  pub queued_for : queued_of room.steps.now ≤ before.queue.left
  queued_for = first_fits queued_of room later before.queue.left can.queue.enough

  pub lane_for : IsLaneFor before.dem.start.config room.steps.now
  lane_for = All-head (IsLaneFor before.dem.start.config) room.steps.now (steps_of later) can.steps

  room_for : IsLaneRoom room
  room_for = All-head IsLaneRoom room later can.ready

  pub seated : (after : Seats) (work : LaneWork) → after.dem ≡ split_off (calls_of room.steps.now) before.dem → after.queue ≡ split_off (queued_of room.steps.now) before.queue
      → work.seats.dem ≡ split_seat (calls_of room.steps.now) before.dem → work.seats.queue ≡ split_seat (queued_of room.steps.now) before.queue → work.number ≡ work.seats.dem.number → work.steps ≡ room.steps
      → work.replies ≡ room.replies → IsSeated locks before room after work
  seated after work dem_off queue_off dem queue number steps_are replies_are =
      let start = ap (λ (s : Seat). s.start.config) dem in
      let steps : work.steps.now ≡ room.steps.now = ap (λ l. l.now) steps_are in
      let calls = ap calls_of steps in
      let queued = ap queued_of steps in
      record {
        ready = record {
          seats = record {
            dem = (ap (λ (s : Seat). s.lock) dem ∙ can.dem.main_is.lock_is, start ∙ can.config);
            queue = ap (λ (s : QueueSeat). s.lock) queue ∙ can.queue.main_is.lock_is;
            blocks = ap (λ (s : QueueSeat). s.start) queue ∙ can.blocks ∙ sym (ap (λ (s : Seat). s.start.config.blocks) dem);
          };
          number = number;
          steps = rw (start, steps) lane_for.0;
          few = omega (arith, ap length steps, lane_for.1);
          calls = let left = ap (λ (s : Seat). s.left) dem in omega (arith, calls, left);
          queued = let left = ap (λ (s : QueueSeat). s.left) queue in omega (arith, queued, left);
          room = room_same room.replies work.replies room.steps.now work.steps.now replies_are steps room_for.room;
        };
        steps_are = steps;
        no_answers = ap told_in replies_are ∙ none_told room.replies room_for.empty;
        dem = splits_with before.dem after.dem work.seats.dem (calls_of room.steps.now) (calls_of work.steps.now) calls calls_for dem_off dem;
        queue = splits_with before.queue after.queue work.seats.queue (queued_of room.steps.now) (queued_of work.steps.now) queued queued_for queue_off queue;
      }

  -- The later lanes may have their seats after it.
  pub seats_on : (after : Seats) (work : LaneWork) → IsSeated locks before room after work → CanSeat locks after later
  seats_on after work is =
      let start = ap (λ (s : Seat). s.start.config) is.dem.after_is in
      record {
        dem = splits_on locks.dem.turn before.dem after.dem work.seats.dem (calls_of work.steps.now) (length later) _ (all_calls (steps_of later)) _ is.dem (omega arith) (all_of_first calls_of room later work.steps.now is.steps_are) can.dem;
        queue = splits_on locks.queue.turn before.queue after.queue work.seats.queue (queued_of work.steps.now) (length later) _ (all_queued (steps_of later)) _ is.queue (omega arith) (all_of_first queued_of room later work.steps.now is.steps_are) can.queue;
        config = start ∙ can.config;
        blocks = ap (λ (s : QueueSeat). s.start) is.queue.after_is ∙ can.blocks ∙ sym (ap (λ (s : Seat). s.start.config.blocks) is.dem.after_is);
        ready = All-tail IsLaneRoom room later can.ready;
        steps = subst (λ c. All (IsLaneFor c) (steps_of later)) (sym start) (All-tail (IsLaneFor before.dem.start.config) room.steps.now (steps_of later) can.steps);
      }

module _ (locks : KnownLocks) where
  -- The later lanes may give theirs back after it.
  pub joins_later : (before : Seats) (work : LaneWork) (later : List LaneWork) (after : Seats) (replies : LaneReplies) → IsJoined before work after replies → CanJoin locks before (work ∷ later) → CanJoin locks after later
  joins_later before work later after replies is can = record {
    dem = joins_on locks.dem.turn before.dem after.dem work.seats.dem is.dem can.dem;
    queue = joins_on locks.queue.turn before.queue after.queue work.seats.queue is.queue can.queue;
    config = ap (λ (s : Seat). s.start.config) is.dem ∙ can.config;
    seats = All-tail (AreSeatsOf locks) work later can.seats;
  }

  pub are_seated : (main : Seats) (rooms : List LaneRoom) (off : Seats) (old works : List LaneWork) → old ≡ [] → (more : List LaneWork) × (works ≡ old ++ more) × HavePassed (IsSeated locks) main rooms off more → AreSeated locks main off (steps_of rooms) works
  are_seated main rooms off old works none passed =
      let passes = IsSeated locks in
      let are = passed_alone passes main rooms off old works passed.0 none passed.1 passed.2 in
      let steps = passed_same passes (λ (room : LaneRoom). room.steps.now) (λ (w : LaneWork). w.steps.now) (λ before room after work is. is.steps_are) main rooms off works are in
      record {
        ready = passed_each passes (IsPrepared locks) (λ before room after work is. is.ready) main rooms off works are;
        steps_are = steps;
        no_answers = passed_each passes (λ (w : LaneWork). told_in w.replies ≡ []) (λ before room after work is. is.no_answers) main rooms off works are;
        dem = split_seats passes (λ (s : Seats). s.dem) (λ (w : LaneWork). w.seats.dem) (λ (w : LaneWork). w.steps.now) calls_of (λ before room after work is. is.dem) main rooms off works are;
        queue = split_seats passes (λ (s : Seats). s.queue) (λ (w : LaneWork). w.seats.queue) (λ (w : LaneWork). w.steps.now) queued_of (λ before room after work is. is.queue) main rooms off works are;
        dem_off = subst (λ l. IsSplitOff main.dem off.dem (length works) (all_calls l)) steps
            (split_main passes (λ (s : Seats). s.dem) (λ (w : LaneWork). w.seats.dem) (λ (w : LaneWork). w.steps.now) calls_of (λ before room after work is. is.dem) main rooms off works are);
        queue_off = subst (λ l. IsSplitOff main.queue off.queue (length works) (all_queued l)) steps
            (split_main passes (λ (s : Seats). s.queue) (λ (w : LaneWork). w.seats.queue) (λ (w : LaneWork). w.steps.now) queued_of (λ before room after work is. is.queue) main rooms off works are);
      }

pub have_joined : (off : Seats) (works : List LaneWork) (after : Seats) (before told : List LaneReplies) → (more : List LaneReplies) × (told ≡ before ++ more) × HavePassed IsJoined off works after more
    → HaveJoined off after works (map told_in before) (map told_in told)
have_joined off works after before told passed = record {
  told_are = passed_behind IsJoined (λ (w : LaneWork). told_in w.replies) told_in (λ before work after replies is. ap told_in is.replies_are) off works after before told passed.0 passed.1 passed.2;
  dem = joined_seats IsJoined (λ (s : Seats). s.dem) (λ (w : LaneWork). w.seats.dem) (λ before work after replies is. is.dem) off works after passed.0 passed.2;
  queue = joined_seats IsJoined (λ (s : Seats). s.queue) (λ (w : LaneWork). w.seats.queue) (λ before work after replies is. is.queue) off works after passed.0 passed.2;
}
