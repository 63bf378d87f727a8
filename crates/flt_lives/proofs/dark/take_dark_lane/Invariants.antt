use Rattle.std.proofs.Common.{◌≡◌, ◌≤◌, take}
use Rattle.std.specs.Prelude.{vec_len}
use Rattle.std.specs.Vec.{vec_capacity}
use Rattle.flt_life_model.specs.Answers.{byte_room}
use Rattle.flt_life_model.specs.Played.{dark_answers}
use Rattle.flt_life_model.specs.Room.{told_in}
use Rattle.flt_lives.proofs.dark.take_dark_lane.Given as goal

abbrev pub invariant-loop-step : goal.invariant-loop-step
invariant-loop-step l = record {
  answers : told_in l.replies ≡ dark_answers (take l._step-index l.steps);
  len : vec_len l.replies.answers ≡ l._step-index;
  room : vec_capacity l.replies.answers ≡ vec_capacity l.initial.replies.answers;
  responses : vec_len l.replies.responses ≡ vec_len l.initial.replies.responses;
  bytes : byte_room l.initial.replies.responses ≤ byte_room l.replies.responses;
}
