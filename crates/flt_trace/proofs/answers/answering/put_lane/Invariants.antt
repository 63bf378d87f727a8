use Rattle.std.proofs.Common.{◌≡◌, drop, map}
use Rattle.std.specs.String.{string_bytes}
use Rattle.flt_life_model.specs.Room.{told_in}
use Rattle.flt_trace.specs.Answered.{with_lane}
use Rattle.flt_trace.proofs.answers.answering.put_lane.Given as goal

abbrev pub invariant-loop-answer : goal.invariant-loop-answer
invariant-loop-answer l =
    with_lane (map string_bytes l.texts.items) (drop l.answer-index (told_in l.lane)) ≡ with_lane (map string_bytes l.initial.texts.items) (told_in l.lane)
