use Rattle.std.proofs.Common.{◌≡◌, drop, map}
use Rattle.std.specs.String.{string_bytes}
use Rattle.flt_life_model.specs.Room.{told_in}
use Rattle.flt_trace.specs.Answered.{answer_texts, with_lanes}
use Rattle.flt_trace.proofs.answers.answering.answer_texts.Given as goal

abbrev pub invariant-loop-lane : goal.invariant-loop-lane
invariant-loop-lane l = with_lanes (map string_bytes l.texts.items) (drop l.lane-index (map told_in l.replies)) ≡ answer_texts l.fn.journal l.replies
