-- How many bytes an answer has at most.
use Rattle.std.specs.Prelude.{ℕ, ◌*◌, List, length}
use Rattle.flt_model.specs.Reply.{of_response}
use Rattle.flt_model.specs.declared.call.ReplyOf.{ReplyOf}
use Rattle.flt_life_model.specs.Answers.{KeptAnswer, KeptReply}
use Rattle.flt_life_model.specs.declared.answer.StepAnswer.TheVariants.{Dem, Bytes}

-- Three for each byte of a response or of a block, and 96 for what is shown of an event, the longest of the others.
abbrev pub reply_room : {B : Type 0} → ReplyOf B → List ℕ → ℕ
reply_room reply response = of_response 96 (λ _. length response * 3) reply

-- The same of a reply as it is kept.
abbrev pub kept_room : KeptReply → ℕ
kept_room kept = of_response 96 (λ range. range.length * 3) kept

abbrev pub answer_room : KeptAnswer → ℕ
answer_room (Dem told) = kept_room told.reply
answer_room (Bytes range) = range.length * 3
answer_room _ = 96
