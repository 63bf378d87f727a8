-- The answers to steps, with the machine's replies whole.
use Rattle.std.specs.Prelude.{◌≤◌, ℕ, ◌+◌, ◌-◌, ◌^◌, List, Vec, map, min, take, drop, length}
use Rattle.std.specs.Vec.{vec_capacity}
use Rattle.arrayvec.specs.ArrayVec.{ArrayVec}
use Rattle.flt_dcm.specs.ReplyKind.{ReplyKind, reply_with}
use Rattle.flt_model.specs.Reply.{Reply, map_reply, of_response}
use Rattle.flt_model.specs.declared.call.ReplyOf.{ReplyOf}
use Rattle.flt_queue.specs.Reply.{QueueReply}
use Rattle.flt_queue.specs.declared.job.QueueReplyOf.TheVariants as replies
use Rattle.flt_life_model.specs.declared.answer.KeptResponse.{KeptResponse}
use Rattle.flt_life_model.specs.declared.answer.KeptQueueReply.{KeptQueueReply}
use Rattle.flt_life_model.specs.declared.answer.KeptQueueReply.TheVariants as kept
use Rattle.flt_life_model.specs.declared.answer.StepAnswer.{StepAnswer}
use Rattle.flt_life_model.specs.declared.answer.StepAnswer.TheVariants.{Dem, Saved, SaveFailed, Queue, Drained, Bytes, NoBlock, BlockFlash, Armed, Dark}

-- An answer to a step with the machine's reply.
abbrev pub Told : Type 0
Told = StepAnswer Reply QueueReply (ArrayVec ℕ)

-- The reply of a call, that of the queue and the bytes of a block are changed by functions.
abbrev pub map_answer : {R S Q P B C : Type 0} → (R → S) → (Q → P) → (B → C) → StepAnswer R Q B → StepAnswer S P C
map_answer of_reply of_queue of_bytes (Dem told) = Dem (record { place = told.place; reply = of_reply told.reply })
map_answer of_reply of_queue of_bytes (Saved number) = Saved number
map_answer of_reply of_queue of_bytes (SaveFailed fault) = SaveFailed fault
map_answer of_reply of_queue of_bytes (Queue told) = Queue (record { place = told.place; reply = of_queue told.reply })
map_answer of_reply of_queue of_bytes (Drained written failed) = Drained written failed
map_answer of_reply of_queue of_bytes (Bytes bytes) = Bytes (of_bytes bytes)
map_answer of_reply of_queue of_bytes NoBlock = NoBlock
map_answer of_reply of_queue of_bytes BlockFlash = BlockFlash
map_answer of_reply of_queue of_bytes Armed = Armed
map_answer of_reply of_queue of_bytes Dark = Dark

-- An answer with the kind of a reply, whose response is beside it.
abbrev pub GivenAnswer : Type 0
GivenAnswer = StepAnswer ReplyKind QueueReply (ArrayVec ℕ)

-- The answer of this kind with this response.
abbrev pub told_with : List ℕ → GivenAnswer → Told
told_with response answer = map_answer (λ kind. reply_with kind response) (λ reply. reply) (λ bytes. bytes) answer

-- ---- answers as a lane keeps them: their bytes are ranges of the bytes of the lane

abbrev pub KeptReply : Type 0
KeptReply = ReplyOf KeptResponse

abbrev pub KeptAnswer : Type 0
KeptAnswer = StepAnswer KeptReply KeptQueueReply KeptResponse

-- The bytes of a range.
abbrev pub bytes_in : List ℕ → KeptResponse → ArrayVec ℕ
bytes_in bytes range = record { items = take range.length (drop range.from bytes) }

-- The whole reply of a kept one, with these bytes of the lane, and the same of the queue's.
abbrev pub reply_in : List ℕ → KeptReply → Reply
reply_in bytes reply = map_reply (bytes_in bytes) reply

abbrev pub queue_reply_in : List ℕ → KeptQueueReply → QueueReply
queue_reply_in bytes kept.Accepted = replies.Accepted
queue_reply_in bytes kept.BlockPending = replies.BlockPending
queue_reply_in bytes kept.QueueFull = replies.QueueFull
queue_reply_in bytes (kept.Job block range) = replies.Job (record { block = block; bytes = bytes_in bytes range })
queue_reply_in bytes kept.NoJob = replies.NoJob
queue_reply_in bytes kept.Noted = replies.Noted
queue_reply_in bytes kept.NotTaken = replies.NotTaken
queue_reply_in bytes (kept.Last last) = replies.Last last

-- The whole answer of a kept one.
abbrev pub told_of : List ℕ → KeptAnswer → Told
told_of bytes answer = map_answer (reply_in bytes) (queue_reply_in bytes) (bytes_in bytes) answer

-- The answers kept with these bytes, in their order.
abbrev pub told_by : List ℕ → List KeptAnswer → List Told
told_by bytes answers = map (told_of bytes) answers

-- ---- where the ranges end

-- A range is within this many bytes.
abbrev pub IsRangeWithin : ℕ → KeptResponse → Type 0
IsRangeWithin bytes range = range.from + range.length ≤ bytes

-- Where the range of a reply ends, or 0 if there is none.
abbrev pub end_of_reply : KeptReply → ℕ
end_of_reply reply = of_response 0 (λ range. range.from + range.length) reply

abbrev pub end_of_queue_reply : KeptQueueReply → ℕ
end_of_queue_reply (kept.Job block range) = range.from + range.length
end_of_queue_reply _ = 0

-- The same of an answer.
abbrev pub end_of : KeptAnswer → ℕ
end_of (Dem told) = end_of_reply told.reply
end_of (Queue told) = end_of_queue_reply told.reply
end_of (Bytes range) = range.from + range.length
end_of _ = 0

-- A range of a reply, and of an answer, is within this many bytes.
abbrev pub IsReplyWithin : ℕ → KeptReply → Type 0
IsReplyWithin bytes reply = end_of_reply reply ≤ bytes

abbrev pub IsQueueReplyWithin : ℕ → KeptQueueReply → Type 0
IsQueueReplyWithin bytes reply = end_of_queue_reply reply ≤ bytes

abbrev pub IsAnswerWithin : ℕ → KeptAnswer → Type 0
IsAnswerWithin bytes answer = end_of answer ≤ bytes

-- ---- how many bytes an answer adds to those of its lane

-- Those of a response, and of a job that was taken.
abbrev pub reply_size : Reply → ℕ
reply_size reply = of_response 0 (λ bytes. length bytes.items) reply

abbrev pub queue_reply_size : QueueReply → ℕ
queue_reply_size (replies.Job job) = length job.bytes.items
queue_reply_size _ = 0

abbrev pub told_size : Told → ℕ
told_size (Dem told) = reply_size told.reply
told_size (Queue told) = queue_reply_size told.reply
told_size (Bytes bytes) = length bytes.items
told_size _ = 0

-- Those of an answer of this kind, with its response.
abbrev pub response_length : GivenAnswer → List ℕ → ℕ
response_length answer response = told_size (told_with response answer)

-- How many bytes a lane can keep: a range is of two numbers below 2^32.
abbrev pub byte_room : {A : Type 0} → Vec ℕ A → ℕ
byte_room responses = min (vec_capacity responses) (2 ^ 32 - 1)
