-- One more answer that a lane keeps.
use Rattle.std.proofs.Common.{◌≡◌, ℕ, ◌≤◌, List, [], ◌∷◌, ◌++◌, take, drop, length, refl, ap, arith, ◌∙◌}
use Rattle.std.specs.Prelude.{All}
use Rattle.std.proofs.lemmas.List.{take-append-le, drop-append-le, length-drop, map-append}
use Rattle.std.proofs.lemmas.List.Elements.{All-head, All-tail}
use Rattle.arrayvec.specs.ArrayVec.{ArrayVec}
use Rattle.flt_model.specs.Reply.{Reply}
use Rattle.flt_model.specs.declared.call.ReplyOf.TheVariants as kept
use Rattle.flt_queue.specs.Reply.{QueueReply}
use Rattle.flt_queue.specs.declared.job.QueueReplyOf.TheVariants as replies
use Rattle.flt_life_model.specs.declared.answer.KeptResponse.{KeptResponse}
use Rattle.flt_life_model.specs.declared.answer.KeptQueueReply.{KeptQueueReply}
use Rattle.flt_life_model.specs.declared.answer.KeptQueueReply.TheVariants as queued
use Rattle.flt_life_model.specs.declared.answer.StepAnswer.TheVariants as answers
use Rattle.flt_life_model.specs.Answers.{KeptAnswer, KeptReply, IsRangeWithin, IsReplyWithin, IsQueueReplyWithin, IsAnswerWithin, bytes_in, reply_in, queue_reply_in, told_of, told_by}

-- More bytes after those of the lane change no answer that is kept.

module _ (bytes more : List ℕ) where
  bytes_stay : (range : KeptResponse) → IsRangeWithin (length bytes) range → bytes_in (bytes ++ more) range ≡ bytes_in bytes range
  bytes_stay range within =
      let front : range.from ≤ length bytes = omega (arith, within) in
      let rest = length-drop range.from bytes in
      let fits : range.length ≤ length (drop range.from bytes) = omega (arith, within, rest) in
      let same = ap (take range.length) (drop-append-le range.from bytes more front) ∙ take-append-le range.length (drop range.from bytes) more fits in
      λ i. record { items = same i }

  reply_stays : (reply : KeptReply) → IsReplyWithin (length bytes) reply → reply_in (bytes ++ more) reply ≡ reply_in bytes reply
  reply_stays kept.Taken within = refl
  reply_stays (kept.Ignored cause) within = refl
  reply_stays (kept.Shown shown) within = refl
  reply_stays (kept.Response range) within = ap (λ (b : ArrayVec ℕ). kept.Response b) (bytes_stay range within)
  reply_stays kept.Silent within = refl

  queue_reply_stays : (reply : KeptQueueReply) → IsQueueReplyWithin (length bytes) reply → queue_reply_in (bytes ++ more) reply ≡ queue_reply_in bytes reply
  queue_reply_stays queued.Accepted within = refl
  queue_reply_stays queued.BlockPending within = refl
  queue_reply_stays queued.QueueFull within = refl
  queue_reply_stays (queued.Job block range) within = ap (λ (b : ArrayVec ℕ). replies.Job (record { block = block; bytes = b })) (bytes_stay range within)
  queue_reply_stays queued.NoJob within = refl
  queue_reply_stays queued.Noted within = refl
  queue_reply_stays queued.NotTaken within = refl
  queue_reply_stays (queued.Last last) within = refl

  answer_stays : (answer : KeptAnswer) → IsAnswerWithin (length bytes) answer → told_of (bytes ++ more) answer ≡ told_of bytes answer
  answer_stays (answers.Dem told) within = ap (λ (reply : Reply). answers.Dem (record { place = told.place; reply = reply })) (reply_stays told.reply within)
  answer_stays (answers.Saved number) within = refl
  answer_stays (answers.SaveFailed fault) within = refl
  answer_stays (answers.Queue told) within = ap (λ (reply : QueueReply). answers.Queue (record { place = told.place; reply = reply })) (queue_reply_stays told.reply within)
  answer_stays (answers.Drained written failed) within = refl
  answer_stays (answers.Bytes range) within = ap (λ (b : ArrayVec ℕ). answers.Bytes b) (bytes_stay range within)
  answer_stays answers.NoBlock within = refl
  answer_stays answers.BlockFlash within = refl
  answer_stays answers.Armed within = refl
  answer_stays answers.Dark within = refl

  all_stay : (answers : List KeptAnswer) → All (IsAnswerWithin (length bytes)) answers → told_by (bytes ++ more) answers ≡ told_by bytes answers
  all_stay [] within = refl
  all_stay (answer ∷ rest) within =
      let first = answer_stays answer (All-head (IsAnswerWithin (length bytes)) answer rest within) in
      let others = all_stay rest (All-tail (IsAnswerWithin (length bytes)) answer rest within) in
      λ i. first i ∷ others i

  -- One answer more.
  pub told_more : (before : List KeptAnswer) (answer : KeptAnswer) → All (IsAnswerWithin (length bytes)) before
      → told_by (bytes ++ more) (before ++ answer ∷ []) ≡ told_by bytes before ++ told_of (bytes ++ more) answer ∷ []
  told_more before answer within =
      map-append (told_of (bytes ++ more)) before (answer ∷ []) ∙ ap (λ front. front ++ told_of (bytes ++ more) answer ∷ []) (all_stay before within)
