use Rattle.std.proofs.Common.{ap, refl}
use Rattle.flt_model.specs.Reply.{Reply}
use Rattle.flt_model.specs.declared.call.ReplyOf.TheVariants as replies
use Rattle.flt_queue.specs.Reply.{QueueReply}
use Rattle.flt_queue.specs.declared.job.QueueReplyOf.TheVariants as queue_replies
use Rattle.flt_life_model.specs.Answers.{Told}
use Rattle.flt_life_model.specs.declared.answer.StepAnswer.TheVariants as answers
use Rattle.flt_live.proofs.worked.places_are_left_out.Goals as goal

-- The reply of an answer.
abbrev reply_in : Told → Reply
reply_in (answers.Dem told) = told.reply
reply_in _ = replies.Taken

abbrev queue_reply_in : Told → QueueReply
queue_reply_in (answers.Queue told) = told.reply
queue_reply_in _ = queue_replies.Accepted

pub returns : goal.returns
returns c = record {
  dem = refl;
  queue = refl;
  saved = refl;
  save_failed = refl;
  drained = refl;
  bytes = refl;
  no_block = refl;
  block_flash = refl;
  armed = refl;
  dark = refl;
  other_reply = λ is. absurd (cc (ap reply_in is));
  other_queue_reply = λ is. absurd (cc (ap queue_reply_in is));
  other_number = λ is. absurd (cc is);
  other_machine = λ is. absurd (cc is);
}
