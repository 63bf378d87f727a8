-- The line of a step: its words, an arrow and its answer.
use Rattle.std.specs.Prelude.{ℕ, List, [], ◌∷◌, ◌++◌, Bool, true, false, codes}
use Rattle.std.specs.Fmt.{decimal, signed_decimal}
use Rattle.flt_model.specs.declared.call.Cause.{Cause}
use Rattle.flt_model.specs.declared.call.Cause.TheVariants.{SettingOff, NotStarted, NotEnabled}
use Rattle.flt_model.specs.declared.call.Shown.{Shown as Event}
use Rattle.flt_model.specs.Reply.{Reply}
use Rattle.flt_model.specs.declared.call.ReplyOf.TheVariants.{Taken, Ignored, Shown, Response, Silent}
use Rattle.flt_queue.specs.declared.job.LastResult.{LastResult}
use Rattle.flt_queue.specs.declared.job.LastResult.TheVariants.{Never, Pending, Written, Failed}
use Rattle.flt_queue.specs.Reply.{QueueReply}
use Rattle.flt_queue.specs.declared.job.QueueReplyOf.TheVariants.{Accepted, BlockPending, QueueFull, Last}
use Rattle.flt_store.specs.declared.fault.SaveFault.{SaveFault}
use Rattle.flt_store.specs.declared.fault.SaveFault.TheVariants.{Flash, Spent, SequenceSpent}
use Rattle.flt_step.specs.Words.{two_digits, bytes_text, step_text}
use Rattle.flt_step.specs.declared.step.Step.{Step}
use Rattle.flt_life_model.specs.declared.answer.StepAnswer.TheVariants.{Dem, Saved, SaveFailed, Queue, Drained, Bytes, NoBlock, BlockFlash, Armed, Dark}
use Rattle.flt_life_model.specs.Answers.{Told}

-- 0 or 1.
abbrev pub flag_text : Bool → List ℕ
flag_text false = codes "0"
flag_text true = codes "1"

-- What is shown of an event: its status byte, the fault detection counter, the failed and the clean cycles, the occurrences
-- that its entry counts, and whether the fault memory overflowed.
unfoldable pub shown_text : Event → List ℕ
shown_text shown =
    codes "status " ++ two_digits shown.status ++ codes " fdc " ++ signed_decimal shown.fdc
    ++ codes " failed " ++ decimal shown.failed ++ codes " clean " ++ decimal shown.clean
    ++ codes " stored " ++ decimal shown.stored ++ codes " overflow " ++ flag_text shown.overflow

-- Why a report was ignored.
abbrev pub ignored_text : Cause → List ℕ
ignored_text SettingOff = codes "ignored setting"
ignored_text NotStarted = codes "ignored cycle"
ignored_text NotEnabled = codes "ignored enable"

-- The status machine's reply.
abbrev pub reply_text : Reply → List ℕ
reply_text Taken = codes "taken"
reply_text (Ignored cause) = ignored_text cause
reply_text (Shown shown) = shown_text shown
reply_text (Response bytes) = bytes_text bytes.items
reply_text Silent = codes "silent"

-- Why a state was not saved.
abbrev pub save_fault_text : SaveFault → List ℕ
save_fault_text Flash = codes "flash"
save_fault_text Spent = codes "spent"
save_fault_text SequenceSpent = codes "sequence"

-- What became of the last job of a block.
abbrev pub last_text : LastResult → List ℕ
last_text Never = codes "none"
last_text Pending = codes "pending"
last_text Written = codes "written"
last_text Failed = codes "failed"

-- The queue's reply to a post or a question; the replies to a drain's calls are not printed.
abbrev pub queue_text : QueueReply → List ℕ
queue_text Accepted = codes "accepted"
queue_text BlockPending = codes "pending"
queue_text QueueFull = codes "full"
queue_text (Last last) = last_text last
queue_text _ = []

-- How many jobs a drain wrote, and how many it could not write.
unfoldable pub drained_text : ℕ → ℕ → List ℕ
drained_text written failed = codes "written " ++ decimal written ++ codes " failed " ++ decimal failed

-- The answer to a step: the machine's or the queue's reply, numbers, bytes, or one word.
abbrev pub answer_text : Told → List ℕ
answer_text (Dem told) = reply_text told.reply
answer_text (Saved generation) = decimal generation
answer_text (SaveFailed fault) = save_fault_text fault
answer_text (Queue told) = queue_text told.reply
answer_text (Drained written failed) = drained_text written failed
answer_text (Bytes bytes) = bytes_text bytes.items
answer_text NoBlock = codes "missing"
answer_text BlockFlash = codes "flash"
answer_text Armed = codes "armed"
answer_text Dark = codes "dark"

-- What follows the step: an arrow, the answer and the end of the line.
abbrev pub answer_part : Told → List ℕ
answer_part told = codes " -> " ++ answer_text told ++ 10 ∷ []

-- The line of a step.
abbrev pub step_line : Step → Told → List ℕ
step_line step told = step_text step ++ answer_part told
