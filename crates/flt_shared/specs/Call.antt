-- What a call of the locked status machine answers.
use Rattle.std.specs.Prelude.{ℕ, List, [], Result, reverse}
use Rattle.flt_config.specs.declared.persist.Persist.{Persist}
use Rattle.flt_model.specs.Durable.{saved_after}
use Rattle.arrayvec.specs.ArrayVec.{ArrayVec}
use Rattle.flt_model.specs.Start.{Start, History}
use Rattle.flt_model.specs.Answer.{answer}
use Rattle.flt_model.specs.Mark.{marks_of}
use Rattle.flt_model.specs.StatusLaws.{since_clear}
use Rattle.flt_model.specs.Trace.{trace}
use Rattle.flt_model.specs.declared.call.Op.{Op}
use Rattle.flt_model.specs.Reply.{Reply}
use Rattle.flt_model.specs.declared.call.ReplyOf.TheVariants as replies
use Rattle.flt_model.specs.declared.life.DemStart.{DemStart}
use Rattle.flt_dcm.specs.Unit.{IsAdmitted}
use Rattle.flt_dcm.specs.ReplyKind.{ReplyKind, reply_with}
use Rattle.flt_dcm.specs.Standard.{StandardBits, IsFromStart}
use Rattle.flt_turn.specs.declared.answer.Answer.{Answer}
use Rattle.flt_turn.specs.declared.answer.HistoryFull.{HistoryFull}
use Rattle.flt_turn.specs.declared.vault.Entry.{Entry}
use Rattle.flt_turn.specs.Call as turn
use Rattle.flt_turn.specs.Seats.{Seated}

-- The calls of a lock in their order, each with the number of its seat.
abbrev pub CallJournal : Type 0
CallJournal = List (Entry Op)

-- What is known of a seat.
abbrev pub Seat : Type 0
Seat = Seated DemStart Op

-- What may be asked of a machine with this start.
abbrev pub MayBeAsked : DemStart → Op → Type 0
MayBeAsked start op = IsAdmitted start.config op

-- The machine's reply after these calls, the oldest first.
abbrev pub reply_after : DemStart → List Op → Op → Reply
reply_after start calls op = answer start (reverse calls) op

-- What a snapshot after these calls answers, and the durable state that it writes.
abbrev pub taken_after : DemStart → List Op → ReplyKind × Persist
taken_after start calls = (replies.Taken, saved_after start (reverse calls))

-- The bytes of a response.
abbrev pub ResponseBytes : Type 0
ResponseBytes = ArrayVec ℕ

-- No byte: what is beside an answer that is no response.
abbrev pub no_response : ResponseBytes
no_response = record { items = [] }

-- The whole reply of a kind, with these bytes where it is a response.
abbrev pub with_response : ReplyKind → ResponseBytes → Reply
with_response kind response = reply_with kind response.items

-- The whole answer of a call, in the same way.
abbrev pub whole : Answer ReplyKind → ResponseBytes → Answer Reply
whole told response = turn.whole with_response told response

-- A call is at the place that its answer gives, and its reply is the machine's after the calls before that place.
abbrev pub IsCall : Seat → Seat → Op → Answer Reply → Type 0
IsCall before after op told = turn.IsCall MayBeAsked reply_after before after op told

-- What a call answers, whether it is made or refused.
abbrev pub Calls : Seat → Seat → Op → Result (Answer Reply) (HistoryFull Op) → Type 0
Calls before after op result = turn.Calls (IsCall before after op) before after op result

-- The same of a call whose answer has only the kind of the reply, beside the bytes of a response.
abbrev pub CallsInto : Seat → Seat → Op → ResponseBytes → Result (Answer ReplyKind) (HistoryFull Op) → Type 0
CallsInto before after op response result = turn.Calls (λ told. IsCall before after op (whole told response)) before after op result

-- The status byte that is shown of an event says what the standard says of its marks.
abbrev pub ShowsStandard : Start → History → ℕ → Reply → Type 0
ShowsStandard life before event (replies.Shown shown) =
    IsFromStart life event (marks_of event (trace life before)) → StandardBits shown.status (since_clear (marks_of event (trace life before)))
ShowsStandard life before event _ = ⊥
