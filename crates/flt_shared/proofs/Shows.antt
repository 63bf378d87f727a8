-- What is shown of an event says what the standard says.
use Rattle.std.proofs.Common.{◌≡◌, ℕ, sym, subst, ⊎_elim}
use Rattle.std.specs.Prelude.{IfOk, Result, Ok, Err}
use Rattle.flt_model.specs.Start.{Start, History, base_of, event_of}
use Rattle.flt_model.specs.Answer.{answer}
use Rattle.flt_model.specs.Mark.{marks_of}
use Rattle.flt_model.specs.Trace.{trace}
use Rattle.flt_model.specs.declared.call.Op.{Op}
use Rattle.flt_model.specs.declared.call.Op.TheVariants as ops
use Rattle.flt_model.specs.Reply.{Reply}
use Rattle.flt_dcm.proofs.StandardLemmas.{bits_behind_a_clear, bits_from_the_start}
use Rattle.flt_turn.specs.declared.answer.Answer.{Answer}
use Rattle.flt_turn.specs.declared.answer.HistoryFull.{HistoryFull}
use Rattle.flt_turn.specs.Call.{past}
use Rattle.flt_shared.specs.Call.{Seat, IsCall, ShowsStandard}

shows_standard : (life : Start) (before : History) (event : ℕ) (reply : Reply) → reply ≡ answer life before (ops.Show event) → ShowsStandard life before event reply
shows_standard life before event reply is =
    let marks = marks_of event (trace life before) in
    subst (ShowsStandard life before event) (sym is)
    (λ from. ⊎_elim (bits_from_the_start (base_of life event) (event_of life event) marks) (bits_behind_a_clear (base_of life event) (event_of life event) marks) from)

pub told_standard : (before after : Seat) (event : ℕ) (told : Result (Answer Reply) (HistoryFull Op)) → IfOk told (IsCall before after (ops.Show event))
    → IfOk told (λ answer. ShowsStandard before.start (past answer.place after.seen) event answer.reply)
told_standard before after event (Ok told) call = shows_standard before.start (past told.place after.seen) event told.reply call.reply
told_standard before after event (Err full) call = call
