-- How a session ends, and that a script does nothing.
use Rattle.std.proofs.Common.{◌≡◌, [], ℕ, ◌≤◌, Bool, List, Option, Result, Ok, Err, inl, inr, refl}
use Rattle.std.specs.Prelude.{◌⊎◌}
use Rattle.std.specs.Io.KnownBytes.{Appends, IsAtEnd}
use Rattle.flt_config.specs.declared.config.DidUse.{DidUse}
use Rattle.flt_script.specs.Fetched.{AreScript}
use Rattle.flt_script.specs.Script.{ScriptContent}
use Rattle.flt_io.specs.Fault.{Rose}
use Rattle.flt_io.specs.Sink.{AppendsFront}
use Rattle.flt_io.specs.Written.{Writes}
use Rattle.flt_io.specs.declared.stream.StreamFault.{StreamFault}
use Rattle.flt_io.specs.declared.stream.StreamFault.TheVariants as streams
use Rattle.flt_live.specs.Heard.{Talk, talk}
use Rattle.flt_file.specs.declared.opening.OpenFault.{OpenFault}
use Rattle.flt_live.specs.Span.{LivesPassed}
use Rattle.flt_live.specs.Session.{EndsFor, IsClosed, IsCutBy, IsCutInALife, IsCutWith, IsEndOf, AreIdleLives, SessionEnd, Unreadable, Refused, Other, Closed, Unread, Ended, SessionHasCause, IsSession, Reading, status_due, status_of_shelf, status_told}
use Rattle.flt_live.proofs.Hearing.{rose_later}
use Rattle.flt_live.proofs.Writings.{nothing_more}

-- A line that ends a session was written, or a front of it.
pub line_told : {K T : Type 0} (held : K → Option (List ℕ)) (count : K → ℕ) (sink next_sink : K) (reads next_reads : ℕ) (ahead next_ahead : Option (List ℕ)) (Cause : SessionEnd → Type 0) (Cut : Type 0) (end : SessionEnd) (text : List ℕ)
    (result : Result T StreamFault) (status : ℕ) → (Appends (held sink) (held next_sink) text → Cause end) → (AppendsFront (held sink) (held next_sink) text → Cut) → Writes held count sink next_sink text result
    → status ≡ status_told (status_due end) result → EndsFor Cause Cut (talk ahead reads (held sink) (count sink)) (talk next_ahead next_reads (held next_sink) (count next_sink)) status
line_told held count sink next_sink reads next_reads ahead next_ahead Cause Cut end text (Ok value) status cause cut writes is = inl (record { end = end; cause = cause writes.ok; status_is = is })
line_told held count sink next_sink reads next_reads ahead next_ahead Cause Cut end text (Err streams.Failed) status cause cut writes is = inr (inr (is, writes.cause refl), cut writes.err)
line_told held count sink next_sink reads next_reads ahead next_ahead Cause Cut end text (Err streams.Memory) status cause cut writes is = inr (inl is, cut writes.err)

-- The same by another cause.
pub ends_for : (P Q : SessionEnd → Type 0) (C D : Type 0) (before after : Talk) (status : ℕ) → ((end : SessionEnd) → P end → Q end) → (C → D) → EndsFor P C before after status → EndsFor Q D before after status
ends_for P Q C D before after status more cut (inl ended) = inl (record { end = ended.end; cause = more ended.end ended.cause; status_is = ended.status_is })
ends_for P Q C D before after status more cut (inr lost) = inr (lost.0, cut lost.1)

-- A flash was not given, and bytes say why, or were not written.
pub shelf_ends : (tells : Bool) (script : ScriptContent) (fault : OpenFault) (before between after : Talk) (status : ℕ) → AreIdleLives script.lives → LivesPassed tells script.config before between → after.ahead ≡ between.ahead → before.write_faults ≤ between.write_faults
    → (text : List ℕ) × Appends between.held after.held text → (status ≡ status_of_shelf fault) ⊎ ((status ≡ 7) ⊎ ((status ≡ 4) × Rose between.write_faults after.write_faults))
    → EndsFor (IsEndOf tells script before after) (IsCutBy tells script before after) before after status
shelf_ends tells script fault before between after status idle lived ahead later written is = by_status is
  where
    closed : IsClosed tells script.config before after
    closed = record { between = between; lived = lived; ahead = ahead; text = written.0; written = written.1 }

    by_status : (status ≡ status_of_shelf fault) ⊎ ((status ≡ 7) ⊎ ((status ≡ 4) × Rose between.write_faults after.write_faults)) → EndsFor (IsEndOf tells script before after) (IsCutBy tells script before after) before after status
    by_status (inl due) = inl (record { end = Closed fault; cause = (idle, closed); status_is = due })
    by_status (inr (inl memory)) = inr (inl memory, inr (inl closed))
    by_status (inr (inr (four, rose))) = inr (inr (four, rose_later before.write_faults between.write_faults after.write_faults later rose), inr (inl closed))

-- Memory ran out in a life, or between two.
pub cut_for_memory : (tells : Bool) (script : ScriptContent) (before after : Talk) → IsCutInALife tells script.config before after ⊎ LivesPassed tells script.config before after → IsCutBy tells script before after
cut_for_memory tells script before after (inl cut) = inl cut
cut_for_memory tells script before after (inr lived) = inr (inl (record { between = after; lived = lived; ahead = refl; text = []; written = nothing_more after.held }))

-- A session whose configuration is a script.
pub session_of : (tells : Bool) (dids : List DidUse) (config : Reading) (before after : Talk) (status : ℕ) (script : ScriptContent) → IsAtEnd config.left_after → AreScript dids config.left script
    → EndsFor (IsEndOf tells script before after) (IsCutBy tells script before after) before after status → IsSession tells dids config before after status
session_of tells dids config before after status script at_end are ended =
    ends_for (IsEndOf tells script before after) (SessionHasCause tells dids config before after) (IsCutBy tells script before after) (IsCutWith tells dids config before after) before after status more
    (λ cut. inr (inr (script, at_end, are, cut))) ended
  where
    more : (end : SessionEnd) → IsEndOf tells script before after end → SessionHasCause tells dids config before after end
    more Unreadable cause = absurd cause
    more (Refused fault) cause = absurd cause
    more Other cause = (script, at_end, are, cause)
    more (Closed fault) cause = (script, at_end, are, cause)
    more Unread cause = (script, at_end, are, cause)
    more (Ended boot) cause = (script, at_end, are, cause)
