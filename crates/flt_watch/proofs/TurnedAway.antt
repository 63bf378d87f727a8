-- What is reported where no life is made.
use Rattle.std.proofs.Common.{◌≡◌, ◌⊎◌, ℕ, List, take, inl, inr, refl}
use Rattle.std.specs.Prelude.{Result, Ok, Err, OnOk, OnErr, IsErrOf}
use Rattle.std.specs.Io.KnownBytes.{Appends}
use Rattle.flt_io.specs.Fault.{Rose}
use Rattle.flt_io.specs.Sink.{AppendsFront}
use Rattle.flt_io.specs.declared.stream.StreamFault.{StreamFault}
use Rattle.flt_io.specs.declared.stream.StreamFault.TheVariants.{Memory, Failed}
use Rattle.flt_filter.specs.Verdict.{Outside}
use Rattle.flt_watch.specs.Watch.{IsTurnedAway, IsUnmade, WantsMemory, due, status_written}
use Rattle.flt_watch.specs.declared.watching.WatchOutcome.{WatchOutcome}

-- The text was written, or the sink failed, or memory ran out.
pub turned_away : {T : Type 0} {F : _} {g : _} (writing : Outside) (status : ℕ) (text kinds values : List ℕ) (written : Result T StreamFault) (outcome : WatchOutcome F g) → OnOk written (Appends writing.held writing.held_after text)
    → OnErr written (AppendsFront writing.held writing.held_after text) → (IsErrOf written Failed → Rose writing.faults writing.faults_after) → outcome.status ≡ status_written status written → IsUnmade kinds values outcome
    → IsTurnedAway writing (due status text) kinds values outcome ⊎ WantsMemory writing outcome
turned_away writing status text kinds values (Ok done) outcome ok err cause is unmade = inl (record { told = inl (is, ok); unmade = unmade })
turned_away writing status text kinds values (Err Failed) outcome ok err cause is unmade = inl (record { told = inr (is, cause refl, err); unmade = unmade })
turned_away writing status text kinds values (Err Memory) outcome ok err cause is unmade = inr (record { status_is = is; journal = unmade.journal; answers = unmade.answers; kept = (take err.0 text, err.1) })
