-- The events that are noted as first and as most recent, of those that failed and of those that were confirmed (this
-- profile; read by ISO 14229-1, service 0x19, sub-functions 0x0B to 0x0E).
use Rattle.std.specs.Prelude.{ℕ, ◌==◌, Bool, true, false, if◌then◌else◌, [], ◌∷◌, Option, Some, None}
use Rattle.flt_model.specs.Start.{Start, event_of, base_of}
use Rattle.flt_model.specs.Mark.{Trace, Of, marks_of}
use Rattle.flt_model.specs.Mark.Mark.{Failed, Clear}
use Rattle.flt_model.specs.Status.{enters, confirms}

-- Which failures are noted, given the marks before them.
abbrev pub Notable : Type 0
Notable = ℕ → Trace → Bool

-- The failure changes the test result.
abbrev pub is_entering_failure : Start → Notable
is_entering_failure life event trace = enters (base_of life event) (marks_of event trace)

-- The failure confirms its event.
abbrev pub is_confirming_failure : Start → Notable
is_confirming_failure life event trace = confirms (base_of life event) (event_of life event) (marks_of event trace)

-- A clear removes the event's note.
abbrev pub without : ℕ → Option ℕ → Option ℕ
without event None = None
without event (Some other) = if other == event then None else Some other

-- A failure that is notable becomes the most recent one.
abbrev pub recent_after : Bool → ℕ → Option ℕ → Option ℕ
recent_after true event noted = Some event
recent_after false event noted = noted

-- The event of the last notable failure, if it was not cleared since.
abbrev pub recent : Notable → Option ℕ → Trace → Option ℕ
recent notable base [] = base
recent notable base (Of event Failed signals ∷ trace) = recent_after (notable event trace) event (recent notable base trace)
recent notable base (Of event Clear signals ∷ trace) = without event (recent notable base trace)
recent notable base (_ ∷ trace) = recent notable base trace

-- A notable failure is noted as the first if no event is.
abbrev pub first_after : Bool → ℕ → Option ℕ → Option ℕ
first_after true event None = Some event
first_after true event (Some other) = Some other
first_after false event noted = noted

-- The event of the first notable failure since there was no note.
abbrev pub first : Notable → Option ℕ → Trace → Option ℕ
first notable base [] = base
first notable base (Of event Failed signals ∷ trace) = first_after (notable event trace) event (first notable base trace)
first notable base (Of event Clear signals ∷ trace) = without event (first notable base trace)
first notable base (_ ∷ trace) = first notable base trace
