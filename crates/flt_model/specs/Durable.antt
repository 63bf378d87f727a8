-- The state that survives a power cut, as the base and the calls since decide it (this profile).
use Rattle.std.specs.Prelude.{ℕ, zero, suc, List, [], ◌∷◌, ◌++◌, map}
use Rattle.flt_config.specs.declared.persist.Persist.{Persist}
use Rattle.flt_config.specs.declared.persist.EventState.{EventState}
use Rattle.flt_model.specs.Start.{Start, History, count, event_of, base_of}
use Rattle.flt_model.specs.Mark.{Trace, marks_of}
use Rattle.flt_model.specs.Status.{durable}
use Rattle.flt_model.specs.Entry.{entries, overflow}
use Rattle.flt_model.specs.Trace.{trace}
use Rattle.flt_model.specs.Noted.{is_entering_failure, is_confirming_failure, recent, first}

-- The numbers below a number.
abbrev pub below : ℕ → List ℕ
below zero = []
below (suc n) = below n ++ n ∷ []

-- The state of an event after the marks of all.
abbrev pub state_at : Start → Trace → ℕ → EventState
state_at life marks event = durable (base_of life event) (event_of life event) (marks_of event marks)

-- The durable state after the marks of all.
abbrev pub saved : Start → Trace → Persist
saved life marks = record {
  events = record { items = map (state_at life marks) (below (count life)) };
  entries = record { items = entries life marks };
  overflow = overflow life marks;
  first_failed = first (is_entering_failure life) life.base.first_failed marks;
  first_confirmed = first (is_confirming_failure life) life.base.first_confirmed marks;
  recent_failed = recent (is_entering_failure life) life.base.recent_failed marks;
  recent_confirmed = recent (is_confirming_failure life) life.base.recent_confirmed marks;
}

-- The durable state after a list of calls.
abbrev pub saved_after : Start → History → Persist
saved_after life past = saved life (trace life past)
