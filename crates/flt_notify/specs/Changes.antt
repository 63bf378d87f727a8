-- The changes of status bytes that calls make (this profile).
use Rattle.std.specs.Prelude.{ℕ, suc, ◌==◌, if◌then◌else◌, List, [], ◌∷◌, ◌++◌, length, map}
use Rattle.flt_config.specs.declared.persist.EventState.{EventState}
use Rattle.flt_model.specs.declared.call.Op.{Op}
use Rattle.flt_model.specs.declared.call.Op.TheVariants as ops
use Rattle.flt_model.specs.Start.{Start, History}
use Rattle.flt_model.specs.Durable.{saved_after}
use Rattle.flt_notify.specs.declared.change.Change.{Change}

-- The status bytes of events, by number.
abbrev pub statuses : List EventState → List ℕ
statuses states = map (λ state. state.status) states

-- The status bytes of all events after these calls.
abbrev pub statuses_after : Start → History → List ℕ
statuses_after life past = statuses (saved_after life past).events.items

-- The changes of a call at a place, where these are the bytes before and after it of the events from a number on: those of the events
-- whose byte is another one, in the order of the numbers.
abbrev pub changes_from : ℕ → ℕ → List ℕ → List ℕ → List Change
changes_from place event (before ∷ befores) (after ∷ afters) =
    if before == after then changes_from place (suc event) befores afters
    else record { place = place; event = event; before = before; after = after } ∷ changes_from place (suc event) befores afters
changes_from place event _ _ = []

-- The changes of the last call, after these.
abbrev pub changes_of_call : Start → History → History → List Change
changes_of_call life past now = changes_from (length past) 0 (statuses_after life past) (statuses_after life now)

-- The changes of all calls: by their places in order, and then by the number of the event.
abbrev pub changes : Start → History → List Change
changes life [] = []
changes life (op ∷ past) = changes life past ++ changes_of_call life past (op ∷ past)

-- A call in which nothing happens to any event.
abbrev pub MarksNone : Op → Type 0
MarksNone (ops.Signal index value) = Unit {0}
MarksNone (ops.Enable condition fulfilled) = Unit {0}
MarksNone (ops.Show event) = Unit {0}
MarksNone ops.Snapshot = Unit {0}
MarksNone (ops.Saved generation) = Unit {0}
MarksNone _ = ⊥
