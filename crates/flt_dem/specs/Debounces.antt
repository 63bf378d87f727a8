-- What the debouncing of the events stands for: what happened to each of them.
use Rattle.std.specs.Prelude.{◌≡◌, ℕ, ◌==◌, ◌<◌, if◌then◌else◌, List, length, slice_get, Option, Some}
use Rattle.flt_config.specs.declared.config.EventCfg.{EventCfg}
use Rattle.flt_model.specs.Start.{Start, count, event_of}
use Rattle.flt_model.specs.Debounce.{Happening, Happenings, IsOfKind, debounced}
use Rattle.flt_model.specs.Happening.{with_happening}
use Rattle.flt_model.specs.declared.call.DebState.{DebState}

-- Each event's debouncing is what its happenings make of it.
pub record DebouncesStand (life : Start) (items : ℕ → Happenings) (debounces : List DebState) : Type 0 where
  pub one_each : length debounces ≡ count life
  pub each : (event : ℕ) → event < count life → slice_get debounces event ≡ Some (debounced (event_of life event).debounce (items event))

-- One more happening of one event, if there is one.
abbrev pub and_happening : ℕ → Option Happening → (ℕ → Happenings) → ℕ → Happenings
and_happening event happening items other = if event == other then with_happening happening (items other) else items other

-- Each debouncing is of its event's kind, within its thresholds.
abbrev pub AreOfKind : List EventCfg → List DebState → Type 0
AreOfKind events debounces = (event : ℕ) (rules : EventCfg) (state : DebState) →
    slice_get events event ≡ Some rules → slice_get debounces event ≡ Some state → IsOfKind rules.debounce state
