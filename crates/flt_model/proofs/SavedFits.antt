-- A state that was taken after calls from a state that fits is one that fits.
use Rattle.std.proofs.Common.{◌≡◌, ◌∙◌, ℕ, zero, suc, ◌<◌, ◌≤◌, true, List, [], ◌∷◌, map, length, get_or, Option, Some, None, sym, ap, subst, arith}
use Rattle.std.specs.Prelude.{All, AllPairs, IfSome, unwrap_or, option_map, is_some, slice_get}
use Rattle.std.proofs.lemmas.Option.{unwrap_or-slice_get}
use Rattle.std.proofs.lemmas.List.{get_or-map, length-map, get_or_default}
use Rattle.std.proofs.lemmas.List.Elements.{All-nil, All-head, All-tail, All-map, All-weaker, All-from_get_or}
use Rattle.flt_config.specs.declared.config.EventCfg.{EventCfg}
use Rattle.flt_config.specs.declared.persist.EntryState.{EntryState}
use Rattle.flt_config.specs.declared.persist.EventState.{EventState}
use Rattle.flt_config.specs.Ranges.{frame_width}
use Rattle.flt_config.specs.Validity.{IsValid, IsEventInRange, IsFromTo}
use Rattle.flt_config.specs.Durable.{Fits, AreStatesOf, IsStateOf, IsEntryOf, IsOfOtherEvent, IsNoted, start_state}
use Rattle.flt_model.specs.Start.{Start, History, no_event, count, event_of, base_of}
use Rattle.flt_model.specs.Mark.{Trace, marks_of}
use Rattle.flt_model.specs.Noted.{Notable, is_entering_failure as is_entering_event, is_confirming_failure, recent, first}
use Rattle.flt_model.specs.Entry.{holders, has_entry, entry_of, base_entry, base_occurrence, is_entering}
use Rattle.flt_model.specs.Trace.{trace}
use Rattle.flt_model.specs.Durable.{below, state_at, saved}
use Rattle.flt_model.specs.Laws.{Distinct, SavedStatesFit}
use Rattle.flt_model.proofs.ClearLaws.{TraceBelow, trace_below, NoteWithin, within_at, holders_within, base_noted, recent_within, first_within}
use Rattle.flt_model.proofs.Common.{length_below, at_below}
use Rattle.flt_model.proofs.EntryLaws.{holders_have_entries}
use Rattle.flt_model.proofs.EntryLemmas.{among_at, places_differ}
use Rattle.flt_model.proofs.RoomLaws.{entries_keep_room, fitting_base_has_room}
use Rattle.flt_model.proofs.EventFits.{event_fits}
use Rattle.flt_model.proofs.EntryFits.{AreNarrow, IsOwn, found, counted, first_wide}
use Rattle.flt_model.proofs.RecentFits.{AreFramed, frames_stay}

-- ---- what is read of the configuration and of a note

-- The identifiers of a configured event, and of none.
narrow_at : (events : List EventCfg) → All IsEventInRange events → (k : ℕ) → AreNarrow (unwrap_or (slice_get events k) no_event).dids.items
narrow_at [] all k = All-nil _
narrow_at (event ∷ events) all zero =
    All-weaker (λ did. IsFromTo 1 8 did.width) (λ did. did.width ≤ 8) (λ did is. is.1) event.dids.items (All-head IsEventInRange event events all).did_widths
narrow_at (event ∷ events) all (suc k) = narrow_at events (All-tail IsEventInRange event events all) k

-- A note of a configured event.
noted_within : (n : ℕ) (note : Option ℕ) → NoteWithin 0 n note → IfSome note (λ event. event < n)
noted_within n None within = tt
noted_within n (Some event) within = within.1

-- ---- what the base's entry says of an event

module _ (events : List EventCfg) (event : ℕ) where
  least_of : (o : Option EntryState) → IfSome o (IsOwn events event) → is_some o ≡ true → 1 ≤ unwrap_or (option_map (λ entry. entry.occurrence) o) 0
  least_of None is held = absurd (cc)
  least_of (Some entry) is held = is.0.occurrence.0

  first_of : (o : Option EntryState) → IfSome o (IsOwn events event) → is_some o ≡ true
      → length (unwrap_or (option_map (λ entry. entry.first.items) o) []) ≡ frame_width (get_or events event no_event).dids.items
  first_of None is held = absurd (cc)
  first_of (Some entry) is held = is.0.first no_event ∙ ap (λ k. frame_width (get_or events k no_event).dids.items) is.1

  recent_of : (o : Option EntryState) → IfSome o (IsOwn events event) → is_some o ≡ true
      → length (unwrap_or (option_map (λ entry. entry.recent.items) o) []) ≡ frame_width (get_or events event no_event).dids.items
  recent_of None is held = absurd (cc)
  recent_of (Some entry) is held = is.0.recent no_event ∙ ap (λ k. frame_width (get_or events k no_event).dids.items) is.1

-- ---- the whole

module _ (life : Start) (valid : IsValid life.config) (fits : Fits life.config life.base) where
  -- The configuration of an event, as the definitions and as the fit read it.
  narrow : (event : ℕ) → AreNarrow (event_of life event).dids.items
  narrow = narrow_at life.config.events.items valid.events

  rules_are : (event : ℕ) → event_of life event ≡ get_or life.config.events.items event no_event
  rules_are event = unwrap_or-slice_get life.config.events.items event no_event

  width_is : (event : ℕ) → frame_width (get_or life.config.events.items event no_event).dids.items ≡ frame_width (event_of life event).dids.items
  width_is event = ap (λ (r : EventCfg). frame_width r.dids.items) (sym (rules_are event))

  owned : (event : ℕ) → IfSome (base_entry life event) (IsOwn life.config.events.items event)
  owned event = found life.config.events.items event life.base.entries.items fits.entries

  framed_base : AreFramed life narrow []
  framed_base event held = recent_of life.config.events.items event (base_entry life event) (owned event) held ∙ width_is event

  other_width : (event : ℕ) (d : EventCfg) → event < count life → frame_width (event_of life event).dids.items ≡ frame_width (get_or life.config.events.items event d).dids.items
  other_width event d within = ap (λ (r : EventCfg). frame_width r.dids.items) (rules_are event ∙ get_or_default life.config.events.items event no_event d within)

  -- ---- the entries

  -- An entry that an event has.
  entry_is : (marks : Trace) (event : ℕ) → AreFramed life narrow marks → event < count life → has_entry life event marks ≡ true → IsEntryOf life.config.events.items (entry_of life event marks)
  entry_is marks event framed within held =
      let least = counted (is_entering life event) (is_some (base_entry life event)) (base_occurrence life event)
      (least_of life.config.events.items event (base_entry life event) (owned event)) (marks_of event marks) held in
      record {
        event = within;
        occurrence = (omega (arith, least), omega arith);
        first = λ d. first_wide life event (narrow event)
            (λ is. first_of life.config.events.items event (base_entry life event) (owned event) is ∙ width_is event) marks held ∙ other_width event d within;
        recent = λ d. framed event held ∙ other_width event d within;
      }

  -- All of them.
  entries_are : (marks : Trace) → AreFramed life narrow marks → TraceBelow (count life) marks
      → All (IsEntryOf life.config.events.items) (map (λ event. entry_of life event marks) (holders life marks))
  entries_are marks framed b =
      All-map (IsEntryOf life.config.events.items) (λ event. entry_of life event marks) (holders life marks)
      (All-from_get_or (λ event. IsEntryOf life.config.events.items (entry_of life event marks)) (holders life marks) 0 (λ place within.
      (let event = get_or (holders life marks) place 0 in
      let less = within_at 0 (count life) (holders life marks) place (holders_within life fits marks b) within in
      entry_is marks event framed less (sym (holders_have_entries life marks event) ∙ among_at (holders life marks) place within))))

  -- They are of different events.
  apart : (marks : Trace) → Distinct (holders life marks) → AllPairs IsOfOtherEvent (map (λ event. entry_of life event marks) (holders life marks))
  apart marks distinct i j d less within =
      let f : ℕ → EntryState = λ event. entry_of life event marks in
      let size = length-map (holders life marks) f in
      let second : j < length (holders life marks) = omega (arith, within, size) in
      let first_within : i < length (holders life marks) = omega (arith, less, second) in
      let at_i = ap (λ (e : EntryState). e.event) (get_or-map f (holders life marks) i 0 d first_within) in
      let at_j = ap (λ (e : EntryState). e.event) (get_or-map f (holders life marks) j 0 d second) in
      λ same. places_differ (holders life marks) distinct i j less second (sym at_i ∙ same ∙ at_j)

  -- ---- the states

  state_is : (marks : Trace) (k : ℕ) → k < count life → IsStateOf (event_of life k) (state_at life marks k)
  state_is marks k within =
      let was = fits.states.fitting k no_event start_state within in
      let base_is : base_of life k ≡ get_or life.base.events.items k start_state = unwrap_or-slice_get life.base.events.items k start_state in
      event_fits (event_of life k) (base_of life k)
      (subst (λ (s : EventState). IsStateOf (event_of life k) s) (sym base_is)
      (subst (λ (r : EventCfg). IsStateOf r (get_or life.base.events.items k start_state)) (sym (rules_are k)) was)) (marks_of k marks)

  states_are : (marks : Trace) → AreStatesOf life.config.events.items (map (state_at life marks) (below (count life)))
  states_are marks = record {
    one_each = length-map (below (count life)) (state_at life marks) ∙ length_below (count life);
    fitting = λ k event state within.
        (let size = length_below (count life) in
        let lies : k < length (below (count life)) = omega (arith, within, size) in
        let at = get_or-map (state_at life marks) (below (count life)) k 0 state lies ∙ ap (state_at life marks) (at_below (count life) k 0 within) in
        let rules = rules_are k ∙ get_or_default life.config.events.items k no_event event within in
        subst (λ (s : EventState). IsStateOf (get_or life.config.events.items k event) s) (sym at)
        (subst (λ (r : EventCfg). IsStateOf r (state_at life marks k)) rules (state_is marks k within)));
  }

  -- ---- the notes

  first_configured : (marks : Trace) → TraceBelow (count life) marks → (notable : Notable) (base : Option ℕ) → IsNoted life.config.events.items base
      → IsNoted life.config.events.items (first notable base marks)
  first_configured marks b notable base noted =
      noted_within (count life) (first notable base marks) (first_within (count life) notable base (base_noted life.config.events.items base noted) marks b)

  recent_configured : (marks : Trace) → TraceBelow (count life) marks → (notable : Notable) (base : Option ℕ) → IsNoted life.config.events.items base
      → IsNoted life.config.events.items (recent notable base marks)
  recent_configured marks b notable base noted =
      noted_within (count life) (recent notable base marks) (recent_within (count life) notable base (base_noted life.config.events.items base noted) marks b)

  -- ---- all of it

  saved_fits : (past : History) → Fits life.config (saved life (trace life past))
  saved_fits past =
      let marks = trace life past in
      let b = trace_below life fits past in
      let room = entries_keep_room life past (fitting_base_has_room life fits) in
      let framed = frames_stay life narrow past framed_base in
      let size = length-map (holders life marks) (λ event. entry_of life event marks) in
      let most = room.room in
      record {
        states = states_are marks;
        room = omega (arith, size, most);
        entries = entries_are marks framed b;
        distinct = apart marks room.distinct;
        first_failed = first_configured marks b (is_entering_event life) life.base.first_failed fits.first_failed;
        first_confirmed = first_configured marks b (is_confirming_failure life) life.base.first_confirmed fits.first_confirmed;
        recent_failed = recent_configured marks b (is_entering_event life) life.base.recent_failed fits.recent_failed;
        recent_confirmed = recent_configured marks b (is_confirming_failure life) life.base.recent_confirmed fits.recent_confirmed;
      }

pub saved_states_fit : SavedStatesFit
saved_states_fit life past valid fits = saved_fits life valid fits past
