-- A saved state that fits stands for itself and no mark.
use Rattle.std.proofs.Common.{◌≡◌, ◌∙◌, ◌≢◌, ℕ, zero, suc, ◌<◌, ◌≤◌, min, List, [], ◌∷◌, map, length, get_or, Some, arith, refl, sym, ap, eq-eqb}
use Rattle.std.proofs.lemmas.Bool.{ne_eqb}
use Rattle.std.proofs.lemmas.Option.{slice_get-get_or, unwrap_or-slice_get}
use Rattle.std.specs.List.{AllPairs, find}
use Rattle.flt_config.specs.declared.persist.EntryState.{EntryState}
use Rattle.flt_config.specs.Durable.{Fits, IsOfOtherEvent, is_of_event, start_state}
use Rattle.flt_model.specs.Start.{Start, event_of, base_of, no_event}
use Rattle.flt_model.specs.Status.{durable}
use Rattle.flt_model.specs.Entry.{entry_of}
use Rattle.flt_status.proofs.Fitting.{fitting_state_stands}
use Rattle.flt_dem.specs.Standing.{StatesStand, MemoryStands}

-- ---- the states

pub base_states : (life : Start) → Fits life.config life.base → StatesStand life [] life.base.events.items
base_states life fits =
    let states = life.base.events.items in
    record {
      one_each = fits.states.one_each;
      each = λ event within.
          let state = get_or states event start_state in
          let is : base_of life event ≡ state = unwrap_or-slice_get states event start_state in
          let rules : event_of life event ≡ get_or life.config.events.items event no_event = unwrap_or-slice_get life.config.events.items event no_event in
          let stands : state ≡ durable state (get_or life.config.events.items event no_event) [] =
          fitting_state_stands (get_or life.config.events.items event no_event) state (fits.states.fitting event no_event start_state within) in
          slice_get-get_or states event start_state (omega (arith, fits.states.one_each))
          ∙ ap Some (stands ∙ ap (λ s. durable s (get_or life.config.events.items event no_event) []) (sym is) ∙ ap (λ r. durable (base_of life event) r []) (sym rules));
    }

-- ---- the entries

-- Entries that are functions of their events.
same_entries : (f : ℕ → EntryState) (held : List EntryState) → ((k : ℕ) (d : EntryState) → k < length held → f (get_or held k d).event ≡ get_or held k d) →
    held ≡ map f (map (λ entry. entry.event) held)
same_entries f [] same = refl
same_entries f (entry ∷ held) same =
    ap (λ e. e ∷ held) (sym (same 0 entry (omega arith)))
    ∙ ap (λ rest. f entry.event ∷ rest) (same_entries f held (λ k d h. same (suc k) d (omega arith)))

-- An entry among entries of distinct events is found by its event.
find_at : (held : List EntryState) (k : ℕ) (d : EntryState) → k < length held → AllPairs IsOfOtherEvent held → find (is_of_event (get_or held k d).event) held ≡ Some (get_or held k d)
find_at [] k d h distinct = absurd (omega arith)
find_at (entry ∷ held) zero d h distinct = rw (eq-eqb entry.event entry.event refl) refl
find_at (entry ∷ held) (suc k) d h distinct =
    let other : entry.event ≢ (get_or held k d).event = distinct 0 (suc k) d (omega arith) h in
    rw (ne_eqb entry.event (get_or held k d).event other)
    (find_at held k d (omega arith) (λ i j e below short. distinct (suc i) (suc j) e (omega arith) (omega arith)))

-- It holds what it held.
entry_again : (life : Start) (entry : EntryState) → find (is_of_event entry.event) life.base.entries.items ≡ Some entry → entry.occurrence ≤ 255 → entry_of life entry.event [] ≡ entry
entry_again life entry found small =
    let stopped : min 255 entry.occurrence ≡ entry.occurrence = omega arith in
    rw found (rw stopped refl)

pub base_memory : (life : Start) → Fits life.config life.base → MemoryStands life [] (record { entries = life.base.entries.items; overflow = life.base.overflow })
base_memory life fits =
    let held = life.base.entries.items in
    record {
      entries = same_entries (λ event. entry_of life event []) held (λ k d h.
          entry_again life (get_or held k d) (find_at held k d h fits.distinct) ((fits.entries k d h).occurrence.1));
      overflow = refl;
    }
