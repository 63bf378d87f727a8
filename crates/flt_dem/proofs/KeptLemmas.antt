-- What storing and removing keep: the entries' events are configured, and the memory has room.
use Rattle.std.proofs.Common.{◌≡◌, ◌∙◌, ℕ, zero, suc, Bool, true, false, not, filter, refl, ◌<◌, ◌≤◌, List, [], ◌∷◌, ◌++◌, length, get_or, set, take, drop, remove, arith, sym, ap, subst, length-set, length-append, length-take, length-drop}
use Rattle.std.specs.List.{All}
use Rattle.std.proofs.lemmas.List.{get_or_default}
use Rattle.std.proofs.lemmas.List.Elements.{All-append, All-take, All-drop, All-filter}
use Rattle.std.proofs.lemmas.List.Filters.{length-filter_both}
use Rattle.flt_dem.specs.DurablePart.{AreOfConfig}
use Rattle.flt_config.specs.declared.config.Config.{Config}
use Rattle.flt_config.specs.declared.persist.EventState.{EventState}
use Rattle.flt_config.specs.declared.persist.EntryState.{EntryState}
use Rattle.flt_model.specs.Entry.{new_entry, updated}
use Rattle.flt_memory.specs.Memory.{Memory}
use Rattle.flt_memory.specs.Store.{StoresAs}
use Rattle.flt_memory.specs.declared.memory.Stored.{Stored}
use Rattle.flt_memory.specs.declared.memory.Stored.TheVariants as outcomes
use Rattle.flt_memory.proofs.EntriesLemmas.{event_kept}
use Rattle.std.proofs.lemmas.List.Quantifiers.{position-Some}
use Rattle.flt_config.specs.Durable.{is_of_event}

-- Each entry is of an event below a number.
abbrev pub AreBelow : ℕ → List EntryState → Type 0
AreBelow n entries = All (λ entry. entry.event < n) entries

blank_entry : EntryState
blank_entry = record { event = 0; occurrence = 0; first = record { items = [] }; recent = record { items = [] } }

added_below : (n event : ℕ) (bytes : List ℕ) → event < n → AreBelow n (new_entry event bytes ∷ [])
added_below n event bytes h zero d within = h
added_below n event bytes h (suc k) d within = absurd (omega arith)

removed_below : (n place : ℕ) (entries : List EntryState) → AreBelow n entries → AreBelow n (remove entries place)
removed_below n place entries below =
    All-append (λ (entry : EntryState). entry.event < n) (take place entries) (drop (suc place) entries)
    (All-take (λ (entry : EntryState). entry.event < n) place entries below) (All-drop (λ (entry : EntryState). entry.event < n) (suc place) entries below)

pushed_below : (n event : ℕ) (bytes : List ℕ) (entries : List EntryState) → event < n → AreBelow n entries → AreBelow n (entries ++ new_entry event bytes ∷ [])
pushed_below n event bytes entries h below = All-append (λ (entry : EntryState). entry.event < n) entries (new_entry event bytes ∷ []) below (added_below n event bytes h)

updated_below : (n place : ℕ) (bytes : List ℕ) (entries : List EntryState) → place < length entries → AreBelow n entries → AreBelow n (set entries place (updated (get_or entries place blank_entry) bytes))
updated_below n place bytes entries h below k d within =
    let old_length = length-set entries place (updated (get_or entries place blank_entry) bytes) in
    let same : (get_or (set entries place (updated (get_or entries place blank_entry) bytes)) k blank_entry).event ≡ (get_or entries k blank_entry).event = event_kept entries place blank_entry bytes k h in
    let at = get_or_default (set entries place (updated (get_or entries place blank_entry) bytes)) k d blank_entry within in
    subst (λ e. e.event < n) (sym at) (subst (λ x. x < n) (sym same) (below k blank_entry (omega (arith, within, old_length))))

kept_below : (config : Config) (states : List EventState) (event n : ℕ) (bytes : List ℕ) (old new : Memory) (outcome : Stored) →
    StoresAs config states event bytes old new outcome → event < n → AreBelow n old.entries → AreBelow n new.entries
kept_below config states event n bytes old new outcomes.Updated x h below =
    let found = position-Some (is_of_event event) old.entries x.place blank_entry x.found in
    subst (λ xs. AreBelow n xs) (sym (x.entries blank_entry)) (updated_below n x.place bytes old.entries found.0 below)
kept_below config states event n bytes old new outcomes.Added x h below = subst (λ xs. AreBelow n xs) (sym x.entries) (pushed_below n event bytes old.entries h below)
kept_below config states event n bytes old new (outcomes.Displaced other) x h below =
    subst (λ xs. AreBelow n xs) (sym x.entries) (pushed_below n event bytes (remove old.entries x.place) h (removed_below n x.place old.entries below))
kept_below config states event n bytes old new outcomes.Refused x h below = subst (λ xs. AreBelow n xs) (sym x.entries) below

kept_room : (config : Config) (states : List EventState) (event : ℕ) (bytes : List ℕ) (old new : Memory) (outcome : Stored) →
    StoresAs config states event bytes old new outcome → length old.entries ≤ config.memory → length new.entries ≤ config.memory
kept_room config states event bytes old new outcomes.Updated x h = omega (arith, ap length (x.entries blank_entry), length-set old.entries x.place (updated (get_or old.entries x.place blank_entry) bytes))
kept_room config states event bytes old new outcomes.Added x h = omega (arith, ap length x.entries, length-append old.entries (new_entry event bytes ∷ []), x.room)
kept_room config states event bytes old new (outcomes.Displaced other) x h =
    omega (
      arith,
      ap length x.entries,
      length-append (remove old.entries x.place) (new_entry event bytes ∷ []),
      length-append (take x.place old.entries) (drop (suc x.place) old.entries),
      length-take x.place old.entries,
      length-drop (suc x.place) old.entries,
      x.gives_way.within,
    )
kept_room config states event bytes old new outcomes.Refused x h = omega (arith, ap length x.entries)

not_not : (b : Bool) → not (not b) ≡ b
not_not true = refl
not_not false = refl

-- Without the entry of one event.
pub removed_of_config : (config : Config) (states last : List EventState) (event : ℕ) (old new : Memory) → length last ≡ length states →
    new.entries ≡ filter (λ entry. not (is_of_event event entry)) old.entries → AreOfConfig config states old → AreOfConfig config last new
removed_of_config config states last event old new same is kept = record {
  one_each = same ∙ kept.one_each;
  within = subst (λ xs. AreBelow (length config.events.items) xs) (sym is) (All-filter (λ entry. not (is_of_event event entry)) (λ (entry : EntryState). entry.event < length config.events.items) old.entries kept.within);
  room = omega (arith, ap length is, length-filter_both (λ (entry : EntryState). not (is_of_event event entry)) (is_of_event event) (λ entry. sym (not_not (is_of_event event entry))) old.entries, kept.room);
}

-- With an event stored.
pub stored_of_config : (config : Config) (states middle last : List EventState) (event : ℕ) (bytes : List ℕ) (old new : Memory) (outcome : Stored) → length last ≡ length states →
    event < length config.events.items → StoresAs config middle event bytes old new outcome → AreOfConfig config states old → AreOfConfig config last new
stored_of_config config states middle last event bytes old new outcome same configured stored kept = record {
  one_each = same ∙ kept.one_each;
  within = kept_below config middle event (length config.events.items) bytes old new outcome stored configured kept.within;
  room = kept_room config middle event bytes old new outcome stored kept.room;
}
