-- What a clear does to the entries and to the notes.
use Rattle.std.proofs.Common.{◌≡◌, ◌≢◌, ◌∙◌, ℕ, ◌+◌, ◌<◌, ◌≤◌, nat_eq, true, false, not, ◌||◌, List, [], ◌∷◌, filter, length, get_or, cond, Option, Some, unwrap_or, refl, sym, ap, subst, arith, inl, inr, eq-eqb, ⊎_elim}
use Rattle.std.proofs.lemmas.Bool.{cases_Bool, cases_lt, ne_eqb, or_right}
use Rattle.std.proofs.lemmas.List.Elements.{All-filter, filter_passes}
use Rattle.std.proofs.lemmas.List.{get_or_past}
use Rattle.std.proofs.lemmas.Option.{unwrap_or-slice_get}
use Rattle.std.specs.List.{All}
use Rattle.std.specs.Prelude.{slice_get}
use Rattle.flt_config.specs.declared.config.Config.{Config}
use Rattle.flt_config.specs.declared.persist.EntryState.{EntryState}
use Rattle.flt_config.specs.Durable.{is_of_event}
use Rattle.flt_config.specs.Validity.{IsValid}
use Rattle.arrayvec.specs.ArrayVec.{ArrayVec}
use Rattle.flt_model.specs.Start.{Start, History, count, event_of, no_event}
use Rattle.flt_model.specs.Happening.{cleared_dtc, all_dtcs, reaches}
use Rattle.flt_model.specs.declared.call.Op.TheVariants as ops
use Rattle.flt_model.specs.Trace.{with_clear}
use Rattle.flt_model.specs.Mark.{Trace, Of, AllCleared}
use Rattle.flt_model.specs.Mark.Mark.{Clear}
use Rattle.flt_model.specs.Entry.{holders, is_other, entry_of, entries}
use Rattle.flt_model.proofs.EntryLemmas.{map_same, displaced_entry, displaced_entries}
use Rattle.flt_memory.specs.Memory.{Memory}
use Rattle.flt_dem.specs.DurablePart.{without_entry}
use Rattle.flt_dem.specs.Standing.{MemoryStands}
use Rattle.flt_dem.specs.Events.{EventsView, holding}
use Rattle.flt_dem.specs.Calls.{StandsAfter, StandsPartly}

module _ (life : Start) (event : ℕ) (signals : List ℕ) (marks : Trace) where
  cleared_entry : (other : ℕ) → entry_of life other (Of event Clear signals ∷ marks) ≡ entry_of life other marks
  cleared_entry other = elim (cases_Bool (nat_eq event other)) [ inl e ↦ rw e refl | inr e ↦ rw e refl ]

  -- An event that is cleared gives up its entry.
  cleared_entries : entries life (Of event Clear signals ∷ marks) ≡ filter (λ entry. not (is_of_event event entry)) (entries life marks)
  cleared_entries =
      map_same _ _ (filter (is_other event) (holders life marks)) (λ other among. cleared_entry other ∙ sym (displaced_entry life event other signals marks))
      ∙ displaced_entries life event signals marks

  pub memory_cleared : (held : Memory) → MemoryStands life marks held → MemoryStands life (Of event Clear signals ∷ marks) (without_entry event held)
  memory_cleared held stood = record {
    entries = ap (λ xs. filter (λ entry. not (is_of_event event entry)) xs) stood.entries ∙ sym cleared_entries;
    overflow = stood.overflow;
  }

-- Entries whose events are both below and not below a number are none.
pub none_left : (n : ℕ) (held : List EntryState) → All (λ entry. n ≤ entry.event) held → All (λ entry. entry.event < n) held → held ≡ []
none_left n [] above below = refl
none_left n (entry ∷ held) above below = let h = above 0 entry (omega arith) in let l = below 0 entry (omega arith) in absurd (omega arith)

-- Without the entry of one event more.
pub left_more : (done : ℕ) (held last : List EntryState) → last ≡ filter (λ entry. not (is_of_event done entry)) held → All (λ entry. done ≤ entry.event) held →
    All (λ entry. done + 1 ≤ entry.event) last
left_more done held last is left =
    subst (λ xs. All (λ (entry : EntryState). done + 1 ≤ entry.event) xs) (sym is) (λ k d within.
    let kept = filter (λ (entry : EntryState). not (is_of_event done entry)) held in
    let above = All-filter (λ (entry : EntryState). not (is_of_event done entry)) (λ (entry : EntryState). done ≤ entry.event) held left k d within in
    let passes = filter_passes (λ (entry : EntryState). not (is_of_event done entry)) held k d within in
    let apart : (get_or kept k d).event ≢ done = λ same. let own = eq-eqb (get_or kept k d).event done same in absurd (cc (ap not own, passes)) in
    omega (arith, above, apart))

-- The events below a number are cleared, and the memory was emptied first. The entries that are held take the place of those that a
-- memory would have that gave up one entry with each event: once each event is cleared they are none, as the memory's are.
pub record ClearedBelow (done : ℕ) (before now : EventsView) : Type 0 where
  pub held : Memory
  pub stands : (life : Start) (past : History) (tester : ℕ) (bytes : ArrayVec ℕ) → cleared_dtc (ops.Request tester bytes) ≡ Some all_dtcs →
      StandsAfter life past before → StandsPartly life past (ops.Request tester bytes) done (holding held now)
  pub left : All (λ entry. done ≤ entry.event) held.entries
  pub within : All (λ entry. entry.event < length before.durable.config.events.items) held.entries

-- ---- DTCs

-- Another event of the configuration has another DTC, and so has none past its end.
pub dtc_apart : (config : Config) (event other : ℕ) → IsValid config → event < length config.events.items → other ≢ event →
    (unwrap_or (slice_get config.events.items event) no_event).dtc ≢ (unwrap_or (slice_get config.events.items other) no_event).dtc
dtc_apart config event other valid within ne =
    let events = config.events.items in
    let least = (valid.events event no_event within).dtc.0 in
    rw (unwrap_or-slice_get events event no_event, unwrap_or-slice_get events other no_event)
    (⊎_elim
    (λ inside. ⊎_elim (λ before. valid.distinct event other no_event before inside)
    (λ behind same. valid.distinct other event no_event (omega (arith, ne)) within (sym same)) (cases_lt event other))
    (λ outside same. let past = get_or_past events other no_event outside in omega (arith, least, same, ap (λ e. e.dtc) past))
    (cases_lt other (length events)))

-- The DTC of an event is not the group of all.
pub dtc_is_one : (config : Config) (event : ℕ) → IsValid config → event < length config.events.items → (unwrap_or (slice_get config.events.items event) no_event).dtc ≢ all_dtcs
dtc_is_one config event valid within =
    let most = (valid.events event no_event within).dtc.1 in
    rw (unwrap_or-slice_get config.events.items event no_event) (λ same. omega (arith, most, same))

-- A clear of an event's DTC reaches it.
pub reaches_own : (life : Start) (event : ℕ) → reaches life event (event_of life event).dtc ≡ true
reaches_own life event = or_right (nat_eq (event_of life event).dtc all_dtcs) _ (eq-eqb (event_of life event).dtc (event_of life event).dtc refl)

-- And no other event.
pub reaches_others : (life : Start) (event other : ℕ) → IsValid life.config → event < count life → other ≢ event → reaches life other (event_of life event).dtc ≡ false
reaches_others life event other valid within ne =
    let dtc = (event_of life event).dtc in
    ap (λ b. b || nat_eq dtc (event_of life other).dtc) (ne_eqb dtc all_dtcs (dtc_is_one life.config event valid within))
    ∙ ne_eqb dtc (event_of life other).dtc (dtc_apart life.config event other valid within ne)

-- It is no clear of all.
pub clears_one : (life : Start) (event : ℕ) (clears : Option ℕ) (marks : Trace) → IsValid life.config → event < count life → clears ≡ Some (event_of life event).dtc →
    with_clear clears marks ≡ marks
clears_one life event clears marks valid within is =
    ap (λ c. with_clear c marks) is
    ∙ ap (λ b. cond b (AllCleared ∷ marks) marks) (ne_eqb (event_of life event).dtc all_dtcs (dtc_is_one life.config event valid within))
