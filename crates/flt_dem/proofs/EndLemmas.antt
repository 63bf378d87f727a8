-- What the end of a cycle does to the entries and to the notes.
use Rattle.std.proofs.Common.{◌≡◌, ◌∙◌, ℕ, nat_eq, Bool, true, false, not, List, ◌∷◌, filter, refl, sym, ap, subst, inl, inr}
use Rattle.std.proofs.lemmas.Bool.{cases_Bool}
use Rattle.flt_config.specs.Durable.{is_of_event}
use Rattle.flt_model.specs.Start.{Start, base_of, event_of}
use Rattle.flt_model.specs.Mark.{Trace, Of, marks_of}
use Rattle.flt_model.specs.Mark.Mark.{Cycle, Aged}
use Rattle.flt_model.specs.Status.{ages}
use Rattle.flt_model.specs.Entry.{holders, is_other, entry_of, entries}
use Rattle.flt_model.specs.Trace.{with_cycle, aged_where}
use Rattle.flt_model.proofs.EntryLemmas.{map_same, displaced_entry, displaced_entries}
use Rattle.flt_memory.specs.Memory.{Memory}
use Rattle.flt_dem.specs.Standing.{MemoryStands, notes_of}

module _ (life : Start) (event : ℕ) (signals : List ℕ) (marks : Trace) where
  cycled_entry : (other : ℕ) → entry_of life other (Of event Cycle signals ∷ marks) ≡ entry_of life other marks
  cycled_entry other = elim (cases_Bool (nat_eq event other)) [ inl e ↦ rw e refl | inr e ↦ rw e refl ]

  cycled_entries : entries life (Of event Cycle signals ∷ marks) ≡ entries life marks
  cycled_entries = map_same _ _ (holders life marks) (λ other among. cycled_entry other)

  aged_entry : (other : ℕ) → entry_of life other (Of event Aged signals ∷ marks) ≡ entry_of life other marks
  aged_entry other = elim (cases_Bool (nat_eq event other)) [ inl e ↦ rw e refl | inr e ↦ rw e refl ]

  -- An event that ages gives up its entry.
  aged_entries : entries life (Of event Aged signals ∷ marks) ≡ filter (λ entry. not (is_of_event event entry)) (entries life marks)
  aged_entries =
      map_same _ _ (filter (is_other event) (holders life marks)) (λ other among. aged_entry other ∙ sym (displaced_entry life event other signals marks))
      ∙ displaced_entries life event signals marks

module _ (life : Start) (event : ℕ) (signals : List ℕ) (marks : Trace) where
  -- An event that does not age keeps its entry.
  pub memory_cycled : (memory : Memory) → ages (base_of life event) (event_of life event) (marks_of event marks) ≡ false →
      MemoryStands life marks memory → MemoryStands life (with_cycle life signals event marks) memory
  memory_cycled memory stays held =
      subst (λ b. MemoryStands life (aged_where signals event b (Of event Cycle signals ∷ marks)) memory) (sym stays) (record {
        entries = held.entries ∙ sym (cycled_entries life event signals marks);
        overflow = held.overflow;
      })

  pub memory_aged : (old new : Memory) → ages (base_of life event) (event_of life event) (marks_of event marks) ≡ true →
      new.entries ≡ filter (λ entry. not (is_of_event event entry)) old.entries → new.overflow ≡ old.overflow →
      MemoryStands life marks old → MemoryStands life (with_cycle life signals event marks) new
  memory_aged old new goes entries_are overflow_is held =
      subst (λ b. MemoryStands life (aged_where signals event b (Of event Cycle signals ∷ marks)) new) (sym goes) (record {
        entries = entries_are
            ∙ ap (λ xs. filter (λ entry. not (is_of_event event entry)) xs) (held.entries ∙ sym (cycled_entries life event signals marks))
            ∙ sym (aged_entries life event signals (Of event Cycle signals ∷ marks));
        overflow = overflow_is ∙ held.overflow;
      })

  notes_where : (aged : Bool) → notes_of life (aged_where signals event aged (Of event Cycle signals ∷ marks)) ≡ notes_of life marks
  notes_where true = refl
  notes_where false = refl

  pub notes_cycled : notes_of life (with_cycle life signals event marks) ≡ notes_of life marks
  notes_cycled = notes_where (ages (base_of life event) (event_of life event) (marks_of event marks))
