-- What a failed result makes of the states and the entries.
use Rattle.std.proofs.Common.{◌≡◌, ◌≢◌, ◌∙◌, ℕ, zero, suc, ◌<◌, nat_eq, false, List, [], ◌∷◌, length, get_or, None, arith, sym, ap, subst, inl, inr, eq-eqb}
use Rattle.std.proofs.lemmas.Bool.{cases_Bool}
use Rattle.std.specs.List.{All, find}
use Rattle.flt_config.specs.declared.config.Config.{Config}
use Rattle.flt_config.specs.declared.persist.EventState.{EventState}
use Rattle.flt_config.specs.declared.persist.EntryState.{EntryState}
use Rattle.flt_config.specs.Durable.{is_of_event}
use Rattle.flt_model.specs.Start.{Start, base_of}
use Rattle.flt_model.specs.Mark.{Trace, Of, marks_of}
use Rattle.flt_model.specs.Mark.Mark.{Failed}
use Rattle.flt_model.specs.Status.{enters}
use Rattle.flt_model.specs.Trace.{with_failed, stored_where}
use Rattle.flt_model.proofs.EntryLemmas.{again_entries}
use Rattle.flt_memory.specs.Memory.{Memory}
use Rattle.flt_memory.specs.Store.{StoresAs}
use Rattle.flt_memory.specs.declared.memory.Stored.{Stored}
use Rattle.flt_memory.specs.declared.memory.Stored.TheVariants as outcomes
use Rattle.flt_dem.specs.Standing.{MemoryStands, IsDisplacedBelow, IsNotDisplaced}

blank_entry : EntryState
blank_entry = record { event = 0; occurrence = 0; first = record { items = [] }; recent = record { items = [] } }

pub outcome_below : (config : Config) (states : List EventState) (event : ℕ) (bytes : List ℕ) (old new : Memory) (outcome : Stored) (n m : ℕ) →
    StoresAs config states event bytes old new outcome → All (λ entry. entry.event < n) old.entries → n ≡ m → IsDisplacedBelow m outcome
outcome_below config states event bytes old new outcomes.Updated n m stored within same = tt
outcome_below config states event bytes old new outcomes.Added n m stored within same = tt
outcome_below config states event bytes old new outcomes.Refused n m stored within same = tt
outcome_below config states event bytes old new (outcomes.Displaced other) n m stored within same =
    let here = within stored.place blank_entry stored.gives_way.within in
    omega (arith, here, stored.named blank_entry)

-- Where an event has no entry, none of its own gives way.
found_at : (event : ℕ) (held : List EntryState) (place : ℕ) (d : EntryState) → place < length held → find (is_of_event event) held ≡ None → event ≢ (get_or held place d).event
found_at event [] place d within none same = omega arith
found_at event (entry ∷ held) zero d within none same = let own = eq-eqb entry.event event (sym same) in absurd (cc (rw own at none))
found_at event (entry ∷ held) (suc place) d within none same =
    elim (cases_Bool (nat_eq entry.event event)) [
      | inl own ↦ absurd (cc (rw own at none))
      | inr other ↦ found_at event held place d (omega arith) (rw other at none) same
    ]

pub not_displaced : (config : Config) (states : List EventState) (event other : ℕ) (bytes : List ℕ) (old new : Memory) (outcome : Stored) →
    StoresAs config states event bytes old new outcome → find (is_of_event other) old.entries ≡ None → IsNotDisplaced other outcome
not_displaced config states event other bytes old new outcomes.Updated stored none = tt
not_displaced config states event other bytes old new outcomes.Added stored none = tt
not_displaced config states event other bytes old new outcomes.Refused stored none = tt
not_displaced config states event other bytes old new (outcomes.Displaced which) stored none = λ same.
    found_at other old.entries stored.place blank_entry stored.gives_way.within none (same ∙ stored.named blank_entry)

-- A failure that does not enter leaves the entries.
pub failed_again : (life : Start) (event : ℕ) (signals : List ℕ) (marks : Trace) → enters (base_of life event) (marks_of event marks) ≡ false →
    with_failed life signals event marks ≡ (Of event Failed signals ∷ marks)
failed_again life event signals marks again = ap (λ b. stored_where life signals event b (Of event Failed signals ∷ marks)) again

pub memory_again : (life : Start) (event : ℕ) (signals : List ℕ) (marks : Trace) (memory : Memory) → enters (base_of life event) (marks_of event marks) ≡ false →
    MemoryStands life marks memory → MemoryStands life (with_failed life signals event marks) memory
memory_again life event signals marks memory again held =
    subst (λ m. MemoryStands life m memory) (sym (failed_again life event signals marks again)) (record {
      entries = held.entries ∙ sym (again_entries life event signals marks again);
      overflow = held.overflow;
    })
