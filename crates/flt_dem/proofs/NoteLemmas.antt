-- What a failure does to the noted events, whatever becomes of the entries.
use Rattle.std.proofs.Common.{◌≡◌, ◌∙◌, ℕ, Bool, true, false, List, ◌∷◌, Option, Some, None, refl, sym, ap}
use Rattle.flt_model.specs.Start.{Start, base_of}
use Rattle.flt_model.specs.Mark.{Trace, Of, marks_of}
use Rattle.flt_model.specs.Mark.Mark.{Failed}
use Rattle.flt_model.specs.Status.{enters}
use Rattle.flt_model.specs.Entry.{holders, has_entry, worst, rank_of}
use Rattle.flt_model.specs.Trace.{with_failed, stored_where, stored, added, added_in_full, added_for}
use Rattle.flt_model.specs.Noted.{is_entering_failure, is_confirming_failure, first_after, recent_after}
use Rattle.flt_dem.specs.declared.notes.Notes.{Notes}
use Rattle.flt_dem.specs.Standing.{notes_of}

module _ (life : Start) (signals : List ℕ) (event : ℕ) (trace : Trace) where
  notes_for : (other : ℕ) (gives : Bool) → notes_of life (added_for life signals event other gives trace) ≡ notes_of life trace
  notes_for other true = refl
  notes_for other false = refl

  notes_in_full : (other : Option ℕ) → notes_of life (added_in_full life signals event other trace) ≡ notes_of life trace
  notes_in_full None = refl
  notes_in_full (Some other) = notes_for other _

  notes_added : (room : Bool) → notes_of life (added life signals event room trace) ≡ notes_of life trace
  notes_added true = refl
  notes_added false = notes_in_full (worst (rank_of life trace) (holders life trace))

  notes_stored : (held : Bool) → notes_of life (stored life signals event held trace) ≡ notes_of life trace
  notes_stored true = refl
  notes_stored false = notes_added _

  notes_where : (entered : Bool) → notes_of life (stored_where life signals event entered trace) ≡ notes_of life trace
  notes_where true = notes_stored (has_entry life event trace)
  notes_where false = refl

-- Storing leaves the notes of the failure.
pub notes_failed : (life : Start) (signals : List ℕ) (event : ℕ) (trace : Trace) →
    notes_of life (with_failed life signals event trace) ≡ notes_of life (Of event Failed signals ∷ trace)
notes_failed life signals event trace = notes_where life signals event (Of event Failed signals ∷ trace) (enters (base_of life event) (marks_of event trace))

-- The notes after a failure are those that its marks make.
pub notes_after : (life : Start) (signals : List ℕ) (event : ℕ) (marks : Trace) (old new : Notes) (entered confirmed : Bool) →
    old ≡ notes_of life marks → entered ≡ is_entering_failure life event marks → confirmed ≡ is_confirming_failure life event marks →
    new.first_failed ≡ first_after entered event old.first_failed → new.first_confirmed ≡ first_after confirmed event old.first_confirmed →
    new.recent_failed ≡ recent_after entered event old.recent_failed → new.recent_confirmed ≡ recent_after confirmed event old.recent_confirmed →
    new ≡ notes_of life (with_failed life signals event marks)
notes_after life signals event marks old new entered confirmed are enters_is confirms_is first_failed first_confirmed recent_failed recent_confirmed =
    let was = notes_of life marks in
    let ff = first_failed ∙ ap (λ n. first_after entered event n.first_failed) are ∙ ap (λ b. first_after b event was.first_failed) enters_is in
    let fc = first_confirmed ∙ ap (λ n. first_after confirmed event n.first_confirmed) are ∙ ap (λ b. first_after b event was.first_confirmed) confirms_is in
    let rf = recent_failed ∙ ap (λ n. recent_after entered event n.recent_failed) are ∙ ap (λ b. recent_after b event was.recent_failed) enters_is in
    let rc = recent_confirmed ∙ ap (λ n. recent_after confirmed event n.recent_confirmed) are ∙ ap (λ b. recent_after b event was.recent_confirmed) confirms_is in
    let now : new ≡ notes_of life (Of event Failed signals ∷ marks) =
    λ i. record { first_failed = ff i; first_confirmed = fc i; recent_failed = rf i; recent_confirmed = rc i } in
    now ∙ sym (notes_failed life signals event marks)
