-- Data identifiers that are looked up in a table, and lines that use them.
use Rattle.std.proofs.Common.{◌≡◌, ℕ, ◌<◌, ◌≤◌, List, [], ◌∷◌, length, Bool, true, false, cond, Option, Some, None, Ok, Err, refl, sym, subst}
use Rattle.std.specs.Prelude.{find, option_map}
use Rattle.std.proofs.lemmas.Bool.{eqb-true, le-leb, lt-leb}
use Rattle.flt_config.specs.declared.config.DidUse.{DidUse}
use Rattle.flt_did.specs.Rows.{is_did}
use Rattle.flt_script.specs.declared.fault.LineCause.TheVariants.{Order, Many}
use Rattle.flt_script.specs.Said as line
use Rattle.flt_script.specs.Behind.{Behind, added_line, event_count, has_begun, uses_of, with_use_at}
use Rattle.flt_script.specs.Next.{with_line}
use Rattle.flt_script.specs.Refusal.{refusal, did_refusal}

found_in : (id : ℕ) (first did : DidUse) (dids : List DidUse) (here : Bool) → is_did id first ≡ here
    → (find (is_did id) dids ≡ Some did → did.id ≡ id) → cond here (Some first) (find (is_did id) dids) ≡ Some did → did.id ≡ id
found_in id first did dids true same rest e = let one : first ≡ did = cc in subst (λ (d : DidUse). d.id ≡ id) one (eqb-true _ _ same)
found_in id first did dids false same rest e = rest e

-- What is found under a number has that number.
has_id : (id : ℕ) (dids : List DidUse) (did : DidUse) → find (is_did id) dids ≡ Some did → did.id ≡ id
has_id id [] did e = absurd cc
has_id id (first ∷ dids) did e = found_in id first did dids (is_did id first) refl (has_id id dids did) e

-- So it is found under its own.
pub found_again : (id : ℕ) (dids : List DidUse) (did : DidUse) → find (is_did id) dids ≡ Some did → find (is_did did.id) dids ≡ Some did
found_again id dids did e = subst (λ (n : ℕ). find (is_did n) dids ≡ Some did) (sym (has_id id dids did e)) e

-- The number and the width say which.
pub found_with : (id width : ℕ) (dids : List DidUse) (found : Option DidUse) → find (is_did id) dids ≡ found
    → option_map (λ did. did.width) found ≡ Some width → Some (record { id = id; width = width }) ≡ found
found_with id width dids None e wide = absurd cc
found_with id width dids (Some did) e wide =
    let same : did.width ≡ width = cc in
    subst (λ (n : ℕ). Some (record { id = n; width = width }) ≡ Some did) (has_id id dids did e)
    (subst (λ (w : ℕ). Some (record { id = did.id; width = w }) ≡ Some did) same refl)

-- A line that puts a data identifier to those of an event.
pub accepted : (dids : List DidUse) (b : Behind) (event id : ℕ) (did : DidUse) → has_begun b ≡ false → event < event_count b
    → length (uses_of event b.config.events.items) < 8 → find (is_did id) dids ≡ Some did
    → with_line dids 0 b (line.Did event id)
    ≡ Ok (record b { config = record b.config { events = record { items = with_use_at event (Some did) b.config.events.items } } })
unfolding with_line added_line refusal did_refusal
accepted dids b event id did begun there room found =
    rw (begun, lt-leb (event_count b) event there, lt-leb 8 (length (uses_of event b.config.events.items)) room, found) refl

-- Such a line after a step.
pub begun_before : (dids : List DidUse) (b : Behind) (event id : ℕ) → has_begun b ≡ true → with_line dids 0 b (line.Did event id) ≡ Err Order
unfolding with_line added_line refusal did_refusal
begun_before dids b event id begun = rw begun refl

-- Such a line of an event that is not there.
pub absent_event : (dids : List DidUse) (b : Behind) (event id : ℕ) → has_begun b ≡ false → event_count b ≤ event
    → with_line dids 0 b (line.Did event id) ≡ Err Order
unfolding with_line added_line refusal did_refusal
absent_event dids b event id begun absent = rw (begun, le-leb (event_count b) event absent) refl

-- Such a line of an event that has eight of them.
pub too_many : (dids : List DidUse) (b : Behind) (event id : ℕ) → has_begun b ≡ false → event < event_count b
    → 8 ≤ length (uses_of event b.config.events.items) → with_line dids 0 b (line.Did event id) ≡ Err Many
unfolding with_line added_line refusal did_refusal
too_many dids b event id begun there full =
    rw (begun, lt-leb (event_count b) event there, le-leb 8 (length (uses_of event b.config.events.items)) full) refl
