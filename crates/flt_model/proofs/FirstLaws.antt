-- The event that is noted as the first is the one that holds the note.
use Rattle.std.proofs.Common.{◌≡◌, ◌∙◌, ℕ, nat_eq, Bool, true, false, [], ◌∷◌, ◌++◌, List, Option, Some, None, refl, sym, ap, subst, inl, inr, ⊎_elim, eq-eqb}
use Rattle.std.proofs.lemmas.Bool.{cases_eq, ne_eqb}
use Rattle.std.proofs.lemmas.List.{append-nil}
use Rattle.flt_model.specs.Mark.{Mark, Past, Traced, Trace, Of, AllCleared, marks_of, own}
use Rattle.flt_model.specs.Mark.Mark.{Failed, Passed, Cycle, Clear, Aged, Displaced, Added, Refused}
use Rattle.flt_model.specs.Noted.{Notable, first, without, first_after}
use Rattle.flt_model.specs.NoteLaws.{has_clear, was_cleared, HoldsNote, FirstIsHolder}
use Rattle.flt_model.proofs.RecentLaws.{IsNoClear, same_clears}

module _ (notable : Notable) (base : Option ℕ) (event : ℕ) where
  -- What is no clear of the event leaves its note.
  behind : (traced : Traced) (trace : Trace) → ((later : Trace) → was_cleared event (traced ∷ later) ≡ was_cleared event later) → HoldsNote notable base trace event
      → HoldsNote notable base (traced ∷ trace) event
  behind traced trace leaves = ⊎_elim
      (λ takes. inl (record {
        later = traced ∷ takes.later;
        signals = takes.signals;
        earlier = takes.earlier;
        is = ap (λ marks. traced ∷ marks) takes.is;
        notable_then = takes.notable_then;
        none_then = takes.none_then;
        kept = leaves takes.later ∙ takes.kept;
      }))
      (λ held. inr (held.0, leaves trace ∙ held.1))

  behind_mark : (other : ℕ) (mark : Mark) (signals : List ℕ) → IsNoClear mark → (trace : Trace) → HoldsNote notable base trace event → HoldsNote notable base (Of other mark signals ∷ trace) event
  behind_mark other mark signals plain trace = behind (Of other mark signals) trace (λ later. same_clears mark plain (nat_eq other event) (marks_of event later))

  behind_clear : (other : ℕ) (signals : List ℕ) (trace : Trace) (standing : Option ℕ) → without other standing ≡ Some event → (standing ≡ Some event → HoldsNote notable base trace event)
      → HoldsNote notable base (Of other Clear signals ∷ trace) event
  behind_clear other signals trace None e before = absurd (cc)
  behind_clear other signals trace (Some noted) e before = elim (cases_eq noted other) [
    | inl same ↦ absurd (cc (rw (eq-eqb noted other same) at e))
    | inr ne ↦
        let kept : Some noted ≡ Some event = rw (ne_eqb noted other ne) at e in
        let is : noted ≡ event = cc in
        let apart : nat_eq other event ≡ false = ne_eqb other event (λ same. ne (is ∙ sym same)) in
        behind (Of other Clear signals) trace (λ later. ap (λ b. has_clear (own b Clear (marks_of event later))) apart) (before kept)
  ]

  taken : (other : ℕ) (signals : List ℕ) (trace : Trace) (now : Bool) (standing : Option ℕ) → notable other trace ≡ now → first notable base trace ≡ standing
      → first_after now other standing ≡ Some event → (standing ≡ Some event → HoldsNote notable base trace event) → HoldsNote notable base (Of other Failed signals ∷ trace) event
  taken other signals trace false standing is at e before = behind_mark other Failed signals tt trace (before e)
  taken other signals trace true (Some noted) is at e before = behind_mark other Failed signals tt trace (before e)
  taken other signals trace true None is at e before =
      let same : other ≡ event = cc in
      inl (record {
        later = [];
        signals = signals;
        earlier = trace;
        is = ap (λ n. Of n Failed signals ∷ trace) same;
        notable_then = subst (λ n. notable n trace ≡ true) same is;
        none_then = at;
        kept = refl;
      })

  held : (trace : Trace) → first notable base trace ≡ Some event → HoldsNote notable base trace event
  held [] e = inr (e, refl)
  held (AllCleared ∷ trace) e = behind AllCleared trace (λ later. refl) (held trace e)
  held (Of other Failed signals ∷ trace) e = taken other signals trace (notable other trace) (first notable base trace) refl refl e (held trace)
  held (Of other Clear signals ∷ trace) e = behind_clear other signals trace (first notable base trace) e (held trace)
  held (Of other Passed signals ∷ trace) e = behind_mark other Passed signals tt trace (held trace e)
  held (Of other Cycle signals ∷ trace) e = behind_mark other Cycle signals tt trace (held trace e)
  held (Of other Aged signals ∷ trace) e = behind_mark other Aged signals tt trace (held trace e)
  held (Of other Displaced signals ∷ trace) e = behind_mark other Displaced signals tt trace (held trace e)
  held (Of other Added signals ∷ trace) e = behind_mark other Added signals tt trace (held trace e)
  held (Of other Refused signals ∷ trace) e = behind_mark other Refused signals tt trace (held trace e)

  -- ---- the other way round

  not_own : (other : ℕ) (mine : Bool) (past : Past) → nat_eq other event ≡ mine → has_clear (own mine Clear past) ≡ false → (nat_eq event other ≡ false) × (has_clear past ≡ false)
  not_own other true past is none = absurd (cc)
  not_own other false past is none = (ne_eqb event other (λ same. absurd (cc (eq-eqb other event (sym same)))), none)

  stays_noted : (now : Bool) (other : ℕ) (standing : Option ℕ) → standing ≡ Some event → first_after now other standing ≡ Some event
  stays_noted true other None e = absurd (cc)
  stays_noted true other (Some noted) e = e
  stays_noted false other standing e = e

  first_stays : (later earlier : Trace) → first notable base earlier ≡ Some event → was_cleared event later ≡ false → first notable base (later ++ earlier) ≡ Some event
  first_stays [] earlier e none = e
  first_stays (AllCleared ∷ later) earlier e none = first_stays later earlier e none
  first_stays (Of other Failed signals ∷ later) earlier e none =
      stays_noted (notable other (later ++ earlier)) other (first notable base (later ++ earlier))
      (first_stays later earlier e (sym (same_clears Failed tt (nat_eq other event) (marks_of event later)) ∙ none))
  first_stays (Of other Clear signals ∷ later) earlier e none =
      let parts = not_own other (nat_eq other event) (marks_of event later) refl none in
      ap (without other) (first_stays later earlier e parts.1) ∙ rw parts.0 refl
  first_stays (Of other Passed signals ∷ later) earlier e none = first_stays later earlier e (sym (same_clears Passed tt (nat_eq other event) (marks_of event later)) ∙ none)
  first_stays (Of other Cycle signals ∷ later) earlier e none = first_stays later earlier e (sym (same_clears Cycle tt (nat_eq other event) (marks_of event later)) ∙ none)
  first_stays (Of other Aged signals ∷ later) earlier e none = first_stays later earlier e (sym (same_clears Aged tt (nat_eq other event) (marks_of event later)) ∙ none)
  first_stays (Of other Displaced signals ∷ later) earlier e none = first_stays later earlier e (sym (same_clears Displaced tt (nat_eq other event) (marks_of event later)) ∙ none)
  first_stays (Of other Added signals ∷ later) earlier e none = first_stays later earlier e (sym (same_clears Added tt (nat_eq other event) (marks_of event later)) ∙ none)
  first_stays (Of other Refused signals ∷ later) earlier e none = first_stays later earlier e (sym (same_clears Refused tt (nat_eq other event) (marks_of event later)) ∙ none)

  holder : (trace : Trace) → HoldsNote notable base trace event → first notable base trace ≡ Some event
  holder trace = ⊎_elim
      (λ takes.
      (let took : first notable base (Of event Failed takes.signals ∷ takes.earlier) ≡ Some event =
      ap (λ b. first_after b event (first notable base takes.earlier)) takes.notable_then ∙ ap (first_after true event) takes.none_then in
      ap (first notable base) takes.is ∙ first_stays takes.later (Of event Failed takes.signals ∷ takes.earlier) took takes.kept))
      (λ held. from_base trace held.0 held.1)
    where
      from_base : (trace : Trace) → base ≡ Some event → was_cleared event trace ≡ false → first notable base trace ≡ Some event
      from_base trace is none = ap (first notable base) (sym (append-nil trace)) ∙ first_stays trace [] is none

pub first_is_holder : FirstIsHolder
first_is_holder notable base trace event = (held notable base event trace, holder notable base event trace)
