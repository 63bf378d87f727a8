-- The most recent noted event is that of the last notable failure.
use Rattle.std.proofs.Common.{◌≡◌, ◌∙◌, ℕ, nat_eq, Bool, true, false, cond, [], ◌∷◌, ◌++◌, List, Option, Some, None, refl, sym, ap, inl, inr, eq-eqb}
use Rattle.std.proofs.lemmas.Bool.{cases_eq, ne_eqb}
use Rattle.std.proofs.lemmas.List.{append-nil}
use Rattle.flt_model.specs.Mark.{Mark, Past, Trace, Of, AllCleared, marks_of, own}
use Rattle.flt_model.specs.Mark.Mark.{Failed, Passed, Cycle, Clear, Aged, Displaced, Added, Refused}
use Rattle.flt_model.specs.Noted.{Notable, recent, without, recent_after}
use Rattle.flt_model.specs.NoteLaws.{has_clear, was_cleared, unless_cleared, IsQuiet, RecentIsOfLastFailure, RecentIsOfBase}

-- A mark that is no clear.
abbrev pub IsNoClear : Mark → Type 0
IsNoClear Clear = ⊥
IsNoClear _ = Unit {0}

pub same_clears : (mark : Mark) → IsNoClear mark → (mine : Bool) (past : Past) → has_clear (own mine mark past) ≡ has_clear past
same_clears mark plain false past = refl
same_clears Clear plain true past = absurd plain
same_clears Failed plain true past = refl
same_clears Passed plain true past = refl
same_clears Cycle plain true past = refl
same_clears Aged plain true past = refl
same_clears Displaced plain true past = refl
same_clears Added plain true past = refl
same_clears Refused plain true past = refl

-- What is noted stays noted under it.
same_unless : (event : ℕ) (mark : Mark) → IsNoClear mark → (signals : List ℕ) (later : Trace) (noted : Option ℕ) →
    unless_cleared later noted ≡ unless_cleared (Of event mark signals ∷ later) noted
same_unless event mark plain signals later None = refl
same_unless event mark plain signals later (Some other) =
    ap (λ b. cond b None (Some other)) (sym (same_clears mark plain (nat_eq event other) (marks_of other later)))

own_clear : (mine before : Bool) (other : ℕ) (past : Past) → has_clear past ≡ before →
    cond mine None (cond before None (Some other)) ≡ cond (has_clear (own mine Clear past)) None (Some other)
own_clear true before other past is = refl
own_clear false before other past is = rw is refl

none_either : (b : Bool) → ◌≡◌ {A = Option ℕ} None (cond b None None)
none_either true = refl
none_either false = refl

without_cond : (event other : ℕ) (before : Bool) → without event (cond before None (Some other)) ≡ cond (nat_eq event other) None (cond before None (Some other))
without_cond event other true = none_either (nat_eq event other)
without_cond event other false =
    elim (cases_eq event other) [
      | inl same ↦ rw (eq-eqb event other same, eq-eqb other event (sym same)) refl
      | inr ne ↦ rw (ne_eqb event other ne, ne_eqb other event (λ same. ne (sym same))) refl
    ]

-- And a clear takes the note of its event.
cleared_unless : (event : ℕ) (signals : List ℕ) (later : Trace) (noted : Option ℕ) →
    without event (unless_cleared later noted) ≡ unless_cleared (Of event Clear signals ∷ later) noted
cleared_unless event signals later None = refl
cleared_unless event signals later (Some other) =
    without_cond event other (was_cleared other later) ∙ own_clear (nat_eq event other) (was_cleared other later) other (marks_of other later) refl

unless_none : (noted : Option ℕ) → noted ≡ unless_cleared [] noted
unless_none None = refl
unless_none (Some event) = refl

module _ (notable : Notable) (base : Option ℕ) where
  recent_since : (later earlier : Trace) → IsQuiet notable later earlier → recent notable base (later ++ earlier) ≡ unless_cleared later (recent notable base earlier)
  recent_since [] earlier quiet = unless_none (recent notable base earlier)
  recent_since (AllCleared ∷ later) earlier quiet = recent_since later earlier quiet ∙ all_clear later (recent notable base earlier)
    where
      all_clear : (later : Trace) (noted : Option ℕ) → unless_cleared later noted ≡ unless_cleared (AllCleared ∷ later) noted
      all_clear later None = refl
      all_clear later (Some event) = refl
  recent_since (Of event Failed signals ∷ later) earlier quiet =
      ap (λ b. recent_after b event (recent notable base (later ++ earlier))) quiet.0 ∙ recent_since later earlier quiet.1
      ∙ same_unless event Failed tt signals later (recent notable base earlier)
  recent_since (Of event Clear signals ∷ later) earlier quiet =
      ap (without event) (recent_since later earlier quiet) ∙ cleared_unless event signals later (recent notable base earlier)
  recent_since (Of event Passed signals ∷ later) earlier quiet = recent_since later earlier quiet ∙ same_unless event Passed tt signals later (recent notable base earlier)
  recent_since (Of event Cycle signals ∷ later) earlier quiet = recent_since later earlier quiet ∙ same_unless event Cycle tt signals later (recent notable base earlier)
  recent_since (Of event Aged signals ∷ later) earlier quiet = recent_since later earlier quiet ∙ same_unless event Aged tt signals later (recent notable base earlier)
  recent_since (Of event Displaced signals ∷ later) earlier quiet = recent_since later earlier quiet ∙ same_unless event Displaced tt signals later (recent notable base earlier)
  recent_since (Of event Added signals ∷ later) earlier quiet = recent_since later earlier quiet ∙ same_unless event Added tt signals later (recent notable base earlier)
  recent_since (Of event Refused signals ∷ later) earlier quiet = recent_since later earlier quiet ∙ same_unless event Refused tt signals later (recent notable base earlier)

pub recent_is_of_last_failure : RecentIsOfLastFailure
recent_is_of_last_failure notable base later earlier event signals is quiet =
    recent_since notable base later (Of event Failed signals ∷ earlier) quiet
    ∙ ap (λ b. unless_cleared later (recent_after b event (recent notable base earlier))) is

pub recent_is_of_base : RecentIsOfBase
recent_is_of_base notable base trace quiet = ap (recent notable base) (sym (append-nil trace)) ∙ recent_since notable base trace [] quiet
