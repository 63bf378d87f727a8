-- An entry that the marks make of a base that fits is one that fits.
use Rattle.std.proofs.Common.{◌≡◌, ◌∙◌, ℕ, ◌-◌, ◌≤◌, nat_eq, Bool, true, false, cond, List, [], ◌∷◌, length, Some, None, refl, arith, eqb-true}
use Rattle.std.specs.Prelude.{All, find, unwrap_or, is_some, IfSome, if◌then◌else◌, sum_by, ◌==◌}
use Rattle.std.specs.Int.{w64, to_be_bytes}
use Rattle.std.proofs.lemmas.List.{length-drop}
use Rattle.std.proofs.lemmas.List.Concat.{length-flat_map}
use Rattle.std.proofs.lemmas.List.Sums.{sum_by-cons}
use Rattle.std.proofs.lemmas.List.Elements.{All-head, All-tail}
use Rattle.flt_config.specs.declared.config.DidUse.{DidUse}
use Rattle.flt_config.specs.declared.config.EventCfg.{EventCfg}
use Rattle.flt_config.specs.declared.persist.EntryState.{EntryState}
use Rattle.flt_config.specs.Ranges.{frame_width}
use Rattle.flt_config.specs.Durable.{IsEntryOf, is_of_event}
use Rattle.flt_model.specs.Start.{Start, event_of}
use Rattle.flt_model.specs.Mark.{Mark, Past, Kind, Trace, Of, AllCleared, own, marks_of, decided, count_since, one_more_if}
use Rattle.flt_model.specs.Mark.Mark.{Failed, Passed, Cycle, Clear, Aged, Displaced, Added, Refused}
use Rattle.flt_model.specs.Frame.{did_bytes, frame_bytes}
use Rattle.flt_model.specs.Entry.{has_entry, entry_row, restarts_occurrence, base_entry, base_first, first_row, frame}
use Rattle.flt_model.specs.Happening.{signals}

-- ---- the width of a frame

-- Data identifiers of at most eight bytes each, as in a valid configuration.
abbrev pub AreNarrow : List DidUse → Type 0
AreNarrow dids = All (λ did. did.width ≤ 8) dids

-- The bytes of an identifier are as many as its width.
did_wide : (signals : List ℕ) (did : DidUse) → did.width ≤ 8 → length (did_bytes signals did) ≡ did.width
did_wide signals did narrow = length-drop (8 - did.width) (to_be_bytes w64 _) ∙ omega (arith, narrow)

-- And those of a frame as many as its widths together.
frame_wide : (signals : List ℕ) (dids : List DidUse) → AreNarrow dids → length (frame_bytes dids signals) ≡ frame_width dids
frame_wide signals dids narrow = length-flat_map (did_bytes signals) dids ∙ sums signals dids narrow
  where
    sums : (signals : List ℕ) (dids : List DidUse) → AreNarrow dids → sum_by (λ did. length (did_bytes signals did)) dids ≡ frame_width dids
    sums signals [] narrow = refl
    sums signals (did ∷ dids) narrow =
        let here = did_wide signals did (All-head (λ did. did.width ≤ 8) did dids narrow) in
        let rest = sums signals dids (All-tail (λ did. did.width ≤ 8) did dids narrow) in
        let a = sum_by-cons (λ did. length (did_bytes signals did)) did dids in
        let b = sum_by-cons (λ (did : DidUse). did.width) did dids in
        omega (arith, here, rest, a, b)

-- ---- an entry that stays

-- A mark that gives no entry.
abbrev pub IsNotAdded : Mark → Type 0
IsNotAdded Added = ⊥
IsNotAdded _ = Unit {0}

-- An event with an entry after it had one before it.
pub still : (mark : Mark) → IsNotAdded mark → (flag b : Bool) (past : Past) → decided entry_row flag (own b mark past) ≡ true → decided entry_row flag past ≡ true
still mark not flag false past held = held
still Added not flag true past held = absurd not
still Failed not flag true past held = held
still Passed not flag true past held = held
still Cycle not flag true past held = held
still Refused not flag true past held = held
still Clear not flag true past held = absurd (cc)
still Aged not flag true past held = absurd (cc)
still Displaced not flag true past held = absurd (cc)

-- ---- the occurrence

one_more_least : (b : Bool) (n : ℕ) → 1 ≤ n → 1 ≤ one_more_if b n
one_more_least true n least = omega (arith, least)
one_more_least false n least = least

-- An entry counts at least one occurrence.
pub counted : (kind : Kind) (flag : Bool) (base : ℕ) → (flag ≡ true → 1 ≤ base) → (past : Past) → decided entry_row flag past ≡ true → 1 ≤ count_since restarts_occurrence kind base past
counted kind flag base first [] held = first held
counted kind flag base first (Added ∷ past) held = omega arith
counted kind flag base first (Aged ∷ past) held = absurd (cc)
counted kind flag base first (Displaced ∷ past) held = absurd (cc)
counted kind flag base first (Clear ∷ past) held = absurd (cc)
counted kind flag base first (Failed ∷ past) held = one_more_least (kind past Failed) _ (counted kind flag base first past held)
counted kind flag base first (Passed ∷ past) held = one_more_least (kind past Passed) _ (counted kind flag base first past held)
counted kind flag base first (Cycle ∷ past) held = one_more_least (kind past Cycle) _ (counted kind flag base first past held)
counted kind flag base first (Refused ∷ past) held = one_more_least (kind past Refused) _ (counted kind flag base first past held)

-- ---- the entry of the base

module _ (events : List EventCfg) (event : ℕ) where
  -- An entry of the event that fits.
  abbrev pub IsOwn : EntryState → Type 0
  IsOwn entry = IsEntryOf events entry × (entry.event ≡ event)

  found_cond : (entry : EntryState) (held : List EntryState) (b : Bool) → (entry.event == event) ≡ b → IsEntryOf events entry → IfSome (find (is_of_event event) held) IsOwn
      → IfSome (cond b (Some entry) (find (is_of_event event) held)) IsOwn
  found_cond entry held true is fits rest = (fits, eqb-true entry.event event is)
  found_cond entry held false is fits rest = rest

  -- The entry of the event among those that fit, if there is one.
  pub found : (held : List EntryState) → All (IsEntryOf events) held → IfSome (find (is_of_event event) held) IsOwn
  found [] all = tt
  found (entry ∷ held) all = found_cond entry held (entry.event == event) refl (All-head (IsEntryOf events) entry held all) (found held (All-tail (IsEntryOf events) entry held all))

module _ (life : Start) (event : ℕ) (narrow : AreNarrow (event_of life event).dids.items) where
  -- A frame of the event has its width.
  pub own_frame : (sent : List ℕ) → length (frame life event sent) ≡ frame_width (event_of life event).dids.items
  own_frame sent = frame_wide sent (event_of life event).dids.items narrow

  first_added : (flag b : Bool) (past : Past) (rest bytes : List ℕ) → (decided entry_row flag past ≡ true → length rest ≡ frame_width (event_of life event).dids.items)
      → length bytes ≡ frame_width (event_of life event).dids.items → decided entry_row flag (own b Added past) ≡ true
      → length (unwrap_or (if b then Some bytes else None) rest) ≡ frame_width (event_of life event).dids.items
  first_added flag true past rest bytes before is held = is
  first_added flag false past rest bytes before is held = before held

  module _ (base_wide : is_some (base_entry life event) ≡ true → length (base_first life event) ≡ frame_width (event_of life event).dids.items) where
    -- So has the first frame of its entry.
    pub first_wide : (marks : Trace) → has_entry life event marks ≡ true → length (decided (first_row life event) (base_first life event) marks) ≡ frame_width (event_of life event).dids.items
    first_wide [] held = base_wide held
    first_wide (AllCleared ∷ marks) held = first_wide marks held
    first_wide (Of other Added sent ∷ marks) held =
        first_added (is_some (base_entry life event)) (nat_eq other event) (marks_of event marks) _ (frame life event sent) (first_wide marks) (own_frame sent) held
    first_wide (Of other Failed sent ∷ marks) held = first_wide marks (still Failed tt _ (nat_eq other event) (marks_of event marks) held)
    first_wide (Of other Passed sent ∷ marks) held = first_wide marks (still Passed tt _ (nat_eq other event) (marks_of event marks) held)
    first_wide (Of other Cycle sent ∷ marks) held = first_wide marks (still Cycle tt _ (nat_eq other event) (marks_of event marks) held)
    first_wide (Of other Refused sent ∷ marks) held = first_wide marks (still Refused tt _ (nat_eq other event) (marks_of event marks) held)
    first_wide (Of other Clear sent ∷ marks) held = first_wide marks (still Clear tt _ (nat_eq other event) (marks_of event marks) held)
    first_wide (Of other Aged sent ∷ marks) held = first_wide marks (still Aged tt _ (nat_eq other event) (marks_of event marks) held)
    first_wide (Of other Displaced sent ∷ marks) held = first_wide marks (still Displaced tt _ (nat_eq other event) (marks_of event marks) held)
