-- What holds of the noted events after every list of marks (this profile; read by ISO 14229-1, service 0x19, sub-functions
-- 0x0B to 0x0E). The notable failures are those that change the test result, or those that confirm.
use Rattle.std.specs.Prelude.{◌≡◌, ◌⊎◌, ◌↔◌, ℕ, Bool, true, false, if◌then◌else◌, [], ◌∷◌, ◌++◌, List, Option, Some, None}
use Rattle.flt_model.specs.Mark.{Row, Past, decided, Trace, Of, marks_of}
use Rattle.flt_model.specs.Mark.Mark.{Failed, Clear}
use Rattle.flt_model.specs.Noted.{Notable, recent, first}

-- A clear, with no failure since.
abbrev pub cleared_row : Row
cleared_row past Failed = Some false
cleared_row past Clear = Some true
cleared_row past _ = None

-- The event was cleared, and did not fail since.
abbrev pub is_cleared : ℕ → Trace → Bool
is_cleared event trace = decided cleared_row false (marks_of event trace)

-- A noted event was not cleared after its note.
abbrev pub NotedIsNotCleared : Type 0
NotedIsNotCleared = (notable : Notable) (base : Option ℕ) (trace : Trace) (event : ℕ) →
    recent notable base trace ≡ Some event → is_cleared event trace ≡ false

-- The same of an event that is noted as the first.
abbrev pub FirstIsNotCleared : Type 0
FirstIsNotCleared = (notable : Notable) (base : Option ℕ) (trace : Trace) (event : ℕ) →
    first notable base trace ≡ Some event → is_cleared event trace ≡ false

-- ---- the most recent one

-- There is a clear among the marks of an event.
abbrev pub has_clear : Past → Bool
has_clear [] = false
has_clear (Clear ∷ past) = true
has_clear (_ ∷ past) = has_clear past

-- The event was cleared.
abbrev pub was_cleared : ℕ → Trace → Bool
was_cleared event trace = has_clear (marks_of event trace)

-- An event that is noted before these marks, if it is not cleared by them.
abbrev pub unless_cleared : Trace → Option ℕ → Option ℕ
unless_cleared later None = None
unless_cleared later (Some event) = if was_cleared event later then None else Some event

-- No failure among the later marks is notable, given those before it.
abbrev pub IsQuiet : Notable → Trace → Trace → Type 0
IsQuiet notable [] earlier = Unit {0}
IsQuiet notable (Of event Failed signals ∷ later) earlier = (notable event (later ++ earlier) ≡ false) × IsQuiet notable later earlier
IsQuiet notable (_ ∷ later) earlier = IsQuiet notable later earlier

-- The most recent event is that of the last notable failure, or none if that event was cleared since.
abbrev pub RecentIsOfLastFailure : Type 0
RecentIsOfLastFailure = (notable : Notable) (base : Option ℕ) (later earlier : Trace) (event : ℕ) (signals : List ℕ) →
    notable event earlier ≡ true → IsQuiet notable later (Of event Failed signals ∷ earlier) →
    recent notable base (later ++ Of event Failed signals ∷ earlier) ≡ unless_cleared later (Some event)

-- Without a notable failure it is that of the base, or none if that event was cleared.
abbrev pub RecentIsOfBase : Type 0
RecentIsOfBase = (notable : Notable) (base : Option ℕ) (trace : Trace) → IsQuiet notable trace [] →
    recent notable base trace ≡ unless_cleared trace base

-- ---- the first one

-- A notable failure of the event that found no other event noted as the first, and after which the event was not cleared.
pub record TakesNote (notable : Notable) (base : Option ℕ) (trace : Trace) (event : ℕ) : Type 0 where
  pub later : Trace
  pub signals : List ℕ
  pub earlier : Trace
  pub is : trace ≡ later ++ Of event Failed signals ∷ earlier
  pub notable_then : notable event earlier ≡ true
  pub none_then : first notable base earlier ≡ None
  pub kept : was_cleared event later ≡ false

-- The event holds the note: it took it, or has it from the base, and was not cleared since.
abbrev pub HoldsNote : Notable → Option ℕ → Trace → ℕ → Type 0
HoldsNote notable base trace event = TakesNote notable base trace event ⊎ ((base ≡ Some event) × (was_cleared event trace ≡ false))

-- An event is noted as the first if and only if it holds the note.
abbrev pub FirstIsHolder : Type 0
FirstIsHolder = (notable : Notable) (base : Option ℕ) (trace : Trace) (event : ℕ) →
    (first notable base trace ≡ Some event) ↔ HoldsNote notable base trace event
