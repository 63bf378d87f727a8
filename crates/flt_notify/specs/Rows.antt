-- What a contract sees of the rows of a table, and of what their functions answer.
use Rattle.std.specs.Prelude.{◌≡◌, ℕ, suc, Bool, ◌==◌, List, [], ◌∷◌, Option, Some, filter_map, option_map, find, is_some}
use Rattle.std.specs.Borrow.{Bor}
use Rattle.flt_did.specs.Keyed.{filled, has_key}
use Rattle.flt_notify.specs.declared.change.Change.{Change}
use Rattle.flt_notify.specs.declared.row.Row.{Row}

-- It is this kind.
abbrev pub is_same_kind : ℕ → ℕ → Bool
is_same_kind kind other = other == kind

-- The kind is one of these.
abbrev pub has_kind : List ℕ → ℕ → Bool
has_kind kinds kind = is_some (find (is_same_kind kind) kinds)

-- A row without its function.
abbrev pub row_kind : {F : _} {g : _} → Row F g → ℕ
row_kind row = row.kind

-- The kinds of the rows, in the order in which they were added.
abbrev pub rows_kinds : {F : _} {g : _} → List (Option (Row F g)) → List ℕ
rows_kinds rows = filter_map (option_map row_kind) rows

-- The row of a kind, where there is one.
abbrev pub row_of : {F : _} {g : _} → List (Option (Row F g)) → ℕ → Option (Row F g)
row_of rows kind = find (has_key (λ row. row.kind) kind) (filled rows)

-- Where the kind has a subscriber, its function, called with the value and the change, may answer this.
abbrev pub IsAnswerTo : {F : _} {g : _} → List (Option (Row F g)) → ℕ → ℕ → Change → ℕ → Type 0
IsAnswerTo {F} {g} rows kind value change answer =
    (row : Row F g) → row_of rows kind ≡ Some row → (told : Bor Change) × (told.now ≡ change) × g.post row.call (value, (told, tt)) answer

-- The values of the kinds from a number on, before and after a change that was reported to each subscriber.
abbrev pub AreAnswersTo : {F : _} {g : _} → List (Option (Row F g)) → ℕ → List ℕ → Change → List ℕ → Type 0
AreAnswersTo rows kind [] change [] = Unit {0}
AreAnswersTo rows kind (value ∷ values) change (answer ∷ answers) = IsAnswerTo rows kind value change answer × AreAnswersTo rows (suc kind) values change answers
AreAnswersTo rows kind _ change _ = ⊥
