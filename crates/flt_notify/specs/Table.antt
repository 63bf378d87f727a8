-- What a contract sees of a table of subscribers: their kinds, and the values.
use Rattle.std.specs.Prelude.{◌≡◌, ◌≤◌, true, ℕ, if◌then◌else◌, List, replicate, Option, Some, None, slice_index_or}
use Rattle.flt_model.specs.Start.{Start, History}
use Rattle.flt_notify.specs.Value.{value_after}
use Rattle.flt_notify.specs.declared.table.SubTable.{SubTable}
use Rattle.flt_notify.specs.Rows.{has_kind}
use Rattle.flt_notify.specs.Subscribers.{kinds_of}

-- The kinds that have a subscriber, in the order in which they were added.
abbrev pub kinds_in : {n : ℕ} {F : _} {g : _} → SubTable n F g → List ℕ
kinds_in table = kinds_of table.subscribers

-- The values of the three kinds. That of a kind without a subscriber is seen by nobody.
abbrev pub values_in : {n : ℕ} {F : _} {g : _} → SubTable n F g → List ℕ
values_in table = table.values

-- The value of a kind, where it has a subscriber.
abbrev pub value_of_kind : {n : ℕ} {F : _} {g : _} → SubTable n F g → ℕ → Option ℕ
value_of_kind table kind = if has_kind (kinds_in table) kind then Some (slice_index_or (values_in table) kind 0) else None

-- Each subscriber has the value that the changes of these calls give its kind.
abbrev pub HasValuesOf : {n : ℕ} {F : _} {g : _} → Start → History → SubTable n F g → Type 0
HasValuesOf life past table =
    (kind : ℕ) → kind ≤ 2 → has_kind (kinds_in table) kind ≡ true → value_of_kind table kind ≡ Some (value_after life past kind)

-- Each value is 0.
abbrev pub IsAtZero : {n : ℕ} {F : _} {g : _} → SubTable n F g → Type 0
IsAtZero table = values_in table ≡ replicate 3 0
