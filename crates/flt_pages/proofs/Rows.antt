-- What a search in the index of block numbers finds.
use Rattle.std.proofs.Common.{◌≡◌, ◌≢◌, ◌+◌, ◌<◌, ◌≤◌, inl, inr, ℕ, true, false, List, Option, Some, None, Ok, Err, length, map, get_or, sym, ap, subst, ◌∙◌, arith}
use Rattle.std.specs.Prelude.{◌==◌, Contains, IfSome, IfNone, is_some, nat_lt}
use Rattle.std.specs.Ordering.{nat_cmp, ordering_index}
use Rattle.std.specs.declared.cmp.Ordering.TheVariants.{Equal}
use Rattle.std.specs.List.{list_any}
use Rattle.std.specs.List.Sorted.{IsBinarySearchResult, IsNonDecreasingBy, IsPartitionedBy, IsPartitionPoint}
use Rattle.std.proofs.lemmas.Cmp.{ranked}
use Rattle.std.proofs.lemmas.Bool.Decides.{nat_tests}
use Rattle.std.proofs.lemmas.Bool.{cases_lt}
use Rattle.std.proofs.lemmas.List.{get_or-map, get_or_read, length-map}
use Rattle.std.proofs.lemmas.List.Elements.{All-get_or, All-from_get_or, Contains-get_or}
use Rattle.std.proofs.lemmas.List.Folds.{list_any_at, list_any_none}
use Rattle.std.proofs.lemmas.List.Sorted.{IsNonDecreasingBy-from_default}
use Rattle.flt_pages.specs.declared.numbers.Row.{Row}
use Rattle.flt_pages.specs.Numbers.{IsRowOf, IsIndex}
use Rattle.flt_pages.specs.Next.{IsLeastFrom}

-- A row for places outside a list.
nowhere : Row
nowhere = record { number = 0; index = 0 }

module _ (numbers : List ℕ) (rows : List Row) (index : IsIndex numbers rows) where
  -- The row at a place names a number where that is.
  pub row_at : (at : ℕ) (row : Row) → at < length rows → row ≡ get_or rows at row → IsRowOf numbers row
  row_at at row within is = subst (IsRowOf numbers) (sym is) (All-get_or (IsRowOf numbers) rows at row within index.named)

  -- A search that finds a row gives the index of the block among the numbers.
  pub row_found : (block at : ℕ) (row : Row) → at < length rows → row ≡ get_or rows at row → IsBinarySearchResult (λ r. nat_cmp r.number block) rows (Ok at)
      → (row.index < length numbers) × (get_or numbers row.index 0 ≡ block)
  row_found block at row within is equal =
      let here = row_at at row within is in
      let same : row.number ≡ block = ranked row.number block _ (sym (subst (λ (r : Row). nat_cmp r.number block ≡ Equal) (sym is) (equal row))) in
      (here.within, here.is ∙ same)

  -- Each number has a row.
  has_row : (k : ℕ) → k < length numbers → (at : ℕ) × (at < length rows) × ((get_or rows at nowhere).number ≡ get_or numbers k 0)
  has_row k within =
      let named = All-get_or (Contains (map (λ (row : Row). row.number) rows)) numbers k 0 within index.whole in
      let below : named.0 < length rows = omega (arith, named.1, length-map rows (λ (row : Row). row.number)) in
      (named.0, below, sym (get_or-map (λ (row : Row). row.number) rows named.0 nowhere (get_or numbers k 0) below) ∙ named.2)

  rise : (block : ℕ) → IsNonDecreasingBy (λ row. ordering_index (nat_cmp row.number block)) rows
  rise block = IsNonDecreasingBy-from_default (λ row. ordering_index (nat_cmp row.number block)) rows nowhere (λ i j le within.
      let one = index.sorted i j nowhere le within in
      grind (arith, nat_tests))

  -- A search that finds no row shows that the block is not one of the numbers.
  pub no_row : (block at : ℕ) → IsBinarySearchResult (λ row. nat_cmp row.number block) rows (Err at) → (k : ℕ) → k < length numbers → get_or numbers k 0 ≢ block
  no_row block at parted k within same =
      let named = has_row k within in
      let sides = parted (rise block) in
      elim (cases_lt named.0 at) [
        | inl before ↦ let less : (get_or rows named.0 nowhere).number < block = ranked _ block _ (sym (sides.0 named.0 nowhere (omega arith) before)) in omega (arith, named.2)
        | inr behind ↦ let more : block < (get_or rows named.0 nowhere).number = ranked _ block _ (sym (sides.1 named.0 nowhere behind named.1)) in omega (arith, named.2)
      ]

  partitioned : (from : ℕ) → IsPartitionedBy (λ row. nat_lt row.number from) rows
  partitioned from i j d le within later =
      let rises = index.sorted i j d le within in
      grind (arith, nat_tests)

  -- Where the rows from a number on begin, the row there names the least of them.
  pub next_row : (from at : ℕ) (row : Row) → (IsPartitionedBy (λ row. nat_lt row.number from) rows → IsPartitionPoint (λ row. nat_lt row.number from ≡ true) (λ row. nat_lt row.number from ≡ false) rows at)
      → at < length rows → row ≡ get_or rows at row → IsLeastFrom from numbers (Some row.number)
  next_row from at row parted within is =
      let sides = parted (partitioned from) in
      let here = row_at at row within is in
      let not_below : nat_lt row.number from ≡ false = subst (λ (r : Row). nat_lt r.number from ≡ false) (sym is) (sides.1 at row (omega arith) within) in
      record {
        found = (
          subst (Contains numbers) here.is (Contains-get_or numbers row.index 0 here.within),
          grind (arith, nat_tests),
          λ k below from_on. least k below from_on,
        );
        none = tt;
      }
    where
      least : (k : ℕ) → k < length numbers → from ≤ get_or numbers k 0 → row.number ≤ get_or numbers k 0
      least k below from_on =
          let named = has_row k below in
          let sides = parted (partitioned from) in
          elim (cases_lt named.0 at) [
            | inl before ↦ let less : nat_lt (get_or rows named.0 nowhere).number from ≡ true = sides.0 named.0 nowhere (omega arith) before in grind (arith, nat_tests, named.2)
            | inr behind ↦ let rises = index.sorted at named.0 nowhere behind named.1 in omega (arith, rises, named.2, ap (λ (r : Row). r.number) (get_or_read rows at row within is nowhere))
          ]

  -- Where the row at a place names a number below one, and the next row a number from it on, the rows from it on begin there, and that row
  -- names the least of the numbers.
  pub row_behind : (from at : ℕ) (row next : Row) → at < length rows → row ≡ get_or rows at row → at + 1 < length rows → next ≡ get_or rows (at + 1) next
      → row.number < from → from ≤ next.number → IsLeastFrom from numbers (Some next.number)
  row_behind from at row next within is inside next_is below from_on = next_row from (at + 1) next parted inside next_is
    where
      parted : IsPartitionedBy (λ row. nat_lt row.number from) rows → IsPartitionPoint (λ row. nat_lt row.number from ≡ true) (λ row. nat_lt row.number from ≡ false) rows (at + 1)
      parted _ = (
        λ k d _ before.
            let rises = index.sorted k at d (omega (arith, before)) within in
            let here = ap (λ (r : Row). r.number) (get_or_read rows at row within is d) in
            let less : (get_or rows k d).number < from = omega (arith, rises, here, below) in
            grind (arith, nat_tests),
        λ k d behind short.
            let rises = index.sorted (at + 1) k d behind short in
            let here = ap (λ (r : Row). r.number) (get_or_read rows (at + 1) next inside next_is d) in
            let more : from ≤ (get_or rows k d).number = omega (arith, rises, here, from_on) in
            grind (arith, nat_tests),
      )

  -- Where no row is from a number on, no number is.
  pub no_next_row : (from at : ℕ) → (IsPartitionedBy (λ row. nat_lt row.number from) rows → IsPartitionPoint (λ row. nat_lt row.number from ≡ true) (λ row. nat_lt row.number from ≡ false) rows at)
      → length rows ≤ at → IsLeastFrom from numbers None
  no_next_row from at parted past =
      let sides = parted (partitioned from) in
      record {
        found = tt;
        none = λ k within.
            let named = has_row k within in
            let below : nat_lt (get_or rows named.0 nowhere).number from ≡ true = sides.0 named.0 nowhere (omega arith) (omega (arith, named.1)) in
            grind (arith, nat_tests, named.2);
      }

-- A block is among the numbers where an index of it was found, and not where none was.
pub is_among : (numbers : List ℕ) (block : ℕ) (found : Option ℕ) → IfSome found (λ index. (index < length numbers) × (get_or numbers index 0 ≡ block))
    → IfNone found ((k : ℕ) → k < length numbers → get_or numbers k 0 ≢ block) → is_some found ≡ list_any (λ number. number == block) numbers
is_among numbers block (Some index) here none = sym (list_any_at (λ number. number == block) numbers index 0 here.0 (grind (arith, nat_tests, here.1)))
is_among numbers block None here none = sym (list_any_none (λ number. number == block) numbers (All-from_get_or (λ (number : ℕ). (number == block) ≡ false) numbers 0 (λ k within. let apart = none k within in grind (arith, nat_tests))))
