use Rattle.std.proofs.Common.{◌≡◌, ℕ, List, sym, subst, ◌∙◌, map, rules}
use Rattle.std.specs.Prelude.{Contains}
use Rattle.std.specs.List.{All}
use Rattle.std.proofs.lemmas.List.{take_all}
use Rattle.std.proofs.lemmas.List.Elements.{All-weaker, All-contains_itself}
use Rattle.std.proofs.lemmas.List.Sorted.{IsNonDecreasingBy-from_sort_by_key, IsPermutation-map, All-permutation, Contains-permutation}
use Rattle.flt_pages.specs.declared.numbers.Row.{Row}
use Rattle.flt_pages.specs.Numbers.{IsRowOf}
use Rattle.flt_pages.proofs.numbers.Numbers.make.Goals as goal

pub invariant_of-result : goal.invariant_of-result
invariant_of-result c =
    let rows = c.loop-index.rows.items in
    let sorted = c.sort_unstable_by_key.new.self.items in
    let given = c.args.given.items in
    let permutation = c.sort_unstable_by_key.ensures.permutation in
    let number : Row → ℕ = λ row. row.number in
    let names : map number rows ≡ given =
    c.loop-index.invariant.names ∙ take_all c.loop-index.index _ c.loop-index-test.false ∙ c.deref-number-items.ensures.value in
    let moved = IsPermutation-map number rows sorted permutation in
    let own = subst (λ (names : List ℕ). All (Contains names) given) (sym names) (All-contains_itself given) in
    record {
      sorted = IsNonDecreasingBy-from_sort_by_key number sorted c.sort_unstable_by_key.ensures.sorted (λ a r q k. search rules);
      named = All-permutation (IsRowOf given) rows sorted permutation (subst (λ (numbers : List ℕ). All (IsRowOf numbers) rows) c.deref-number-items.ensures.value c.loop-index.invariant.rows);
      whole = All-weaker _ _ (λ x. Contains-permutation _ _ x moved) given own;
    }
