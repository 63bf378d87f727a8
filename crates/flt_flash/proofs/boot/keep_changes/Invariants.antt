use Rattle.std.proofs.Common.{◌≡◌, ◌≤◌, ◌<◌, ◌+◌, ℕ, List, [], ◌++◌, length, get_or, vec_capacity}
use Rattle.flt_flash.specs.Changes.{changed_by}
use Rattle.flt_flash.specs.PageArrays.{all_pages}
use Rattle.flt_flash.specs.declared.boot.PageChange.{PageChange}
use Rattle.flt_flash.proofs.boot.keep_changes.Given as goal

abbrev pub invariant-loop-index : goal.invariant-loop-index
invariant-loop-index l = record {
  count : l.last.count ≡ l.initial.last.count;
  kept : (k : ℕ) → k < l.index → get_or (all_pages l.last) k [] ≡ get_or (all_pages l.pages) k [];
  rest : (k : ℕ) → l.index ≤ k → get_or (all_pages l.last) k [] ≡ get_or (all_pages l.initial.last) k [];
  few : length l.changes.items ≤ length l.initial.changes.items + l.index;
  behind : (added : List PageChange) × (l.changes.items ≡ l.initial.changes.items ++ added);
  lead : (blank before after : List (List ℕ)) → length before ≡ l.from
      → changed_by blank l.initial.changes.items ≡ before ++ (all_pages l.initial.last ++ after)
      → changed_by blank l.changes.items ≡ before ++ (all_pages l.last ++ after);
  room : vec_capacity l.initial.changes ≤ vec_capacity l.changes;
}
