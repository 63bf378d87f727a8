-- One page more of an erase that tears.
use Rattle.std.proofs.Common.{◌≡◌, ℕ, ◌+◌, ◌<◌, ◌≤◌, List, [], length, get_or, set, get_or-set_same, get_or-set_other, sym, ◌∙◌, subst, below_more, arith}
use Rattle.flt_flash.specs.declared.arm.Pattern.{Pattern}
use Rattle.flt_flash.specs.Image.{blank_page}
use Rattle.flt_flash.specs.Arms.{IsTornPageBy, erase_tail}

module _ (pattern : Pattern) (old pages : List (List ℕ)) (at : ℕ) (torn : List ℕ) (within : at < length pages) where
  pub torn_more : ((k : ℕ) → k < at → IsTornPageBy pattern (erase_tail k) (get_or old k []) blank_page (get_or pages k []))
      → ((k : ℕ) → at ≤ k → get_or pages k [] ≡ get_or old k [])
      → IsTornPageBy pattern (erase_tail at) (get_or pages at []) blank_page torn
      → (k : ℕ) → k < at + 1 → IsTornPageBy pattern (erase_tail k) (get_or old k []) blank_page (get_or (set pages at torn) k [])
  torn_more before rest here =
      below_more _ at
      (λ k lt. subst (λ p. IsTornPageBy pattern (erase_tail k) (get_or old k []) blank_page p) (sym (get_or-set_other pages at k torn [] (omega arith))) (before k lt))
      (subst (λ p. IsTornPageBy pattern (erase_tail at) (get_or old at []) blank_page p) (sym (get_or-set_same pages at torn [] within))
      (subst (λ p. IsTornPageBy pattern (erase_tail at) p blank_page torn) (rest at (omega arith)) here))

  pub rest_more : ((k : ℕ) → at ≤ k → get_or pages k [] ≡ get_or old k []) → (k : ℕ) → at + 1 ≤ k → get_or (set pages at torn) k [] ≡ get_or old k []
  rest_more rest k le = get_or-set_other pages at k torn [] (omega arith) ∙ rest k (omega arith)
