-- The rows up to the last redundant one say whether a block is redundant.
use Rattle.std.proofs.Common.{◌≡◌, ◌↔◌, ◌==◌, ℕ, zero, suc, Bool, true, false, List, [], ◌∷◌, take, refl, arith}
use Rattle.flt_nvm.specs.declared.table.BlockCfg.{BlockCfg}
use Rattle.flt_nvm.specs.Table.{IsRedundant, NoneFrom}

none_behind : (first : BlockCfg) (rest : List BlockCfg) (from : ℕ) → NoneFrom (suc from) (first ∷ rest) → NoneFrom from rest
none_behind first rest from none place d past there = none (suc place) d (omega arith) (omega arith)

-- Where no row is redundant, no block is.
none_redundant : (rows : List BlockCfg) (id : ℕ) → NoneFrom 0 rows → IsRedundant rows id → ⊥
none_redundant [] id none = λ redundant. redundant
none_redundant (first ∷ rest) id none = by_test (first.id == id) refl (none_redundant rest id (λ place d past there. none (suc place) d (omega arith) (omega arith)))
  where
    by_test : (test : Bool) → (first.id == id) ≡ test → (IsRedundant rest id → ⊥) → IsRedundant (first ∷ rest) id → ⊥
    by_test true is behind redundant = none 0 first (omega arith) (omega arith) (rw is at redundant)
    by_test false is behind redundant = behind (rw is at redundant)

pub front_tells : (rows : List BlockCfg) (from id : ℕ) → NoneFrom from rows → IsRedundant rows id ↔ IsRedundant (take from rows) id
front_tells [] zero id none = (λ redundant. redundant, λ redundant. redundant)
front_tells [] (suc from) id none = (λ redundant. redundant, λ redundant. redundant)
front_tells (first ∷ rest) zero id none = (λ redundant. absurd (none_redundant (first ∷ rest) id none redundant), λ redundant. absurd redundant)
front_tells (first ∷ rest) (suc from) id none = by_test (first.id == id) refl (front_tells rest from id (none_behind first rest from none))
  where
    by_test : (test : Bool) → (first.id == id) ≡ test → IsRedundant rest id ↔ IsRedundant (take from rest) id → IsRedundant (first ∷ rest) id ↔ IsRedundant (first ∷ take from rest) id
    by_test true is behind = rw is (λ redundant. redundant, λ redundant. redundant)
    by_test false is behind = rw is behind
