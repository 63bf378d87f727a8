-- The index of a block in the commit after another one, by whether its bytes changed.
use Rattle.std.proofs.Common.{◌≡◌, ◌≢◌, ◌≤◌, ◌<◌, ℕ, true, List, Some, inl, inr, refl, ap, arith}
use Rattle.std.specs.Prelude.{slice_index}
use Rattle.flt_config.specs.declared.persist.Persist.{Persist}
use Rattle.flt_store_model.specs.declared.commit.Commit.{Commit}
use Rattle.flt_store_model.specs.Layout.{is_used, index_in}
use Rattle.flt_store_model.specs.Form.{summary_bytes, entry_bytes, block_bytes}
use Rattle.flt_store_model.specs.Successor.{IsPlaced, IsNext}
use Rattle.flt_store_model.specs.Example.{many}
use Rattle.flt_store_tests.specs.CommitExamples.{once, failed_twice}

-- The bytes of the entry differ at the count of its occurrences.
pub other_entry : block_bytes once 8 ≢ block_bytes failed_twice 8
unfolding entry_bytes
other_entry same = let counts : 1 ≡ 2 = ap (λ (held : List ℕ). slice_index held 2) same in omega (arith, counts)

pub other_entry_back : block_bytes failed_twice 8 ≢ block_bytes once 8
unfolding entry_bytes
other_entry_back same = let counts : 2 ≡ 1 = ap (λ (held : List ℕ). slice_index held 2) same in omega (arith, counts)

-- Those of the summary are the same.
pub same_summary : block_bytes once 3 ≡ block_bytes failed_twice 3
unfolding summary_bytes
same_summary = refl

pub same_summary_back : block_bytes failed_twice 3 ≡ block_bytes once 3
unfolding summary_bytes
same_summary_back = refl

module _ (current next : Commit) (old new : Persist) (is : IsNext many (Some current) (block_bytes old) (block_bytes new) next) where
  module _ (id : ℕ) (low : 3 ≤ id) (high : id < 36) (used : is_used many id ≡ true) where
    placed : IsPlaced (Some current) (block_bytes old id) (block_bytes new id) id (index_in next id)
    placed = (is.blocks id low high).used used

    -- A block whose bytes stayed keeps its index.
    pub stays : block_bytes old id ≡ block_bytes new id → index_in next id ≡ index_in current id
    stays same = elim placed [
      | inl kept ↦ kept.1
      | inr moved ↦ absurd (moved.0 same)
    ]

    -- One whose bytes changed leaves index 0 for 1, and index 1 for 0.
    pub moves_to_1 : block_bytes old id ≢ block_bytes new id → index_in current id ≡ 0 → index_in next id ≡ 1
    moves_to_1 differs at = elim placed [
      | inl kept ↦ absurd (differs kept.0)
      | inr moved ↦ let most = moved.1 in let apart = moved.2 in omega (arith, at, most, apart)
    ]

    pub moves_to_0 : block_bytes old id ≢ block_bytes new id → index_in current id ≡ 1 → index_in next id ≡ 0
    moves_to_0 differs at = elim placed [
      | inl kept ↦ absurd (differs kept.0)
      | inr moved ↦ let most = moved.1 in let apart = moved.2 in omega (arith, at, most, apart)
    ]
