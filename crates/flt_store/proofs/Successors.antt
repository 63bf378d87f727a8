-- What the next commit names, and which blocks are written for it.
use Rattle.std.proofs.Common.{◌≡◌, ⊎_elim, ℕ, ◌+◌, ◌<◌, ◌≤◌, ◌^◌, ◌==◌, false, List, length, Option, Some, None, sym, ◌∙◌, ap, arith}
use Rattle.std.specs.Prelude.{IsTrue, IfSome, ◌≢◌}
use Rattle.std.proofs.lemmas.Bool.{and_parts, eqb-true, eqb-false, not-true, not-false}
use Rattle.flt_config.specs.declared.config.Config.{Config}
use Rattle.flt_config.specs.declared.persist.Persist.{Persist}
use Rattle.flt_store_model.specs.declared.commit.Commit.{Commit}
use Rattle.flt_store_model.specs.declared.part.Part.{Part}
use Rattle.flt_store_model.specs.declared.part.Part.TheVariants.{Summary, States, Entry}
use Rattle.flt_store_model.specs.Layout.{is_used, index_in, part_of_block}
use Rattle.flt_store_model.specs.Form.{IsCommit, block_bytes, part_length}
use Rattle.flt_store_model.specs.Successor.{number_in, IsPlaced, IsNext, is_moved, is_written, WritesWithin}
use Rattle.flt_store_model.proofs.Pages.{used_range}
use Rattle.flt_image.specs.Blocks.{AreBlocksOf}
use Rattle.flt_store.specs.Known.{MayKnow}

-- Another index than that of the commit.
abbrev pub Apart : Option Commit → Commit → ℕ → Type 0
Apart None next id = Unit {0}
Apart (Some commit) next id = index_in commit id ≢ index_in next id

pub apart_of : (current : Option Commit) (next : Commit) (id : ℕ) → IsTrue (is_moved current next id) → Apart current next id
apart_of None next id moved = tt
apart_of (Some commit) next id moved = eqb-false (index_in commit id) (index_in next id) (not-true (index_in commit id == index_in next id) moved)

same_index : (commit next : Commit) (id : ℕ) → is_moved (Some commit) next id ≡ false → index_in commit id ≡ index_in next id
same_index commit next id still = eqb-true (index_in commit id) (index_in next id) (not-false (index_in commit id == index_in next id) still)

placed_small : (current : Option Commit) (before after : List ℕ) (id index : ℕ) → IfSome current (λ commit. index_in commit id ≤ 1) → IsPlaced current before after id index → index ≤ 1
placed_small None before after id index small placed = omega (arith, placed)
placed_small (Some commit) before after id index small placed = ⊎_elim (λ stays. (let same = stays.1 in omega (arith, small, same))) (λ moves. moves.1) placed

pub some_length : (part : Part) → 1 ≤ part_length part
some_length Summary = omega arith
some_length (States first) = omega arith
some_length (Entry place) = omega arith

module _ (c : Config) where
  pub used_of : (current : Option Commit) (next : Commit) (id : ℕ) → IsTrue (is_written c current next id) → IsTrue (is_used c id)
  used_of current next id written = (and_parts (is_used c id) (is_moved current next id) written).0

  pub moved_of : (current : Option Commit) (next : Commit) (id : ℕ) → IsTrue (is_written c current next id) → Apart current next id
  moved_of current next id written = apart_of current next id (and_parts (is_used c id) (is_moved current next id) written).1

  pub small_index : (commit : Commit) → IsCommit c commit → (id : ℕ) → IsTrue (is_used c id) → index_in commit id ≤ 1
  small_index commit form id used = let range = used_range c id used in (form.indices id range.0 range.1).used used

  small_in : (current : Option Commit) → IfSome current (IsCommit c) → (id : ℕ) → IsTrue (is_used c id) → IfSome current (λ commit. index_in commit id ≤ 1)
  small_in None form id used = tt
  small_in (Some commit) form id used = small_index commit form id used

  module _ (current : Option Commit) (kept bytes_of : ℕ → List ℕ) (next : Commit) (follows : IsNext c current kept bytes_of next) where
    -- The next commit is of the form.
    pub next_form : number_in current + 1 < 2 ^ 32 → IfSome current (IsCommit c) → IsCommit c next
    next_form most form = record {
      least = (let number = follows.number in omega (arith, number));
      most = (let number = follows.number in omega (arith, number, most));
      size = follows.size;
      indices = λ id low high. record {
        used = λ used. placed_small current (kept id) (bytes_of id) id (index_in next id) (small_in current form id used) ((follows.blocks id low high).used used);
        unused = (follows.blocks id low high).unused;
      };
    }

    pub writes_within : WritesWithin c current next
    writes_within id written =
        let used = used_of current next id written in
        let range = used_range c id used in
        within current ((follows.blocks id range.0 range.1).used used) (moved_of current next id written)
      where
        within : (current : Option Commit) → IsPlaced current (kept id) (bytes_of id) id (index_in next id) → Apart current next id → index_in next id ≤ 1
        within None placed apart = omega (arith, placed)
        within (Some commit) placed apart = ⊎_elim (λ stays. absurd (apart (sym stays.1))) (λ moves. moves.1) placed

-- A block that is not written: the commit names it at the same index, and its bytes stayed.
pub unmoved : (c : Config) (commit next : Commit) (kept bytes_of : ℕ → List ℕ) (old new : Persist) (id : ℕ) → IsTrue (is_used c id) → is_moved (Some commit) next id ≡ false
    → IsPlaced (Some commit) (kept id) (bytes_of id) id (index_in next id) → MayKnow c (Some commit) kept old → AreBlocksOf c new bytes_of
    → (index_in commit id ≡ index_in next id) × (block_bytes old id ≡ block_bytes new id)
unmoved c commit next kept bytes_of old new id used still placed known told = (same, bytes)
  where
    same : index_in commit id ≡ index_in next id
    same = same_index commit next id still

    stayed : kept id ≡ bytes_of id
    stayed = ⊎_elim (λ stays. stays.0) (λ moves. absurd (moves.2 same)) placed

    size : length (bytes_of id) ≡ part_length (part_of_block id)
    size = told.sizes id used

    bytes : block_bytes old id ≡ block_bytes new id
    bytes =
        ⊎_elim
        (λ nothing. (let none : length (bytes_of id) ≡ 0 = ap (λ (raw : List ℕ). length raw) (sym stayed ∙ nothing) in let some = some_length (part_of_block id) in absurd (omega (arith, size, none, some))))
        (λ knows. sym knows ∙ stayed ∙ told.bytes id used)
        (known id used)
