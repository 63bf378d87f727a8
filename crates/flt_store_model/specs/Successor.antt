-- The commit that follows another, and the blocks that are written for it.
use Rattle.std.specs.Prelude.{◌≡◌, ◌≢◌, ◌⊎◌, ℕ, ◌+◌, ◌<◌, ◌≤◌, Bool, true, not, ◌==◌, ◌&&◌, if◌then◌else◌, Option, Some, None, List, length, bytes_eq, sum_by, IsTrue, IsFalse}
use Rattle.std.specs.List.{range_with_len}
use Rattle.flt_flash.specs.Content.{Content, missing, bytes}
use Rattle.flt_flash.specs.Blocks.{record_pages}
use Rattle.flt_config.specs.declared.config.Config.{Config}
use Rattle.flt_config.specs.declared.persist.Persist.{Persist}
use Rattle.flt_store_model.specs.declared.commit.Commit.{Commit}
use Rattle.flt_store_model.specs.Layout.{first_part, end_part, parts, number_of, is_used, index_in}
use Rattle.flt_store_model.specs.Form.{commit_bytes, block_bytes, IsBytesOfCommit}

-- What is written as a commit; nothing before the first save.
abbrev pub commit_content : Option Commit → Content
commit_content None = missing
commit_content (Some commit) = bytes (commit_bytes commit)

-- A commit copy has bytes of this commit, in a version that is read; no copy is written before the first save.
abbrev pub IsContentOf : Option Commit → Content → Type 0
IsContentOf None content = content ≡ missing
IsContentOf (Some commit) content = (held : List ℕ) × (content ≡ bytes held) × IsBytesOfCommit commit held

-- The number of the generation that a commit names; without a commit it is the first, of number 0.
abbrev pub number_in : Option Commit → ℕ
number_in None = 0
number_in (Some commit) = commit.generation

-- The index at which the next commit names a used block: 0 if there was no commit; else its current index if its bytes did not change,
-- and the other one if they did.
abbrev pub IsPlaced : Option Commit → List ℕ → List ℕ → ℕ → ℕ → Type 0
IsPlaced None before after id index = index ≡ 0
IsPlaced (Some commit) before after id index =
    ((before ≡ after) × (index ≡ index_in commit id)) ⊎ ((before ≢ after) × (index ≤ 1) × (index_in commit id ≢ index))

-- What the next commit has for a block, by its bytes before and after: its index, or FF for one that is not used.
pub record IsNextIndex (c : Config) (current : Option Commit) (before after : List ℕ) (id index : ℕ) : Type 0 where
  pub used : IsTrue (is_used c id) → IsPlaced current before after id index
  pub unused : IsFalse (is_used c id) → index ≡ 0xFF

-- The next commit has the next number, and such an index for each block; the bytes of the two generations are given by identifier.
pub record IsNext (c : Config) (current : Option Commit) (before after : ℕ → List ℕ) (next : Commit) : Type 0 where
  pub number : next.generation ≡ number_in current + 1
  pub size : length next.index ≡ parts
  pub blocks : (id : ℕ) → first_part ≤ id → id < end_part → IsNextIndex c current (before id) (after id) id (index_in next id)

-- The next commit names the block at another index than this one, or there is none before: it is written.
abbrev pub is_moved : Option Commit → Commit → ℕ → Bool
is_moved None next id = true
is_moved (Some commit) next id = not (index_in commit id == index_in next id)

-- The blocks that are written.
abbrev pub is_written : Config → Option Commit → Commit → ℕ → Bool
is_written c current next id = is_used c id && is_moved current next id

-- What is written is at index 0 or 1.
abbrev pub WritesWithin : Config → Option Commit → Commit → Type 0
WritesWithin c current next = (id : ℕ) → IsTrue (is_written c current next id) → index_in next id ≤ 1

-- The number is that of a used block that is written, at the index at which the next commit names it, and holds its bytes.
pub record IsNewBlock (c : Config) (current : Option Commit) (next : Commit) (after : ℕ → List ℕ) (id number : ℕ) (content : Content) : Type 0 where
  pub written : IsTrue (is_written c current next id)
  pub small : index_in next id ≤ 1
  pub place : number ≡ number_of id (index_in next id)
  pub is : content ≡ bytes (after id)

-- Each number holds what it held, except that this block may have been written.
abbrev pub OnlyNewBlock : Config → Option Commit → Commit → (ℕ → List ℕ) → ℕ → (ℕ → Content) → (ℕ → Content) → Type 0
OnlyNewBlock c current next bytes_of id before after =
    (number : ℕ) → (after number ≡ before number) ⊎ IsNewBlock c current next bytes_of id number (after number)

-- Each number holds what it held, or is one of the blocks that are written for the next commit.
abbrev pub OnlyNewBlocks : Config → Option Commit → Commit → (ℕ → List ℕ) → (ℕ → Content) → (ℕ → Content) → Type 0
OnlyNewBlocks c current next bytes_of before after =
    (number : ℕ) → (after number ≡ before number) ⊎ ((id : ℕ) × IsNewBlock c current next bytes_of id number (after number))

-- Each used block whose bytes did not change is at the index at which it was.
abbrev pub KeepsIndices : Config → Persist → Persist → Commit → Commit → Type 0
KeepsIndices c before after current next =
    (id : ℕ) → IsTrue (is_used c id) → block_bytes before id ≡ block_bytes after id → index_in next id ≡ index_in current id

-- The pages of the record of a used block whose bytes changed.
abbrev pub pages_changed : Config → (ℕ → List ℕ) → (ℕ → List ℕ) → ℕ → ℕ
pages_changed c before after id = if is_used c id && not (bytes_eq (before id) (after id)) then record_pages (length (after id)) else 0

-- The pages of all those records.
unfoldable pub changed_pages : Config → (ℕ → List ℕ) → (ℕ → List ℕ) → ℕ
changed_pages c before after = sum_by (pages_changed c before after) (range_with_len first_part parts)
