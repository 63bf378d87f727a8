-- Worked commits: the bits of later blocks, and the indices of the next commit; and records that are too long.
use Rattle.std.specs.Prelude.{◌≡◌, ℕ, List, [], ◌∷◌, ◌++◌, replicate, map, Some, None, Ok}
use Rattle.flt_flash.specs.Content.{Content, bytes}
use Rattle.flt_config.specs.declared.config.Config.{Config}
use Rattle.flt_config.specs.declared.persist.Persist.{Persist}
use Rattle.flt_store_model.specs.declared.commit.Commit.{Commit}
use Rattle.flt_store_model.specs.declared.place.Place.TheVariants.{Block}
use Rattle.flt_store_model.specs.Layout.{index_in}
use Rattle.flt_store_model.specs.Form.{commit_bytes, block_bytes}
use Rattle.flt_store_model.specs.Reading.{commit_in}
use Rattle.flt_store_model.specs.Excess.{own_pages, excess}
use Rattle.flt_store_model.specs.Successor.{IsNext, KeepsIndices}
use Rattle.flt_store_model.specs.Holding.{damaged}
use Rattle.flt_store_model.specs.Example.{small, many, two_byte_event, own_mark, summary, states, Kept, block, holds, judged, AreJudged}
use Rattle.flt_store_model.specs.Examples.{generation_one, first_entry, first_commit, standing, faulty, last_event_failed}
use Rattle.flt_store.specs.Keeping.{HasCommit, KeepsPlaces, StandAtZero}

-- ---- the bits of later blocks

-- A configuration of 256 events: it uses each of the blocks 24 to 35.
abbrev pub most : Config
most = record many { pages = 512; events = record { items = replicate 256 two_byte_event } }

-- A commit of it, by the indices of the blocks 24 to 35. The blocks 3 to 8 are at index 0, and 9 to 23 are not used.
abbrev pub of_later : List ℕ → Commit
of_later later = record { generation = 1; index = replicate 6 0 ++ replicate 15 0xFF ++ later }

-- Its bytes, by the last two of the five that have the bits.
abbrev pub bits_bytes : ℕ → ℕ → List ℕ
bits_bytes fourth fifth = 0x02 ∷ 0x00 ∷ 0x00 ∷ 0x00 ∷ 0x01 ∷ 0x00 ∷ 0x00 ∷ 0x00 ∷ fourth ∷ fifth ∷ []

-- Block 27 alone is at index 1, block 35 alone, and the blocks 28 and 34.
abbrev pub later_commits : List Commit
later_commits =
    of_later (0 ∷ 0 ∷ 0 ∷ 1 ∷ 0 ∷ 0 ∷ 0 ∷ 0 ∷ 0 ∷ 0 ∷ 0 ∷ 0 ∷ [])
    ∷ of_later (0 ∷ 0 ∷ 0 ∷ 0 ∷ 0 ∷ 0 ∷ 0 ∷ 0 ∷ 0 ∷ 0 ∷ 0 ∷ 1 ∷ [])
    ∷ of_later (0 ∷ 0 ∷ 0 ∷ 0 ∷ 1 ∷ 0 ∷ 0 ∷ 0 ∷ 0 ∷ 0 ∷ 1 ∷ 0 ∷ [])
    ∷ []

abbrev pub later_bits : List (List ℕ)
later_bits = bits_bytes 0x01 0x00 ∷ bits_bytes 0x00 0x01 ∷ bits_bytes 0x82 0x00 ∷ []

-- Block 27 has the lowest bit of the fourth byte, and block 35 that of the fifth; no block has another bit of the fifth.
pub record LaterBits : Type 0 where
  pub written : map commit_bytes later_commits ≡ later_bits
  pub read : map (commit_in most) later_bits ≡ map Some later_commits
  pub refused : map (commit_in most) (bits_bytes 0x00 0x02 ∷ bits_bytes 0x00 0x80 ∷ []) ≡ None ∷ None ∷ []

-- ---- the next commit

-- The commit names each of these blocks at this index.
abbrev pub NamesAt : Commit → List (ℕ × ℕ) → Type 0
NamesAt commit [] = Unit {0}
NamesAt commit (row ∷ rows) = (index_in commit row.0 ≡ row.1) × NamesAt commit rows

-- Blocks of the configuration of 65 events: the summary, the states, the entry, and its later states in block 24. It uses neither block 9 nor 25.
-- The first save names each at index 0, whatever was there.
abbrev pub FirstIndices : Type 0
FirstIndices =
    (before after : ℕ → List ℕ) (next : Commit) → IsNext many None before after next
    → (next.generation ≡ 1) × NamesAt next ((3, 0) ∷ (4, 0) ∷ (7, 0) ∷ (8, 0) ∷ (9, 0xFF) ∷ (24, 0) ∷ (25, 0xFF) ∷ [])

-- The state in which event 64 failed once, and the same with an entry that occurred twice: block 8 alone has other bytes.
abbrev pub once : Persist
once = last_event_failed.state

abbrev pub failed_twice : Persist
failed_twice = record once {
  entries = record {
    items = record { event = 64; occurrence = 2; first = record { items = 0x01 ∷ 0x02 ∷ [] }; recent = record { items = 0x01 ∷ 0x02 ∷ [] } } ∷ [];
  };
}

-- A commit of this number by the indices of the blocks 3 to 8 and of block 24.
abbrev pub commit_of_many : ℕ → List ℕ → ℕ → Commit
commit_of_many generation front later = record { generation = generation; index = front ++ replicate 15 0xFF ++ later ∷ replicate 11 0xFF }

-- The blocks 4, 6 and 24 are at index 1, and in the commit after that the entry in block 8 too.
abbrev pub second : Commit
second = commit_of_many 2 (0 ∷ 1 ∷ 0 ∷ 1 ∷ 0 ∷ 0 ∷ []) 1

abbrev pub third : Commit
third = commit_of_many 3 (0 ∷ 1 ∷ 0 ∷ 1 ∷ 0 ∷ 1 ∷ []) 1

-- The next save moves block 8 to index 1 and leaves each other block where it is, and the one after it moves block 8 back.
pub record NextIndices : Type 0 where
  pub moves : (next : Commit) → IsNext many (Some second) (block_bytes once) (block_bytes failed_twice) next
      → (next.generation ≡ 3)
      × NamesAt next ((3, 0) ∷ (4, 1) ∷ (5, 0) ∷ (6, 1) ∷ (7, 0) ∷ (8, 1) ∷ (9, 0xFF) ∷ (24, 1) ∷ (25, 0xFF) ∷ [])
  pub moves_back : (next : Commit) → IsNext many (Some third) (block_bytes failed_twice) (block_bytes once) next
      → (next.generation ≡ 4) × NamesAt next ((3, 0) ∷ (4, 1) ∷ (8, 0) ∷ (24, 1) ∷ [])

-- Blocks of which each holds the commit of this number, by the bytes of bits of the blocks 3 to 10 and 19 to 26.
abbrev pub saved_commit : ℕ → ℕ → ℕ → ℕ → Content
saved_commit generation front later number = bytes (0x02 ∷ 0x00 ∷ 0x00 ∷ 0x00 ∷ generation ∷ front ∷ 0x00 ∷ later ∷ 0x00 ∷ 0x00 ∷ [])

-- Each block whose bytes stayed keeps its index, block 24 as the others do: no commit is allowed that moves one of them alone. After the first save
-- each block is at index 0.
pub record IndicesAreKept : Type 0 where
  pub keeps : (next : Commit) → KeepsIndices many once failed_twice second next → NamesAt next ((3, 0) ∷ (4, 1) ∷ (5, 0) ∷ (6, 1) ∷ (7, 0) ∷ (24, 1) ∷ [])
  pub moved_states : KeepsPlaces many once failed_twice (saved_commit 2 0x0A 0x20) (saved_commit 3 0x2A 0x00) → ⊥
  pub moved_summary : KeepsPlaces many once failed_twice (saved_commit 2 0x0A 0x20) (saved_commit 3 0x2B 0x20) → ⊥
  pub stand_at_zero : (blocks : ℕ → Content) (next : Commit) → HasCommit many blocks next → StandAtZero many blocks
      → NamesAt next ((3, 0) ∷ (4, 0) ∷ (7, 0) ∷ (8, 0) ∷ (24, 0) ∷ [])

-- ---- records that are too long

-- A record of 128 bytes at index 1 of the entry's block: six pages, of which the configuration keeps five.
abbrev pub over_long : Kept
over_long = block 8 1 (bytes (replicate 128 0))

-- Four records under numbers of which it keeps none: 23 pages, and 24 with a byte more in the last one.
abbrev pub foreign : ℕ → List Kept
foreign last = map (λ id. block id 0 (bytes (replicate 128 0))) (9 ∷ 10 ∷ 11 ∷ []) ++ block 12 0 (bytes (replicate last 0)) ∷ []

-- An image of generation 1 with those records.
abbrev pub with_foreign : ℕ → List Kept
with_foreign last = standing own_mark first_commit summary (states 0x2F) first_entry (over_long ∷ foreign last)

-- The configuration needs 40 of its 64 pages. Of a record that is too long the pages beyond its own count, here one: with 23 pages of others the
-- image holds its generation, and with 24 it has no room.
pub record OverLongRecords : Type 0 where
  pub own : map (own_pages small) (8 ∷ 16 ∷ 17 ∷ 24 ∷ 25 ∷ 32 ∷ 33 ∷ 64 ∷ 65 ∷ 66 ∷ 40 ∷ 72 ∷ 512 ∷ [])
      ≡ 3 ∷ 3 ∷ 3 ∷ 3 ∷ 3 ∷ 4 ∷ 4 ∷ 5 ∷ 5 ∷ 0 ∷ 0 ∷ 0 ∷ 0 ∷ []
  pub pages : map (λ last. excess small (holds (with_foreign last))) (96 ∷ 97 ∷ []) ≡ 24 ∷ 25 ∷ []
  pub images : AreJudged small (judged (with_foreign 96) (Ok generation_one) (Ok generation_one) ∷ faulty (with_foreign 97) (damaged (Block 0)) ∷ [])
