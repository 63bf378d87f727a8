-- The bytes of the mark, of a commit and of each part of a generation.
use Rattle.std.specs.Prelude.{◌≡◌, ◌⊎◌, ℕ, ◌+◌, ◌-◌, ◌*◌, ◌^◌, ◌≤◌, ◌<◌, ◌==◌, Bool, true, false, List, [], ◌∷◌, ◌++◌, length, map, take, drop, replicate, slice_index, slice_index_or, slice_get, Option, Some, None, IsTrue, IsFalse}
use Rattle.std.specs.List.{concat, range_with_len}
use Rattle.std.specs.Int.{to_be_bytes, w16, w32}
use Rattle.flt_config.specs.declared.config.Config.{Config}
use Rattle.flt_config.specs.declared.persist.Persist.{Persist}
use Rattle.flt_config.specs.declared.persist.EventState.{EventState}
use Rattle.flt_config.specs.declared.persist.EntryState.{EntryState}
use Rattle.flt_config.specs.Durable.{start_state}
use Rattle.flt_store_model.specs.declared.mark.Mark.{Mark}
use Rattle.flt_store_model.specs.declared.commit.Commit.{Commit}
use Rattle.flt_store_model.specs.declared.part.Part.{Part}
use Rattle.flt_store_model.specs.declared.part.Part.TheVariants.{Summary, States, Entry}
use Rattle.flt_store_model.specs.Layout.{first_part, end_part, parts, later_states_id, later_states_blocks, states_per_block, part_of_block, is_used, index_in}

abbrev pub be16 : ℕ → List ℕ
be16 = to_be_bytes w16

abbrev pub be32 : ℕ → List ℕ
be32 = to_be_bytes w32

-- The mark of a configuration.
abbrev pub mark_of : Config → Mark
mark_of c = record { id = c.id; events = length c.events.items; entries = c.memory }

-- The numbers are within their fields.
pub record IsMark (mark : Mark) : Type 0 where
  pub id : mark.id < 2 ^ 16
  pub events : mark.events < 2 ^ 16
  pub entries : mark.entries < 2 ^ 8

-- The version, the configuration, its events, its entries, 00 00.
abbrev pub versioned_mark : ℕ → Mark → List ℕ
versioned_mark version mark = version ∷ be16 mark.id ++ be16 mark.events ++ mark.entries ∷ 0 ∷ 0 ∷ []

-- A mark in version 2, which is written, and in version 1.
unfoldable pub mark_bytes : Mark → List ℕ
mark_bytes mark = versioned_mark 2 mark

unfoldable pub mark_bytes_1 : Mark → List ℕ
mark_bytes_1 mark = versioned_mark 1 mark

-- An index of 0 or 1 for a used block, and FF for another.
pub record IsBlockIndex (c : Config) (id index : ℕ) : Type 0 where
  pub used : IsTrue (is_used c id) → index ≤ 1
  pub unused : IsFalse (is_used c id) → index ≡ 0xFF

-- A commit of this configuration.
pub record IsCommit (c : Config) (commit : Commit) : Type 0 where
  pub least : 1 ≤ commit.generation
  pub most : commit.generation < 2 ^ 32
  pub size : length commit.index ≡ parts
  pub indices : (id : ℕ) → first_part ≤ id → id < end_part → IsBlockIndex c id (index_in commit id)

-- 01 for true, 00 for false.
abbrev pub flag : Bool → ℕ
flag true = 1
flag false = 0

-- 1 for a block that is named at index 1; 0 at index 0, and for a block that is not used.
abbrev pub index_bit : List ℕ → ℕ → ℕ
index_bit index place = flag (slice_index index place == 1)

-- Those of eight blocks from this one on, the first in the lowest bit.
abbrev pub packed : List ℕ → ℕ → ℕ
packed index place =
    index_bit index place + 2 * index_bit index (place + 1) + 4 * index_bit index (place + 2) + 8 * index_bit index (place + 3)
    + 16 * index_bit index (place + 4) + 32 * index_bit index (place + 5) + 64 * index_bit index (place + 6) + 128 * index_bit index (place + 7)

-- A commit in version 2, which is written: the number of the generation, and a bit for each block.
unfoldable pub commit_bytes : Commit → List ℕ
commit_bytes commit =
    2 ∷ be32 commit.generation
    ++ packed commit.index 0 ∷ packed commit.index 8 ∷ packed commit.index 16 ∷ packed commit.index 24 ∷ packed commit.index 32 ∷ []

-- Version 1 has no later blocks of states: the number of the generation, and a byte for the index of each block.
abbrev pub parts_1 : ℕ
parts_1 = later_states_id - first_part

unfoldable pub commit_bytes_1 : Commit → List ℕ
commit_bytes_1 commit = 1 ∷ be32 commit.generation ++ take parts_1 commit.index

-- A commit names no later block of states.
abbrev pub HasNoLater : Commit → Type 0
HasNoLater commit = drop parts_1 commit.index ≡ replicate later_states_blocks 0xFF

-- These are bytes of this commit, in a version that is read.
abbrev pub IsBytesOfCommit : Commit → List ℕ → Type 0
IsBytesOfCommit commit held = (held ≡ commit_bytes commit) ⊎ (HasNoLater commit × (held ≡ commit_bytes_1 commit))

-- These are bytes of this mark, in a version that is read.
abbrev pub IsBytesOfMark : Mark → List ℕ → Type 0
IsBytesOfMark mark held = (held ≡ mark_bytes mark) ⊎ (held ≡ mark_bytes_1 mark)

-- A noted event, or FFFF if there is none.
abbrev pub note_word : Option ℕ → ℕ
note_word None = 0xFFFF
note_word (Some event) = event

abbrev pub note_bytes : Option ℕ → List ℕ
note_bytes note = be16 (note_word note)

-- Version 1, the overflow flag, the number of entries, 00, the noted events, 20 bytes 00.
unfoldable pub summary_bytes : Persist → List ℕ
summary_bytes p =
    1 ∷ flag p.overflow ∷ length p.entries.items ∷ 0
    ∷ note_bytes p.first_failed ++ note_bytes p.first_confirmed ++ note_bytes p.recent_failed ++ note_bytes p.recent_confirmed
    ++ replicate 20 0

-- The status, the failed count, the clean count with its top bit set if the event is lit.
unfoldable pub state_bytes : EventState → List ℕ
state_bytes state = state.status ∷ state.failed ∷ be16 (state.clean + 0x8000 * flag state.lit)

-- The states of this many events from this one on, those past the last in their start state.
unfoldable pub first_states : List EventState → ℕ → ℕ → List ℕ
first_states states first count =
    concat (map (λ place. state_bytes (slice_index_or states (first + place) start_state)) (range_with_len 0 count))

-- Those of one block.
abbrev pub states_bytes : List EventState → ℕ → List ℕ
states_bytes states first = first_states states first states_per_block

-- A frame, padded with 00 to 32 bytes.
abbrev pub padded : List ℕ → List ℕ
padded frame = frame ++ replicate (32 - length frame) 0

-- The event, the occurrence, the length of its frames, the first frame, the recent one.
unfoldable pub entry_bytes : EntryState → List ℕ
entry_bytes entry =
    be16 entry.event ++ entry.occurrence ∷ length entry.first.items ∷ padded entry.first.items ++ padded entry.recent.items

-- FF FF and 66 bytes 00.
unfoldable pub no_entry_bytes : List ℕ
no_entry_bytes = 0xFF ∷ 0xFF ∷ replicate 66 0

-- The entry at a position, if there is one.
abbrev pub place_bytes : Option EntryState → List ℕ
place_bytes None = no_entry_bytes
place_bytes (Some entry) = entry_bytes entry

-- The bytes of a part of a state.
abbrev pub part_bytes : Persist → Part → List ℕ
part_bytes p Summary = summary_bytes p
part_bytes p (States first) = states_bytes p.events.items first
part_bytes p (Entry place) = place_bytes (slice_get p.entries.items place)

-- The bytes of a used block of a state.
abbrev pub block_bytes : Persist → ℕ → List ℕ
block_bytes p id = part_bytes p (part_of_block id)

-- The number of bytes that the mark, the summary, a block of states and an entry have, that a commit may have and has in version 2, and that
-- an application block may have.
abbrev pub mark_length : ℕ
mark_length = 8

abbrev pub commit_length : ℕ
commit_length = 26

abbrev pub commit_length_2 : ℕ
commit_length_2 = 10

abbrev pub summary_length : ℕ
summary_length = 32

abbrev pub states_length : ℕ
states_length = 64

abbrev pub entry_length : ℕ
entry_length = 68

abbrev pub application_length : ℕ
application_length = 32

-- The number of bytes of a part.
abbrev pub part_length : Part → ℕ
part_length Summary = summary_length
part_length (States first) = states_length
part_length (Entry place) = entry_length
