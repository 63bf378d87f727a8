-- What bytes are read as: a mark, a commit, and a part of a state, given the parts that were taken before.
use Rattle.std.specs.Prelude.{ℕ, zero, suc, ◌+◌, ◌-◌, ◌*◌, ◌/◌, ◌%◌, ◌^◌, Bool, ◌&&◌, ◌||◌, ◌==◌, nat_lt, nat_le, min, if◌then◌else◌, List, [], ◌∷◌, ◌++◌, length, map, take, drop, replicate, bytes_eq, slice_index, slice_set, slice_range, Option, Some, None}
use Rattle.std.specs.List.{list_all, range_with_len}
use Rattle.std.specs.Int.{from_be_bytes, w16, w32}
use Rattle.flt_config.specs.declared.config.Config.{Config}
use Rattle.flt_config.specs.declared.persist.Persist.{Persist}
use Rattle.flt_config.specs.declared.persist.EventState.{EventState}
use Rattle.flt_config.specs.declared.persist.EntryState.{EntryState}
use Rattle.flt_store_model.specs.declared.mark.Mark.{Mark}
use Rattle.flt_store_model.specs.declared.commit.Commit.{Commit}
use Rattle.flt_store_model.specs.declared.part.Part.{Part}
use Rattle.flt_store_model.specs.declared.part.Part.TheVariants.{Summary, States, Entry}
use Rattle.flt_store_model.specs.Layout.{first_part, parts, later_states_blocks, is_used, index_in}
use Rattle.flt_store_model.specs.Form.{mark_bytes, mark_bytes_1, commit_bytes, commit_bytes_1, part_bytes}
use Rattle.flt_store_model.specs.Fit.{part_fits}

-- The number in two bytes.
abbrev pub word_at : List ℕ → ℕ → ℕ
word_at held at = from_be_bytes w16 (slice_index held at ∷ slice_index held (at + 1) ∷ [])

-- The mark with the numbers in these bytes.
unfoldable pub mark_from : List ℕ → Mark
mark_from held = record { id = word_at held 1; events = word_at held 3; entries = slice_index held 5 }

-- These are bytes of a mark, in one of the two versions.
abbrev pub are_bytes_of_mark : List ℕ → Mark → Bool
are_bytes_of_mark held mark = bytes_eq held (mark_bytes mark) || bytes_eq held (mark_bytes_1 mark)

-- The mark that has these bytes, if there is one.
unfoldable pub mark_in : List ℕ → Option Mark
mark_in held = if are_bytes_of_mark held (mark_from held) && nat_lt (mark_from held).entries 256 then Some (mark_from held) else None

-- The number of a generation, and the indices of its blocks in version 1.
unfoldable pub commit_from_1 : List ℕ → Commit
commit_from_1 held =
    record { generation = from_be_bytes w32 (slice_range held 1 5); index = drop 5 held ++ replicate later_states_blocks 0xFF }

-- The bit of a block in version 2.
abbrev pub bit_in : List ℕ → ℕ → ℕ
bit_in held place = slice_index held (5 + place / 8) / 2 ^ (place % 8) % 2

-- The index of a block by its bit: FF if it is not used.
abbrev pub index_by_bit : Config → List ℕ → ℕ → ℕ
index_by_bit c held id = if is_used c id then bit_in held (id - first_part) else 0xFF

-- The same in version 2.
unfoldable pub commit_from : Config → List ℕ → Commit
commit_from c held = record { generation = from_be_bytes w32 (slice_range held 1 5); index = map (index_by_bit c held) (range_with_len first_part parts) }

-- 0 or 1 for a used block, FF for another.
abbrev pub is_index : Config → ℕ → ℕ → Bool
is_index c id index = if is_used c id then nat_le index 1 else index == 0xFF

-- A commit of this configuration, as a test.
unfoldable pub is_commit : Config → Commit → Bool
is_commit c commit =
    nat_le 1 commit.generation && (length commit.index == parts)
    && list_all (λ id. is_index c id (index_in commit id)) (range_with_len first_part parts)

-- A commit, if it is one of this configuration and has these bytes.
abbrev pub if_commit : Config → List ℕ → List ℕ → Commit → Option Commit
if_commit c held own commit = if bytes_eq held own && is_commit c commit then Some commit else None

-- The commit of this configuration that has these bytes, if there is one; the first byte is the version.
unfoldable pub commit_in : Config → List ℕ → Option Commit
commit_in c held =
    if slice_index held 0 == 1 then if_commit c held (commit_bytes_1 (commit_from_1 held)) (commit_from_1 held)
    else if_commit c held (commit_bytes (commit_from c held)) (commit_from c held)

-- The noted event in two bytes.
abbrev pub note_at : List ℕ → ℕ → Option ℕ
note_at held at = if word_at held at == 0xFFFF then None else Some (word_at held at)

-- An entry whose own block was not taken yet.
abbrev pub untaken_entry : EntryState
untaken_entry = record { event = 0xFFFF; occurrence = 0; first = record { items = [] }; recent = record { items = [] } }

-- A state with the summary in these bytes; its entries are taken later.
unfoldable pub with_summary : List ℕ → Persist → Persist
with_summary held p =
    record p {
      overflow = slice_index held 1 == 1;
      entries = record { items = replicate (min (slice_index held 2) 16) untaken_entry };
      first_failed = note_at held 4;
      first_confirmed = note_at held 6;
      recent_failed = note_at held 8;
      recent_confirmed = note_at held 10;
    }

-- The state of the event at this position of a block.
unfoldable pub state_from : List ℕ → ℕ → EventState
state_from held place =
    record {
      status = slice_index held (4 * place);
      failed = slice_index held (4 * place + 1);
      clean = word_at held (4 * place + 2) % 0x8000;
      lit = nat_le 0x8000 (word_at held (4 * place + 2));
    }

-- The states with those of this many events from this one on as in these bytes.
unfoldable pub with_states : List ℕ → ℕ → ℕ → List EventState → List EventState
with_states held first zero states = states
with_states held first (suc count) states = slice_set (with_states held first count states) (first + count) (state_from held count)

-- The frame of this many bytes from this byte on.
abbrev pub frame_at : List ℕ → ℕ → List ℕ
frame_at held at = take (min (slice_index held 3) 32) (drop at held)

-- The entry in these bytes.
unfoldable pub entry_from : List ℕ → EntryState
entry_from held =
    record {
      event = word_at held 0;
      occurrence = slice_index held 2;
      first = record { items = frame_at held 4 };
      recent = record { items = frame_at held 36 };
    }

-- A state with a part as in these bytes; an entry past the number of entries has no position.
unfoldable pub with_part : Part → List ℕ → Persist → Persist
with_part Summary held p = with_summary held p
with_part (States first) held p = record p { events = record { items = with_states held first 16 p.events.items } }
with_part (Entry place) held p = record p { entries = record { items = slice_set p.entries.items place (entry_from held) } }

-- A state, if a part of it has these bytes and fits together with the rest.
unfoldable pub if_holds : Config → Part → List ℕ → Persist → Option Persist
if_holds c part held p = if bytes_eq held (part_bytes p part) && part_fits c p part then Some p else None

-- The state with a part taken from these bytes, if and only if they are the bytes of such a part and it fits.
abbrev pub taken : Config → Part → List ℕ → Persist → Option Persist
taken c part held p = if_holds c part held (with_part part held p)
