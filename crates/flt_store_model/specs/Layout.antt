-- Which blocks an image has, under which numbers of the driver, and which part of a generation each of them holds.
use Rattle.std.specs.Prelude.{ℕ, ◌+◌, ◌-◌, ◌*◌, ◌/◌, ◌%◌, Bool, true, ◌==◌, ◌&&◌, nat_lt, nat_le, if◌then◌else◌, List, [], ◌∷◌, ◌++◌, length, map, filter, flat_map, slice_index}
use Rattle.std.specs.List.{range_with_len}
use Rattle.flt_config.specs.declared.config.Config.{Config}
use Rattle.flt_store_model.specs.declared.commit.Commit.{Commit}
use Rattle.flt_store_model.specs.declared.part.Part.{Part}
use Rattle.flt_store_model.specs.declared.part.Part.TheVariants.{Summary, States, Entry}

-- The identifiers: the mark, the commit, then the parts of a generation from the first up to the end, and the application blocks.
abbrev pub mark_id : ℕ
mark_id = 1

abbrev pub commit_id : ℕ
commit_id = 2

abbrev pub first_part : ℕ
first_part = 3

-- Among the parts: the summary, then the first blocks of states, the entries, and the later blocks of states.
abbrev pub summary_id : ℕ
summary_id = 3

abbrev pub first_states_id : ℕ
first_states_id = 4

abbrev pub states_blocks : ℕ
states_blocks = 4

abbrev pub first_entry_id : ℕ
first_entry_id = 8

abbrev pub most_entries : ℕ
most_entries = 16

abbrev pub later_states_id : ℕ
later_states_id = first_entry_id + most_entries

abbrev pub later_states_blocks : ℕ
later_states_blocks = 12

-- The identifier after the last part's, and the number of parts.
abbrev pub end_part : ℕ
end_part = later_states_id + later_states_blocks

abbrev pub parts : ℕ
parts = end_part - first_part

-- The number of events whose states are in one block, and the first event of the later blocks.
abbrev pub states_per_block : ℕ
states_per_block = 16

abbrev pub first_later_event : ℕ
first_later_event = states_per_block * states_blocks

abbrev pub first_application : ℕ
first_application = 64

abbrev pub applications : ℕ
applications = 40

-- How many of the driver's numbers belong to a block.
abbrev pub numbers_per_block : ℕ
numbers_per_block = 8

-- The driver's number of a block's copy or index.
abbrev pub number_of : ℕ → ℕ → ℕ
number_of id index = id * numbers_per_block + index

-- The block and the index of a number.
abbrev pub id_of : ℕ → ℕ
id_of number = number / numbers_per_block

abbrev pub index_of : ℕ → ℕ
index_of number = number % numbers_per_block

abbrev pub mark_number : ℕ
mark_number = number_of mark_id 0

abbrev pub first_commit : ℕ
first_commit = number_of commit_id 0

abbrev pub second_commit : ℕ
second_commit = number_of commit_id 1

abbrev pub application_number : ℕ → ℕ
application_number block = number_of (first_application + block) 0

-- The two indices of a part.
abbrev pub both_indices : ℕ → List ℕ
both_indices id = number_of id 0 ∷ number_of id 1 ∷ []

-- All numbers of the driver, in ascending order.
unfoldable pub numbers : List ℕ
numbers =
    (mark_number ∷ first_commit ∷ second_commit ∷ [])
    ++ flat_map both_indices (range_with_len first_part parts)
    ++ map application_number (range_with_len 0 applications)

-- The part that a block holds: the summary, the states of some events, an entry.
abbrev pub part_of_block : ℕ → Part
part_of_block id =
    if id == summary_id then Summary
    else if nat_lt id first_entry_id then States (states_per_block * (id - first_states_id))
    else if nat_lt id later_states_id then Entry (id - first_entry_id)
    else States (first_later_event + states_per_block * (id - later_states_id))

-- A part that each generation of this configuration has.
abbrev pub has_part : Config → Part → Bool
has_part c Summary = true
has_part c (States first) = nat_lt first (length c.events.items)
has_part c (Entry place) = nat_lt place c.memory

-- A block that each generation of this configuration has.
abbrev pub is_used : Config → ℕ → Bool
is_used c id = nat_le first_part id && nat_lt id end_part && has_part c (part_of_block id)

-- Those blocks, in ascending order.
unfoldable pub used_ids : Config → List ℕ
used_ids c = filter (is_used c) (range_with_len first_part parts)

-- The index at which a commit names a block.
abbrev pub index_in : Commit → ℕ → ℕ
index_in commit id = slice_index commit.index (id - first_part)
