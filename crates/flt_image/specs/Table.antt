-- The table of the blocks of an image.
use Rattle.std.specs.Prelude.{ℕ, List, ◌++◌, map}
use Rattle.std.specs.List.{range_with_len}
use Rattle.flt_nvm.specs.declared.table.Kind.{Kind}
use Rattle.flt_nvm.specs.declared.table.Kind.TheVariants.{Native, Redundant, Dataset}
use Rattle.flt_nvm.specs.declared.table.BlockCfg.{BlockCfg}
use Rattle.flt_store_model.specs.Layout.{mark_id, commit_id, summary_id, first_states_id, states_blocks, first_entry_id, most_entries, later_states_id, later_states_blocks, first_application, applications}
use Rattle.flt_store_model.specs.Form.{mark_length, commit_length, summary_length, states_length, entry_length, application_length}

-- A block of this kind that holds this many bytes.
abbrev pub block_row : Kind → ℕ → ℕ → BlockCfg
block_row kind length id = record { id = id; kind = kind; length = length }

-- This many of them, from this identifier on.
unfoldable pub rows : Kind → ℕ → ℕ → ℕ → List BlockCfg
rows kind length first count = map (block_row kind length) (range_with_len first count)

-- A part is at one of two indices.
abbrev pub part : Kind
part = Dataset 2

-- The mark, the commit, the summary, the first states, the entries, the later states, and the application blocks.
unfoldable pub block_table : List BlockCfg
block_table =
    rows Native mark_length mark_id 1
    ++ rows Redundant commit_length commit_id 1
    ++ rows part summary_length summary_id 1
    ++ rows part states_length first_states_id states_blocks
    ++ rows part entry_length first_entry_id most_entries
    ++ rows part states_length later_states_id later_states_blocks
    ++ rows Native application_length first_application applications
