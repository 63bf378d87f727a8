-- The bytes of the used blocks of a state, by identifier.
use Rattle.std.specs.Prelude.{◌≡◌, ℕ, ◌-◌, List, [], length, slice_index_or, IsTrue}
use Rattle.flt_config.specs.declared.config.Config.{Config}
use Rattle.flt_config.specs.declared.persist.Persist.{Persist}
use Rattle.flt_store_model.specs.Layout.{first_part, part_of_block, is_used}
use Rattle.flt_store_model.specs.Form.{block_bytes, part_length}
use Rattle.flt_image.specs.declared.blocks.TheConstants.{LONGEST}
use Rattle.flt_image.specs.declared.blocks.StateBlocks.{StateBlocks}

-- The most bytes of a block of a state.
abbrev pub longest : ℕ
longest = LONGEST

-- The bytes that are kept of a block.
abbrev pub bytes_at : StateBlocks → ℕ → List ℕ
bytes_at blocks id = (slice_index_or blocks.blocks.items (id - first_part) (record { items = [] })).items

-- These are the bytes of each used block of a state, as many as the block has.
pub record AreBlocksOf (c : Config) (state : Persist) (bytes_of : ℕ → List ℕ) : Type 0 where
  pub bytes : (id : ℕ) → IsTrue (is_used c id) → bytes_of id ≡ block_bytes state id
  pub sizes : (id : ℕ) → IsTrue (is_used c id) → length (bytes_of id) ≡ part_length (part_of_block id)
