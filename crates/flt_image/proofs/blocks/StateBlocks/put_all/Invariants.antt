use Rattle.std.proofs.Common.{◌≡◌, ℕ, ◌<◌, length}
use Rattle.std.specs.Prelude.{IsTrue}
use Rattle.flt_store_model.specs.Layout.{part_of_block, is_used}
use Rattle.flt_store_model.specs.Form.{block_bytes, part_length}
use Rattle.flt_image.specs.Blocks.{bytes_at}
use Rattle.flt_image.proofs.blocks.StateBlocks.put_all.Given as goal

abbrev pub invariant-loop-id : goal.invariant-loop-id
invariant-loop-id l = record {
  bytes : (id : ℕ) → id < l.id → IsTrue (is_used l.config id) → bytes_at l.self id ≡ block_bytes l.state id;
  sizes : (id : ℕ) → id < l.id → IsTrue (is_used l.config id) → length (bytes_at l.self id) ≡ part_length (part_of_block id);
}
