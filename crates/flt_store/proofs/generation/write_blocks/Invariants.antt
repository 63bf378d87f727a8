use Rattle.std.proofs.Common.{◌≡◌, ℕ, ◌<◌, ◌-◌, length}
use Rattle.std.specs.Prelude.{IsTrue, IsFalse}
use Rattle.flt_flash.specs.Content.{bytes}
use Rattle.flt_flash.specs.Calls.{Follows}
use Rattle.flt_nvm.specs.Driver.{driver_of, table_of}
use Rattle.flt_store_model.specs.Layout.{number_of, index_in}
use Rattle.flt_store_model.specs.Successor.{OnlyNewBlocks, is_written}
use Rattle.flt_image.specs.Blocks.{bytes_at}
use Rattle.flt_flash.specs.Blocks.{record_pages}
use Rattle.flt_store.specs.Cause.{IsWithinOwn}
use Rattle.flt_store.specs.Cost.{Spends, written_sum}
use Rattle.flt_store.proofs.generation.write_blocks.Given as goal

abbrev pub invariant-loop-id : goal.invariant-loop-id
invariant-loop-id g l =
    let before = driver_of l.fn.nvm in
    let now = driver_of l.nvm in
    record {
      written : (id : ℕ) → id < l.id → IsTrue (is_written l.config l.current l.next id) → now.value (number_of id (index_in l.next id)) ≡ bytes (bytes_at l.blocks id);
      only : OnlyNewBlocks l.config l.current l.next (bytes_at l.blocks) before.value now.value;
      within : IsWithinOwn l.config before.value now.value;
      spends : (most : ℕ) → IsFalse before.is_stale → Spends most before now
          (written_sum l.config l.current l.next (λ id. record_pages (length (bytes_at l.blocks id))) (l.id - 3)) (written_sum l.config l.current l.next (λ id. most) (l.id - 3));
      fresh : IsFalse before.is_stale → IsFalse now.is_stale;
      keeps_driver : Follows before now;
      table : table_of l.nvm ≡ table_of l.fn.nvm;
    }
