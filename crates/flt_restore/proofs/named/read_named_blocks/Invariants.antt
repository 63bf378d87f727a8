use Rattle.std.proofs.Common.{◌≡◌, ℕ, ◌<◌}
use Rattle.flt_nvm.specs.Driver.{driver_of, table_of}
use Rattle.flt_image.specs.Blocks.{bytes_at}
use Rattle.flt_restore.specs.Found.{Reads}
use Rattle.flt_restore.specs.Learning.{IsLearned}
use Rattle.flt_restore.proofs.named.read_named_blocks.Given as goal

abbrev pub invariant-loop-id : goal.invariant-loop-id
invariant-loop-id g l = record {
  learned : (id : ℕ) → id < l.id → IsLearned l.config (driver_of l.fn.nvm) (driver_of l.nvm) l.commit id (bytes_at l.blocks id);
  reads : Reads (driver_of l.fn.nvm) (driver_of l.nvm);
  table : table_of l.nvm ≡ table_of l.fn.nvm;
}
