use Rattle.std.proofs.Common.{◌≡◌, ◌-◌, length, Ok}
use Rattle.flt_nvm.specs.Driver.{driver_of, table_of}
use Rattle.flt_store_model.specs.Holding.{parts_read}
use Rattle.flt_restore.specs.Found.{Reads}
use Rattle.flt_restore.proofs.generation.read_parts.Given as goal

abbrev pub invariant-loop-id : goal.invariant-loop-id
invariant-loop-id g l = record {
  told : parts_read l.config (driver_of l.fn.nvm).value l.commit (l.id - 3) ≡ Ok l.out;
  states : length l.out.events.items ≡ length l.config.events.items;
  reads : Reads (driver_of l.fn.nvm) (driver_of l.nvm);
  table : table_of l.nvm ≡ table_of l.fn.nvm;
}
