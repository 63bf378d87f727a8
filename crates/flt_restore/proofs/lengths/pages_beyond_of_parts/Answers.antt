use Rattle.std.proofs.Common.{arith}
use Rattle.flt_nvm.specs.Driver.{driver_of}
use Rattle.flt_restore.proofs.Blocks.{part_pages, no_parts}
use Rattle.flt_restore.proofs.lengths.pages_beyond_of_parts.Goals as goal

pub loop-id-init : goal.loop-id-init
loop-id-init g c = record { pages = no_parts c.args.config.now (driver_of c.args.nvm.now).value; most = omega arith }

pub loop-id-preserved : goal.loop-id-preserved
loop-id-preserved g c = record {
  pages = part_pages c.args.config.now (driver_of c.args.nvm.now).value c.loop-id.id c.loop-id.pages c.pages_beyond_of_part-pages.result (omega (arith, c.loop-id.auto.id)) c.loop-id.invariant.pages c.pages_beyond_of_part-pages.ensures.pages;
  most = omega (arith, c.loop-id.invariant.most, c.pages_beyond_of_part-pages.ensures.most, c.loop-id.auto.id);
}
