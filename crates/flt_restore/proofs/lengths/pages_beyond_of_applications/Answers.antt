use Rattle.std.proofs.Common.{◌+◌, arith}
use Rattle.flt_nvm.specs.Driver.{driver_of}
use Rattle.flt_restore.proofs.Blocks.{application_pages, no_applications}
use Rattle.flt_restore.proofs.Rows.{application_is_single, single_has_place}
use Rattle.flt_restore.proofs.lengths.pages_beyond_of_applications.Goals as goal

pub pages_beyond-pages-requires-clause-place : goal.pages_beyond-pages-requires-clause-place
pages_beyond-pages-requires-clause-place g c = single_has_place (64 + c.loop-block.block) 0 (application_is_single c.loop-block.block (omega (arith, c.loop-block-test.true)))

pub loop-block-init : goal.loop-block-init
loop-block-init g c = record { pages = no_applications c.args.config.now (driver_of c.args.nvm.now).value; most = omega arith }

pub loop-block-preserved : goal.loop-block-preserved
loop-block-preserved g c = record {
  pages = application_pages c.args.config.now (driver_of c.args.nvm.now).value c.loop-block.block c.loop-block.pages c.pages_beyond-pages.result c.loop-block.invariant.pages c.pages_beyond-pages.ensures.pages;
  most = omega (arith, c.loop-block.invariant.most, c.pages_beyond-pages.ensures.most);
}
