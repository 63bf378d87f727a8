use Rattle.std.proofs.Common.{◌≡◌, ◌≤◌, ◌*◌}
use Rattle.flt_nvm.specs.Driver.{driver_of}
use Rattle.flt_restore.specs.Judging.{beyond_of_applications}
use Rattle.flt_restore.proofs.lengths.pages_beyond_of_applications.Given as goal

abbrev pub invariant-loop-block : goal.invariant-loop-block
invariant-loop-block g l = record {
  pages : l.pages ≡ beyond_of_applications l.config (driver_of l.nvm).value l.block;
  most : l.pages ≤ 6 * l.block;
}
