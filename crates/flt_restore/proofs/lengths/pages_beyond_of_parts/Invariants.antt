use Rattle.std.proofs.Common.{◌≡◌, ◌≤◌, ◌*◌, ◌-◌}
use Rattle.flt_nvm.specs.Driver.{driver_of}
use Rattle.flt_restore.specs.Judging.{beyond_of_parts}
use Rattle.flt_restore.proofs.lengths.pages_beyond_of_parts.Given as goal

abbrev pub invariant-loop-id : goal.invariant-loop-id
invariant-loop-id g l = record {
  pages : l.pages ≡ beyond_of_parts l.config (driver_of l.nvm).value (l.id - 3);
  most : l.pages ≤ 12 * (l.id - 3);
}
