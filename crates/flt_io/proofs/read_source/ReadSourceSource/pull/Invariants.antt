use Rattle.std.proofs.Common.{◌≡◌, length}
use Rattle.std.specs.Io.KnownBytes.{Keeps}
use Rattle.flt_io.proofs.read_source.ReadSourceSource.pull.Given as goal

abbrev pub invariant-loop : goal.invariant-loop
invariant-loop g l = record {
  kept : Keeps (g.R.Read.remaining l.fn.self.inner) (g.R.Read.remaining l.self.inner);
  sound : l.self.faults ≡ l.fn.self.faults;
  long : length l.out ≡ length l.fn.out;
}
