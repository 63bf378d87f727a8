use Rattle.std.proofs.Common.{◌≡◌, ◌+◌, ◌*◌, ◌++◌, map}
use Rattle.flt_script.specs.Load.{load_number, load_lane}
use Rattle.flt_script.proofs.loading.add_lane.Given as goal

abbrev pub invariant-loop-round : goal.invariant-loop-round
invariant-loop-round g l = record {
  list : l.list.items ≡ l.initial.list.items ++ map g.T.OfStep.of (load_lane l.count l.lane (4 * l._round));
  number : l.number ≡ load_number l.count (4 * l._round + l.lane + 1);
}
