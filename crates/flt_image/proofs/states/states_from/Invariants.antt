use Rattle.std.proofs.Common.{◌≡◌, length}
use Rattle.flt_image.specs.Taking.{block_states}
use Rattle.flt_image.proofs.states.states_from.Given as goal

abbrev pub invariant-loop-place : goal.invariant-loop-place
invariant-loop-place l = record {
  states : l.states.items ≡ block_states l.bytes l.place;
  size : length l.states.items ≡ l.place;
}
