use Rattle.std.proofs.Common.{◌≡◌, ◌*◌, length}
use Rattle.flt_store_model.specs.Form.{first_states}
use Rattle.flt_image.proofs.states.put_states.Given as goal

abbrev pub invariant-loop-place : goal.invariant-loop-place
invariant-loop-place l = record {
  size : length l.out.items ≡ 4 * l.place;
  items : l.out.items ≡ first_states l.states l.first l.place;
}
