use Rattle.std.proofs.Common.{◌≡◌, ℕ, List, length}
use Rattle.flt_store_model.specs.Reading.{with_states}
use Rattle.flt_image.specs.Taking.{block_states}
use Rattle.flt_image.proofs.states.set_states.Given as goal

abbrev pub invariant-loop-place : goal.invariant-loop-place
invariant-loop-place l = record {
  states : (held : List ℕ) → l.states ≡ block_states held (length l.states) → l.into.items ≡ with_states held l.first l.place l.initial.into.items;
  size : length l.into.items ≡ length l.initial.into.items;
}
