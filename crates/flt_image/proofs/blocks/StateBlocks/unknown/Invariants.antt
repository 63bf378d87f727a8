use Rattle.std.proofs.Common.{◌≡◌, ℕ, ◌-◌, [], length, get_or}
use Rattle.flt_image.proofs.blocks.StateBlocks.unknown.Given as goal

abbrev pub invariant-loop-id : goal.invariant-loop-id
invariant-loop-id l = record {
  size : length l.blocks.items ≡ l._id - 3;
  empty : (k : ℕ) → (get_or l.blocks.items k (record { items = [] })).items ≡ [];
}
