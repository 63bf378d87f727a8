use Rattle.std.proofs.Common.{◌≡◌, ℕ, ◌<◌, ◌≤◌, ◌-◌, length, get_or}
use Rattle.flt_store_model.specs.Successor.{IsNextIndex}
use Rattle.flt_store_model.specs.Layout.{parts}
use Rattle.flt_image.specs.Blocks.{bytes_at}
use Rattle.flt_image.proofs.commit.next_commit.Given as goal

abbrev pub invariant-loop-id : goal.invariant-loop-id
invariant-loop-id l = record {
  size : length l.index ≡ parts;
  blocks : (id : ℕ) → 3 ≤ id → id < l.id → IsNextIndex l.config l.current (bytes_at l.before id) (bytes_at l.after id) id (get_or l.index (id - 3) 0);
}
