use Rattle.std.proofs.Common.{◌≡◌, ℕ, ◌<◌, ◌≤◌, ◌-◌, length}
use Rattle.std.specs.Prelude.{slice_index_or}
use Rattle.flt_store_model.specs.Layout.{parts}
use Rattle.flt_store_model.specs.Reading.{index_by_bit}
use Rattle.flt_image.proofs.commit.commit_from.Given as goal

abbrev pub invariant-loop-id : goal.invariant-loop-id
invariant-loop-id l = record {
  size : length l.index ≡ parts;
  read : (id : ℕ) → 3 ≤ id → id < l.id → slice_index_or l.index (id - 3) 0 ≡ index_by_bit l.config l.bytes id;
}
