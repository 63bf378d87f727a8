use Rattle.std.proofs.Common.{◌≡◌, ◌≤◌, ◌-◌, length}
use Rattle.std.specs.Prelude.{filter}
use Rattle.std.specs.List.{range_with_len}
use Rattle.flt_store_model.specs.Layout.{is_used}
use Rattle.flt_image.proofs.layout.used_ids.Given as goal

abbrev pub invariant-loop-id : goal.invariant-loop-id
invariant-loop-id l = record {
  items : l.ids.items ≡ filter (is_used l.config) (range_with_len 3 (l.id - 3));
  size : length l.ids.items ≤ l.id - 3;
}
