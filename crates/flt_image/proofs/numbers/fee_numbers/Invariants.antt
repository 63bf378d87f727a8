use Rattle.std.proofs.Common.{◌≡◌, ◌++◌, ◌-◌, [], ◌∷◌, take}
use Rattle.std.specs.Prelude.{map, flat_map}
use Rattle.std.specs.List.{range_with_len}
use Rattle.flt_store_model.specs.Layout.{first_part, parts, mark_number, first_commit, second_commit, both_indices, application_number}
use Rattle.flt_image.proofs.numbers.fee_numbers.Given as goal

abbrev pub invariant-loop-number : goal.invariant-loop-number
invariant-loop-number l = l.made.items ≡ take l.number-index (mark_number ∷ first_commit ∷ second_commit ∷ [])

abbrev pub invariant-loop-id : goal.invariant-loop-id
invariant-loop-id l = l.made.items ≡ (mark_number ∷ first_commit ∷ second_commit ∷ []) ++ flat_map both_indices (range_with_len first_part (l.id - first_part))

abbrev pub invariant-loop-block : goal.invariant-loop-block
invariant-loop-block l = l.made.items ≡ (mark_number ∷ first_commit ∷ second_commit ∷ []) ++ flat_map both_indices (range_with_len first_part parts) ++ map application_number (range_with_len 0 l.block)
