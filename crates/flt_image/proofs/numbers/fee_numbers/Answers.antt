use Rattle.std.proofs.Common.{◌≡◌, ℕ, ◌+◌, ◌-◌, ◌*◌, ◌++◌, [], ◌∷◌, List, ◌∙◌, ap, subst, arith}
use Rattle.std.specs.Prelude.{flat_map, map}
use Rattle.std.specs.List.{range_with_len}
use Rattle.flt_store_model.specs.Layout.{first_part, parts, mark_number, first_commit, second_commit, numbers, numbers_per_block, number_of, first_application, applications, both_indices, application_number}
use Rattle.flt_image.proofs.Ranges.{indices_more, applications_more}
use Rattle.flt_image.proofs.numbers.fee_numbers.Goals as goal

pub loop-id-preserved : goal.loop-id-preserved
loop-id-preserved c =
    c.in_ok-push-3.ensures.items ∙ ap (λ (ns : List ℕ). ns ++ (number_of c.loop-id.id 1) ∷ []) c.in_ok-push-2.ensures.items
    ∙ indices_more (mark_number ∷ first_commit ∷ second_commit ∷ []) c.loop-id.made.items c.loop-id.id c.loop-id.auto.id c.loop-id.invariant

pub loop-block-init : goal.loop-block-init
loop-block-init c =
    let end : c.loop-id.id - first_part ≡ parts = omega (arith, c.loop-id.auto.id-end, c.loop-id-test.false) in
    subst (λ (n : ℕ). c.loop-id.made.items ≡ (mark_number ∷ first_commit ∷ second_commit ∷ []) ++ flat_map both_indices (range_with_len first_part n)) end c.loop-id.invariant

pub loop-block-preserved : goal.loop-block-preserved
loop-block-preserved c =
    c.in_ok-push-4.ensures.items ∙ ap (λ (ns : List ℕ). ns ++ ((first_application + c.loop-block.block) * numbers_per_block) ∷ []) c.loop-block.invariant
    ∙ applications_more ((mark_number ∷ first_commit ∷ second_commit ∷ []) ++ flat_map both_indices (range_with_len first_part parts)) c.loop-block.block

pub returns : goal.returns
unfolding numbers
returns c =
    let end : c.loop-block.block ≡ applications = omega (arith, c.loop-block.auto.block-end, c.loop-block-test.false) in
    subst (λ (n : ℕ). c.loop-block.made.items ≡ (mark_number ∷ first_commit ∷ second_commit ∷ []) ++ flat_map both_indices (range_with_len first_part parts) ++ map application_number (range_with_len 0 n)) end c.loop-block.invariant
