use Rattle.std.proofs.Common.{ℕ, arith, ap, sym, ◌∙◌}
use Rattle.std.specs.Prelude.{sum_by}
use Rattle.std.proofs.lemmas.List.{take_all}
use Rattle.std.proofs.lemmas.List.Sums.{sum_by_more, sum_by_more_le}
use Rattle.flt_step.specs.declared.step.Part.{Part}
use Rattle.flt_step.specs.Part.{part_of}
use Rattle.flt_step.specs.Step.{steps_of_part}
use Rattle.flt_run.proofs.Counted.{sum_mapped}
use Rattle.flt_run.proofs.line.steps_of.Goals as goal

-- How many steps a part has.
abbrev size : Part → ℕ
size part = steps_of_part (part_of part)

pub steps_of_part-count-requires : goal.steps_of_part-count-requires
steps_of_part-count-requires c =
    let most = sum_by_more_le size c.args.parts.now c.loop-part.part-index c.part-item.result c.loop-part-test.true in
    let item = ap size c.part-item.is in
    let all = sum_mapped steps_of_part part_of c.args.parts.now in
    omega (arith, most, item, all, c.requires)

pub overflow_add-count : goal.overflow_add-count
overflow_add-count c =
    let most = sum_by_more_le size c.args.parts.now c.loop-part.part-index c.part-item.result c.loop-part-test.true in
    let item = ap size c.part-item.is in
    let all = sum_mapped steps_of_part part_of c.args.parts.now in
    omega (arith, most, item, all, c.requires, c.loop-part.invariant, c.steps_of_part-count.ensures)

pub loop-part-preserved : goal.loop-part-preserved
loop-part-preserved c =
    let more = sum_by_more size c.args.parts.now c.loop-part.part-index c.part-item.result c.loop-part-test.true in
    let item = ap size c.part-item.is in
    omega (arith, more, item, c.loop-part.invariant, c.steps_of_part-count.ensures)

pub returns : goal.returns
returns c =
    c.loop-part.invariant ∙ ap (sum_by size) (take_all c.loop-part.part-index c.args.parts.now c.loop-part-test.false) ∙ sym (sum_mapped steps_of_part part_of c.args.parts.now)
