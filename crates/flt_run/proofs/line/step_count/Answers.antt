use Rattle.std.proofs.Common.{ℕ, arith, ap, sym, ◌∙◌, Global}
use Rattle.std.specs.Prelude.{sum_by, Vec}
use Rattle.std.proofs.lemmas.List.{take_all}
use Rattle.std.proofs.lemmas.List.Sums.{sum_by_more, sum_by_more_le}
use Rattle.flt_step.specs.declared.step.Part.{Part}
use Rattle.flt_step.specs.Part.{parts_of}
use Rattle.flt_step.specs.Step.{steps_of_parts}
use Rattle.flt_run.proofs.Counted.{sum_mapped}
use Rattle.flt_run.proofs.line.step_count.Goals as goal

-- How many steps a life has.
abbrev size : Vec Part Global → ℕ
size life = steps_of_parts (parts_of life.items)

pub steps_of-count-requires : goal.steps_of-count-requires
steps_of-count-requires c =
    let most = sum_by_more_le size c.args.lives.now c.loop-life.life-index c.life-item.result c.loop-life-test.true in
    let item = ap size c.life-item.is in
    let parts = ap (λ p. steps_of_parts (parts_of p)) c.deref.ensures.value in
    let all = sum_mapped steps_of_parts (λ (life : Vec Part Global). parts_of life.items) c.args.lives.now in
    omega (arith, most, item, all, parts, c.requires)

pub overflow_add-count : goal.overflow_add-count
overflow_add-count c =
    let most = sum_by_more_le size c.args.lives.now c.loop-life.life-index c.life-item.result c.loop-life-test.true in
    let item = ap size c.life-item.is in
    let parts = ap (λ p. steps_of_parts (parts_of p)) c.deref.ensures.value in
    let all = sum_mapped steps_of_parts (λ (life : Vec Part Global). parts_of life.items) c.args.lives.now in
    omega (arith, most, item, all, parts, c.requires, c.loop-life.invariant, c.steps_of-count.ensures)

pub loop-life-preserved : goal.loop-life-preserved
loop-life-preserved c =
    let more = sum_by_more size c.args.lives.now c.loop-life.life-index c.life-item.result c.loop-life-test.true in
    let item = ap size c.life-item.is in
    let parts = ap (λ p. steps_of_parts (parts_of p)) c.deref.ensures.value in
    omega (arith, more, item, parts, c.loop-life.invariant, c.steps_of-count.ensures)

pub returns : goal.returns
returns c =
    c.loop-life.invariant ∙ ap (sum_by size) (take_all c.loop-life.life-index c.args.lives.now c.loop-life-test.false) ∙ sym (sum_mapped steps_of_parts (λ (life : Vec Part Global). parts_of life.items) c.args.lives.now)
