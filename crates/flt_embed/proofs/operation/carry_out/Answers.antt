use Rattle.std.proofs.Common.{◌∙◌, ◌+◌, List, drop, sym, ap}
use Rattle.std.proofs.lemmas.List.{at_drop_more, drop_all}
use Rattle.flt_embed.specs.Carried.{carried}
use Rattle.flt_embed.specs.declared.operation.Operation.{Operation}
use Rattle.flt_embed.proofs.operation.carry_out.Goals as goal

pub loop-operation-preserved : goal.loop-operation-preserved
loop-operation-preserved c =
    let pages = c.args.pages in
    let all = c.args.operations.now in
    let at = c.loop-operation.operation-index in
    let image = c.loop-operation.image.items in
    record {
      image = ap (carried pages (drop (at + 1) all)) c.carry.ensures.image
          ∙ sym (at_drop_more (λ (left : List Operation). carried pages left image) all at _ c.loop-operation-test.true) ∙ c.loop-operation.invariant.image;
      size = c.carry.ensures.size ∙ c.loop-operation.invariant.size;
    }

pub returns-clause-image : goal.returns-clause-image
returns-clause-image c =
    let all = c.args.operations.now in
    let image = c.loop-operation.image.items in
    sym (ap (λ (left : List Operation). carried c.args.pages left image) (drop_all c.loop-operation.operation-index all c.loop-operation-test.false)) ∙ c.loop-operation.invariant.image
