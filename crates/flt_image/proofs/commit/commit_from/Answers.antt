use Rattle.std.proofs.Common.{◌≡◌, arith, length-set, ◌∙◌}
use Rattle.flt_store_model.specs.Reading.{commit_from, index_by_bit}
use Rattle.flt_image.proofs.Indices.{index_more, all_indices}
use Rattle.flt_image.proofs.commit.commit_from.Goals as goal

pub loop-id-preserved : goal.loop-id-preserved
loop-id-preserved c = record {
  size = length-set c.loop-id.index _ c.index_by_bit.result ∙ c.loop-id.invariant.size;
  read = index_more (λ id index. index ≡ index_by_bit c.args.config.now c.args.bytes.now id) c.loop-id.index c.loop-id.id c.index_by_bit.result c.loop-id.invariant.size
      (omega (arith, c.loop-id.auto.id)) (omega (arith, c.loop-id-test.true)) c.loop-id.invariant.read c.index_by_bit.ensures;
}

pub returns : goal.returns
unfolding commit_from
returns c =
    let index = all_indices (index_by_bit c.args.config.now c.args.bytes.now) c.loop-id.index c.loop-id.invariant.size
    (λ id low high. c.loop-id.invariant.read id low (omega (arith, high, c.loop-id.auto.id-end, c.loop-id-test.false))) in
    λ i. record { generation = c.generation_in.ensures i; index = index i }
