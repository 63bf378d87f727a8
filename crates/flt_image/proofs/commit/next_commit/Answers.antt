use Rattle.std.proofs.Common.{ℕ, List, arith, length-set, subst, ◌∙◌}
use Rattle.flt_store_model.specs.Successor.{IsNextIndex}
use Rattle.flt_image.specs.Blocks.{bytes_at}
use Rattle.flt_image.proofs.Indices.{index_more}
use Rattle.flt_image.proofs.commit.next_commit.Goals as goal

pub loop-id-preserved : goal.loop-id-preserved
loop-id-preserved c =
    let config = c.args.config.now in
    let current = c.args.current.now in
    let id = c.loop-id.id in
    let index = c.next_index.result in
    let here = subst (λ (after : List ℕ). IsNextIndex config current (bytes_at c.args.before.now id) after id index) c.get-in-loop-id.ensures
    (subst (λ (before : List ℕ). IsNextIndex config current before c.get-in-loop-id.result.now id index) c.get.ensures c.next_index.ensures) in
    record {
      size = length-set c.loop-id.index _ index ∙ c.loop-id.invariant.size;
      blocks = index_more (λ other index. IsNextIndex config current (bytes_at c.args.before.now other) (bytes_at c.args.after.now other) other index) c.loop-id.index id index
          c.loop-id.invariant.size (omega (arith, c.loop-id.auto.id)) (omega (arith, c.loop-id-test.true)) c.loop-id.invariant.blocks here;
    }
