use Rattle.std.proofs.Common.{◌≡◌, ℕ, ◌+◌, ◌-◌, ◌++◌, [], ◌∷◌, List, ◌∙◌, ap, subst, arith}
use Rattle.std.specs.Prelude.{filter}
use Rattle.std.specs.List.{range_with_len}
use Rattle.flt_store_model.specs.Layout.{parts, is_used, used_ids}
use Rattle.flt_image.proofs.Ranges.{one_more}
use Rattle.flt_image.proofs.layout.used_ids.Goals as goal

pub loop-id-preserved : goal.loop-id-preserved
loop-id-preserved c =
    let from : 3 + (c.loop-id.id - 3) ≡ c.loop-id.id = omega (arith, c.loop-id.auto.id) in
    let next : c.loop-id.id - 3 + 1 ≡ c.loop-id.id + 1 - 3 = omega (arith, c.loop-id.auto.id) in
    record {
      items = c.push_used.ensures.items
          ∙ ap (λ (ids : List ℕ). ids ++ filter (is_used c.args.config.now) (c.loop-id.id ∷ [])) c.loop-id.invariant.items
          ∙ one_more (is_used c.args.config.now) 3 (c.loop-id.id - 3) c.loop-id.id from
          ∙ ap (λ (n : ℕ). filter (is_used c.args.config.now) (range_with_len 3 n)) next;
      size = omega (arith, c.push_used.ensures.size, c.loop-id.invariant.size, c.loop-id.auto.id);
    }

pub returns : goal.returns
unfolding used_ids
returns c =
    let end : c.loop-id.id - 3 ≡ parts = omega (arith, c.loop-id.auto.id-end, c.loop-id-test.false) in
    subst (λ (n : ℕ). c.loop-id.ids.items ≡ filter (is_used c.args.config.now) (range_with_len 3 n)) end c.loop-id.invariant.items
