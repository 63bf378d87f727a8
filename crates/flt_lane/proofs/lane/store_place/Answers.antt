use Rattle.std.proofs.Common.{ap, sym, ◌∙◌}
use Rattle.std.proofs.lemmas.List.{get_or_default}
use Rattle.flt_lane.specs.Stored.{is_store_lane}
use Rattle.flt_lane.proofs.StorePlaces.{stores_at}
use Rattle.flt_lane.proofs.lane.store_place.Goals as goal

pub returns-then-touches_store-clause-some : goal.returns-then-touches_store-clause-some
returns-then-touches_store-clause-some c =
    let within = c.loop-place-test.true in
    let found = c.index-lanes-place.result in
    stores_at c.args.lanes.now c.loop-place.place c.requires within
    (λ d. ap is_store_lane (get_or_default c.args.lanes.now c.loop-place.place d found within ∙ sym c.index-lanes-place.is) ∙ sym c.touches_store.ensures ∙ c.if-touches_store.true)
