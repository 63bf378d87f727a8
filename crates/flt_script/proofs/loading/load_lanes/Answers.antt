use Rattle.std.proofs.Common.{ℕ, ◌∷◌, [], refl, arith}
use Rattle.std.proofs.lemmas.List.{map-append}
use Rattle.std.proofs.lemmas.List.FromFn.{map-range_with_len_more}
use Rattle.flt_script.specs.Load.{load_lane}
use Rattle.flt_script.proofs.InMemory.{Lane}
use Rattle.flt_script.proofs.loading.load_lanes.Goals as goal

pub loop-lane-preserved : goal.loop-lane-preserved
loop-lane-preserved c =
    let number = c.loop-lane.lane in
    let more = map-range_with_len_more (λ (lane : ℕ). load_lane c.args.count lane c.args.count) 0 number number (omega arith) in
    rw (
      c.in_ok-push.ensures.items,
      map-append (λ (lane : Lane). lane.items) c.loop-lane.lanes.items (c.in_ok-load_lane.field-0 ∷ []),
      c.loop-lane.invariant,
      c.in_ok-load_lane.ensures,
      more,
    ) refl
