use Rattle.std.proofs.Common.{All, ap, subst, sym, arith}
use Rattle.std.specs.Prelude.{count_by}
use Rattle.std.proofs.lemmas.List.Elements.{All-map}
use Rattle.flt_step.specs.declared.step.Part.{Part}
use Rattle.flt_step.specs.Part.{part_of}
use Rattle.flt_step.specs.Step.{has_store_step}
use Rattle.flt_life_model.specs.Parts.{IsPossibleInLane, IsPossiblePart}
use Rattle.flt_fork.proofs.Blocks.{all_of_map}
use Rattle.flt_life_model.proofs.StoreLanes.{stores_mapped}
use Rattle.flt_life_model.proofs.possible.is_possible_part.Goals as goal

pub returns-then-are_possible_lanes : goal.returns-then-are_possible_lanes
returns-then-are_possible_lanes c =
    let config = c.args.config.now in
    let lanes = c.in-Lanes.lanes.items in
    let possible = subst (λ ls. All (λ lane. All (IsPossibleInLane config) lane.items) ls) c.deref.ensures.value (c.are_possible_lanes.ensures.0 c.if-are_possible_lanes.true) in
    let stores = stores_mapped lanes in
    let same = ap (λ ls. count_by (λ lane. has_store_step lane.items) ls) c.deref-then-are_possible_lanes.ensures.value in (
      λ one. let few = c.share_no_store.ensures.0 one in
          subst (λ (part : Part). IsPossiblePart config (part_of part)) (sym c.in-Lanes.is)
          (All-map (λ lane. All (IsPossibleInLane config) lane) (λ lane. lane.items) lanes possible, omega (arith, stores, same, few)),
      λ part. let few = (subst (λ (part : Part). IsPossiblePart config (part_of part)) c.in-Lanes.is part).1 in
          c.share_no_store.ensures.1 (omega (arith, stores, same, few)),
    )

pub returns-else-are_possible_lanes : goal.returns-else-are_possible_lanes
returns-else-are_possible_lanes c =
    let config = c.args.config.now in
    let impossible = c.if-are_possible_lanes.false in (
      λ yes. absurd (cc (impossible, yes)),
      λ part. c.are_possible_lanes.ensures.1 (subst (λ ls. All (λ lane. All (IsPossibleInLane config) lane.items) ls) (sym c.deref.ensures.value)
          (all_of_map (λ lane. All (IsPossibleInLane config) lane) (λ lane. lane.items) c.in-Lanes.lanes.items
          (subst (λ (part : Part). IsPossiblePart config (part_of part)) c.in-Lanes.is part).0)),
    )
