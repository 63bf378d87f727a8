-- Parts of few steps are such as lanes can make.
use Rattle.std.proofs.Common.{inl, inr, ◌≤◌, List, [], ◌∷◌, All, length, arith}
use Rattle.std.specs.Prelude.{sum_by}
use Rattle.std.proofs.lemmas.List.Sums.{sum_by-cons}
use Rattle.std.proofs.lemmas.List.Elements.{All-nil, All-cons, All-head, All-tail}
use Rattle.flt_config.specs.declared.config.Config.{Config}
use Rattle.flt_step.specs.declared.step.Step.{Step}
use Rattle.flt_step.specs.Part.{PartOf}
use Rattle.flt_life_model.specs.Parts.{IsPossibleInLane, IsPossiblePart, steps_in}
use Rattle.flt_lane.specs.Room.{IsLaneFor, IsPartFor}

lanes_for : (c : Config) (lanes : List (List Step)) → All (λ lane. All (IsPossibleInLane c) lane) lanes → sum_by length lanes ≤ 65536 → All (IsLaneFor c) lanes
lanes_for c [] possible few = All-nil (IsLaneFor c)
lanes_for c (lane ∷ lanes) possible few =
    let sum = sum_by-cons (λ (l : List Step). length l) lane lanes in
    All-cons (IsLaneFor c) lane lanes (All-head (λ l. All (IsPossibleInLane c) l) lane lanes possible, omega (arith, sum, few))
    (lanes_for c lanes (All-tail (λ l. All (IsPossibleInLane c) l) lane lanes possible) (omega (arith, sum, few)))

part_for : (c : Config) (part : PartOf Step) → IsPossiblePart c part → steps_in part ≤ 65536 → IsPartFor c part
part_for c (inl step) possible few = possible
part_for c (inr lanes) possible few = (lanes_for c lanes possible.0 few, possible.1)

pub parts_for : (c : Config) (parts : List (PartOf Step)) → All (IsPossiblePart c) parts → sum_by steps_in parts ≤ 65536 → All (IsPartFor c) parts
parts_for c [] possible few = All-nil (IsPartFor c)
parts_for c (part ∷ parts) possible few =
    let sum = sum_by-cons steps_in part parts in
    All-cons (IsPartFor c) part parts (part_for c part (All-head (IsPossiblePart c) part parts possible) (omega (arith, sum, few)))
    (parts_for c parts (All-tail (IsPossiblePart c) part parts possible) (omega (arith, sum, few)))
