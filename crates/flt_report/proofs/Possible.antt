-- The parts of a script are possible, and few.
use Rattle.std.proofs.Common.{◌≡◌, ℕ, ◌+◌, ◌≤◌, leb, arith, true, List, [], ◌∷◌, map, length, refl, ap, inl, inr}
use Rattle.std.specs.Prelude.{Vec, All, sum_by, ◌&&◌}
use Rattle.std.specs.List.{list_all}
use Rattle.std.proofs.lemmas.Bool.{and_parts, leb-true}
use Rattle.std.proofs.lemmas.List.Elements.{All-nil, All-cons}
use Rattle.std.proofs.lemmas.List.Sums.{sum_by-cons}
use Rattle.flt_config.specs.declared.config.Config.{Config}
use Rattle.flt_step.specs.Part.{PartOf, part_of, parts_of}
use Rattle.flt_step.specs.Step.{is_step_in, is_lane_step, is_lane_in, is_part_in, are_parts_in, arms_of_parts, arms_of_part, lanes_of_parts, lanes_of_part, store_lanes}
use Rattle.flt_step.specs.Step as script
use Rattle.flt_step.specs.declared.step.Part.{Part}
use Rattle.flt_step.specs.declared.step.Part.TheVariants.{One, Lanes}
use Rattle.flt_step.specs.declared.step.Step.{Step}
use Rattle.flt_step.specs.declared.step.Step.TheVariants as steps
use Rattle.flt_life_model.specs.Actions.{action_of, arm_count}
use Rattle.flt_life_model.proofs.PossibleSteps.{possible_step}
use Rattle.flt_life_model.specs.Parts.{IsPossiblePart, IsPossibleInLane, arms_in, widths}

possible_lane : (config : Config) (lane : List Step) → is_lane_in config lane ≡ true → All (IsPossibleInLane config) lane
possible_lane config [] all = All-nil (IsPossibleInLane config)
possible_lane config (step ∷ rest) all =
    let both = and_parts (is_step_in config step && is_lane_step step) (is_lane_in config rest) all in
    let this = and_parts (is_step_in config step) (is_lane_step step) both.0 in
    All-cons (IsPossibleInLane config) step rest (this.1, possible_step config step this.0) (possible_lane config rest both.1)

possible_lanes : {A : Type 0} (config : Config) (lanes : List (Vec Step A)) → list_all (is_lane_in config) (map (λ (lane : Vec Step A). lane.items) lanes) ≡ true
    → All (λ (lane : List Step). All (IsPossibleInLane config) lane) (map (λ (lane : Vec Step A). lane.items) lanes)
possible_lanes config [] all = All-nil _
possible_lanes {A = A} config (lane ∷ rest) all =
    let steps = map (λ (lane : Vec Step A). lane.items) rest in
    let both = and_parts (is_lane_in config lane.items) (list_all (is_lane_in config) steps) all in
    All-cons (λ (lane : List Step). All (IsPossibleInLane config) lane) lane.items steps
    (possible_lane config lane.items both.0) (possible_lanes config rest both.1)

possible_part : (config : Config) (part : Part) → is_part_in config (part_of part) ≡ true → IsPossiblePart config (part_of part)
possible_part config (One step) is = possible_step config step is
possible_part config (Lanes lanes) is =
    let steps = map (λ lane. lane.items) lanes.items in
    let all = and_parts (leb 1 (length steps) && leb (length steps) 8 && list_all (is_lane_in config) steps) (leb (store_lanes steps) 1) is in
    let each = and_parts (leb 1 (length steps) && leb (length steps) 8) (list_all (is_lane_in config) steps) all.0 in
    (possible_lanes config lanes.items each.1, leb-true (store_lanes steps) 1 all.1)

possible_parts : (config : Config) (parts : List Part) → are_parts_in config (parts_of parts) ≡ true → All (IsPossiblePart config) (parts_of parts)
possible_parts config [] all = All-nil (IsPossiblePart config)
possible_parts config (part ∷ rest) all =
    let both = and_parts (is_part_in config (part_of part)) (are_parts_in config (parts_of rest)) all in
    All-cons (IsPossiblePart config) (part_of part) (parts_of rest) (possible_part config part both.0)
    (possible_parts config rest both.1)

pub possible_lives : {A : Type 0} (config : Config) (lives : List (Vec Part A)) → list_all (λ (life : Vec Part A). are_parts_in config (parts_of life.items)) lives ≡ true
    → All (λ (life : Vec Part A). All (IsPossiblePart config) (parts_of life.items)) lives
possible_lives config [] all = All-nil _
possible_lives {A = A} config (life ∷ rest) all =
    let both = and_parts (are_parts_in config (parts_of life.items)) (list_all (λ (life : Vec Part A). are_parts_in config (parts_of life.items)) rest) all in
    All-cons (λ (life : Vec Part A). All (IsPossiblePart config) (parts_of life.items)) life rest
    (possible_parts config life.items both.0) (possible_lives config rest both.1)

-- ---- arms

same_arm : (step : Step) → arm_count (action_of step) ≡ script.arms_of_step step
same_arm (steps.Report event report) = refl
same_arm (steps.Show event) = refl
same_arm (steps.Cycle cycle) = refl
same_arm (steps.Tick ticks) = refl
same_arm (steps.Signal index value) = refl
same_arm (steps.Enable condition fulfilled) = refl
same_arm (steps.Request tester bytes) = refl
same_arm steps.Save = refl
same_arm (steps.Post urgent block bytes) = refl
same_arm steps.Drain = refl
same_arm (steps.Get block) = refl
same_arm (steps.Ask block) = refl
same_arm (steps.Arming arm) = refl

same_part : (part : PartOf Step) → arms_in part ≡ arms_of_part part
same_part (inl step) = same_arm step
same_part (inr lanes) = refl

same_arms : (parts : List (PartOf Step)) → sum_by arms_in parts ≡ arms_of_parts parts
same_arms parts = ap (λ (count : PartOf Step → ℕ). sum_by count parts) (λ i part. same_part part i)

pub all_arms_same : {A : Type 0} (lives : List (Vec Part A)) → sum_by (λ (life : Vec Part A). sum_by arms_in (parts_of life.items)) lives ≡ sum_by (λ (life : Vec Part A). arms_of_parts (parts_of life.items)) lives
all_arms_same {A = A} lives = ap (λ (count : Vec Part A → ℕ). sum_by count lives) (λ i life. same_arms (parts_of life.items) i)

-- ---- lanes

same_width : (part : PartOf Step) (parts : List (PartOf Step)) → lanes_of_parts (part ∷ parts) ≡ lanes_of_part part + lanes_of_parts parts
same_width part parts = sum_by-cons lanes_of_part part parts

pub widths_same : (parts : List (PartOf Step)) → widths parts ≡ lanes_of_parts parts
widths_same [] = refl
widths_same (inl step ∷ rest) =
    let one = same_width (inl step) rest in
    let those = widths_same rest in
    omega (arith, one, those)
widths_same (inr lanes ∷ rest) =
    let one = same_width (inr lanes) rest in
    let those = widths_same rest in
    omega (arith, one, those)

pub all_widths_same : {A : Type 0} (lives : List (Vec Part A))
    → sum_by (λ (life : Vec Part A). length life.items + widths (parts_of life.items)) lives ≡ sum_by (λ (life : Vec Part A). length life.items + lanes_of_parts (parts_of life.items)) lives
all_widths_same {A = A} lives = ap (λ (count : Vec Part A → ℕ). sum_by count lives) (λ i life. length life.items + widths_same (parts_of life.items) i)

-- Each life has few lanes.
pub each_few : {A : Type 0} (lives : List (Vec Part A)) (most : ℕ) → sum_by (λ (life : Vec Part A). length life.items + lanes_of_parts (parts_of life.items)) lives ≤ most
    → All (λ (life : Vec Part A). widths (parts_of life.items) ≤ most) lives
each_few [] most few = All-nil _
each_few {A = A} (life ∷ rest) most few =
    let one = sum_by-cons (λ (life : Vec Part A). length life.items + lanes_of_parts (parts_of life.items)) life rest in
    let same = widths_same (parts_of life.items) in
    All-cons (λ (life : Vec Part A). widths (parts_of life.items) ≤ most) life rest (omega (arith, few, one, same)) (each_few rest most (omega (arith, few, one)))
