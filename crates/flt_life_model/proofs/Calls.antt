-- Few steps make few calls, of either machine: at most 64 each.
use Rattle.std.proofs.Common.{◌≡◌, inl, inr, ℕ, ◌+◌, ◌*◌, ◌^◌, ◌<◌, ◌≤◌, List, [], ◌∷◌, ◌++◌, length, map, take, get_or, ap, sym, arith, ◌∙◌}
use Rattle.std.specs.Prelude.{sum_by, Vec}
use Rattle.std.proofs.lemmas.List.{length-take, map_more, take-map}
use Rattle.std.proofs.lemmas.List.Sums.{sum_by-cons, sum_by-le, sum_by-take-le, sum_by_push}
use Rattle.flt_step.specs.declared.step.Part.{Part}
use Rattle.flt_step.specs.declared.step.Step.{Step}
use Rattle.flt_step.specs.Part.{PartOf, part_of, parts_of}
use Rattle.flt_life_model.specs.declared.action.Action.{Action}
use Rattle.flt_life_model.specs.declared.action.Action.TheVariants.{Call, Queue, Save, Drain, Get, Arm}
use Rattle.flt_life_model.specs.Actions.{action_of, call_count, queue_count}
use Rattle.flt_life_model.specs.Parts.{calls_in, queued_in, steps_in}
use Rattle.flt_life_model.proofs.Sizes.{steps_within, parts_more_by}

pub call_most : (action : Action) → call_count action ≤ 2
call_most (Call op) = omega arith
call_most (Queue op) = omega arith
call_most Save = omega arith
call_most Drain = omega arith
call_most (Get block) = omega arith
call_most (Arm arm) = omega arith

pub step_calls_most : (step : Step) → call_count (action_of step) ≤ 64
step_calls_most step = let most = call_most (action_of step) in omega (arith, most)

queue_most : (action : Action) → queue_count action ≤ 64
queue_most (Call op) = omega arith
queue_most (Queue op) = omega arith
queue_most Save = omega arith
queue_most Drain = omega arith
queue_most (Get block) = omega arith
queue_most (Arm arm) = omega arith

pub step_queued_most : (step : Step) → queue_count (action_of step) ≤ 64
step_queued_most step = queue_most (action_of step)

-- ---- steps and lanes

module _ (count : Step → ℕ) (most : (step : Step) → count step ≤ 64) where
  lane_most : (lane : List Step) → sum_by count lane ≤ length lane * 64
  lane_most lane = sum_by-le count 64 lane (λ k d within. most (get_or lane k d))

  pub lanes_most : (lanes : List (List Step)) → sum_by (λ lane. sum_by count lane) lanes ≤ sum_by length lanes * 64
  lanes_most [] = omega arith
  lanes_most (lane ∷ lanes) =
      let rest = lanes_most lanes in
      let sum = sum_by-cons (λ lane. sum_by count lane) lane lanes in
      let steps = sum_by-cons length lane lanes in
      let one = lane_most lane in
      omega (arith, rest, sum, steps, one)

  -- Those of the next step fit after those of the steps before it.
  pub step_fits : (steps : List Step) (index : ℕ) (step : Step) → index < length steps → length steps ≤ 65536 → sum_by count (take index steps) + count step < 2 ^ 32
  step_fits steps index step within few =
      let so_far = lane_most (take index steps) in
      let made = length-take index steps in
      let one = most step in
      omega (arith, so_far, made, within, one, few)

-- The steps of the lanes so far and of the next one are no more than all.
module _ {A : Type 0} (lanes : List (Vec Step A)) (index : ℕ) (lane : Vec Step A) (within : index < length lanes) (is : lane ≡ get_or lanes index lane) where
  pub lane_within : sum_by length (map (λ (l : Vec Step A). l.items) (take index lanes)) + length lane.items ≤ sum_by length (map (λ (l : Vec Step A). l.items) lanes)
  lane_within =
      let front = map (λ (l : Vec Step A). l.items) (take index lanes) in
      let more = map_more (λ (l : Vec Step A). l.items) lanes index lane within ∙ ap (λ (l : Vec Step A). front ++ l.items ∷ []) (sym is) in
      let sum = ap (sum_by length) more ∙ sum_by_push length front lane.items in
      let same = ap (sum_by length) (take-map (λ (l : Vec Step A). l.items) (index + 1) lanes) in
      let most = sum_by-take-le length (map (λ (l : Vec Step A). l.items) lanes) (index + 1) in
      omega (arith, sum, same, most)

  -- Those of the next lane fit after those of the lanes before it.
  pub lane_fits : (count : Step → ℕ) → ((step : Step) → count step ≤ 64) → sum_by length (map (λ (l : Vec Step A). l.items) lanes) ≤ 65536
      → sum_by (λ steps. sum_by count steps) (map (λ (l : Vec Step A). l.items) (take index lanes)) + sum_by count lane.items < 2 ^ 32
  lane_fits count most few =
      let all = lane_within in
      let so_far = lanes_most count most (map (λ (l : Vec Step A). l.items) (take index lanes)) in
      let one = lane_most count most lane.items in
      omega (arith, all, so_far, one, few)

-- ---- parts

pub part_calls_most : (part : PartOf Step) → calls_in part ≤ steps_in part * 64
part_calls_most (inl step) = step_calls_most step
part_calls_most (inr lanes) = lanes_most (λ step. call_count (action_of step)) step_calls_most lanes

pub part_queued_most : (part : PartOf Step) → queued_in part ≤ steps_in part * 64
part_queued_most (inl step) = step_queued_most step
part_queued_most (inr lanes) = lanes_most (λ step. queue_count (action_of step)) step_queued_most lanes

module _ (count : PartOf Step → ℕ) (most : (part : PartOf Step) → count part ≤ steps_in part * 64) where
  parts_most : (parts : List (PartOf Step)) → sum_by count parts ≤ sum_by steps_in parts * 64
  parts_most [] = omega arith
  parts_most (part ∷ parts) =
      let rest = parts_most parts in
      let steps = sum_by-cons steps_in part parts in
      let sum = sum_by-cons count part parts in
      let one = most part in
      omega (arith, rest, steps, sum, one)

  -- Those of the next part fit after those of the parts before it.
  pub part_fits : (parts : List Part) (index : ℕ) (part : Part) → index < length parts → part ≡ get_or parts index part → sum_by steps_in (parts_of parts) ≤ 65536
      → sum_by count (parts_of (take index parts)) + count (part_of part) < 2 ^ 32
  part_fits parts index part within is few =
      let all = steps_within parts index part within is in
      let so_far = parts_most (parts_of (take index parts)) in
      let one = most (part_of part) in
      omega (arith, all, so_far, one, few)

-- The calls of one part more.
pub part_more : (count : PartOf Step → ℕ) (parts : List Part) (index : ℕ) (part : Part) → index < length parts → part ≡ get_or parts index part
    → sum_by count (parts_of (take (index + 1) parts)) ≡ sum_by count (parts_of (take index parts)) + count (part_of part)
part_more count parts index part within is = ap (sum_by count) (parts_more_by parts index part within is) ∙ sum_by_push count (parts_of (take index parts)) (part_of part)
