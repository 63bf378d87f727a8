-- How many steps and bytes the lanes of a life have, and those of one part more.
use Rattle.std.proofs.Common.{◌≡◌, inl, inr, ℕ, ◌+◌, ◌*◌, ◌<◌, ◌≤◌, List, [], ◌∷◌, ◌++◌, All, Vec, length, map, take, drop, get_or, arith, refl, sym, ap, ◌∙◌}
use Rattle.std.specs.Prelude.{sum_by}
use Rattle.std.proofs.lemmas.List.{append-nil, append_assoc, length-append, map_more, map-append, take-map, take-append-drop}
use Rattle.std.proofs.lemmas.List.Sums.{sum_by-cons, sum_by_push, sum_by-take-le}
use Rattle.std.proofs.lemmas.List.Elements.{All-nil, All-cons, All-weaker}
use Rattle.flt_model.specs.declared.TheConstants.{RESPONSE}
use Rattle.flt_model.specs.declared.call.Op.TheVariants as ops
use Rattle.flt_step.specs.declared.step.Step.{Step}
use Rattle.flt_step.specs.declared.step.Part.{Part}
use Rattle.flt_step.specs.declared.step.Part.TheVariants.{One}
use Rattle.flt_step.specs.Part.{PartOf, part_of, parts_of}
use Rattle.flt_life_model.specs.declared.action.Action.{Action}
use Rattle.flt_life_model.specs.declared.action.Action.TheVariants.{Call, Queue, Save, Drain, Get, Arm}
use Rattle.flt_life_model.specs.Actions.{action_of, response_size}
use Rattle.flt_life_model.specs.Parts.{own_steps, lanes_in, steps_in, width, widths}
use Rattle.flt_life_model.specs.Room.{sizes_of}
use Rattle.flt_life_model.proofs.Makings.{widths_more}

pub response_most : (action : Action) → response_size action ≤ RESPONSE
response_most (Call (ops.Signal index value)) = omega arith
response_most (Call (ops.Enable condition fulfilled)) = omega arith
response_most (Call (ops.Report event report)) = omega arith
response_most (Call (ops.Tick ticks)) = omega arith
response_most (Call (ops.Cycle cycle)) = omega arith
response_most (Call (ops.Request tester bytes)) = omega arith
response_most (Call (ops.Show event)) = omega arith
response_most (Call ops.Snapshot) = omega arith
response_most (Call (ops.Saved number)) = omega arith
response_most (Queue op) = omega arith
response_most Save = omega arith
response_most Drain = omega arith
response_most (Get block) = omega arith
response_most (Arm arm) = omega arith

-- ---- steps

pub sizes-cons : (step : Step) (steps : List Step) → sizes_of (step ∷ steps) ≡ response_size (action_of step) + sizes_of steps
sizes-cons step steps = sum_by-cons response_size (action_of step) (map action_of steps)

pub sizes_most : (steps : List Step) → sizes_of steps ≤ length steps * RESPONSE
sizes_most [] = omega arith
sizes_most (step ∷ steps) =
    let rest = sizes_most steps in
    let first = response_most (action_of step) in
    let sum = sizes-cons step steps in
    omega (arith, rest, first, sum)

pub sizes-append : (steps more : List Step) → sizes_of (steps ++ more) ≡ sizes_of steps + sizes_of more
sizes-append [] more = omega arith
sizes-append (step ∷ steps) more =
    let rest = sizes-append steps more in
    let sum = sizes-cons step steps in
    let all = sizes-cons step (steps ++ more) in
    omega (arith, rest, sum, all)

-- ---- parts

module _ {T : Type 0} where
  pub own_steps-append : (parts more : List (PartOf T)) → own_steps (parts ++ more) ≡ own_steps parts ++ own_steps more
  own_steps-append [] more = refl
  own_steps-append (inl step ∷ parts) more = ap (λ l. step ∷ l) (own_steps-append parts more)
  own_steps-append (inr lanes ∷ parts) more = own_steps-append parts more

  pub lanes_in-append : (parts more : List (PartOf T)) → lanes_in (parts ++ more) ≡ lanes_in parts ++ lanes_in more
  lanes_in-append [] more = refl
  lanes_in-append (inl step ∷ parts) more = lanes_in-append parts more
  lanes_in-append (inr lanes ∷ parts) more = ap (λ l. lanes ++ l) (lanes_in-append parts more) ∙ sym (append_assoc lanes (lanes_in parts) (lanes_in more))

pub own_most : (parts : List (PartOf Step)) → length (own_steps parts) ≤ sum_by steps_in parts
own_most [] = omega arith
own_most (inl step ∷ parts) = let rest = own_most parts in let sum = sum_by-cons steps_in (inl step) parts in omega (arith, rest, sum)
own_most (inr lanes ∷ parts) = let rest = own_most parts in let sum = sum_by-cons steps_in (inr lanes) parts in omega (arith, rest, sum)

pub each_lane : (lanes : List (List Step)) → All (λ lane. length lane ≤ sum_by length lanes) lanes
each_lane [] = All-nil _
each_lane (lane ∷ lanes) =
    let sum = sum_by-cons length lane lanes in
    All-cons (λ l. length l ≤ sum_by length (lane ∷ lanes)) lane lanes (omega (arith, sum))
    (All-weaker (λ l. length l ≤ sum_by length lanes) (λ l. length l ≤ sum_by length (lane ∷ lanes)) (λ l most. omega (arith, most, sum)) lanes (each_lane lanes))

-- ---- one part more

module _ (parts : List Part) (index : ℕ) (part : Part) (within : index < length parts) (is : part ≡ get_or parts index part) where
  pub parts_more_by : parts_of (take (index + 1) parts) ≡ parts_of (take index parts) ++ part_of part ∷ []
  parts_more_by = map_more part_of parts index part within ∙ ap (λ (p : Part). parts_of (take index parts) ++ part_of p ∷ []) (sym is)

  pub sum_within : (count : PartOf Step → ℕ) → sum_by count (parts_of (take index parts)) + count (part_of part) ≤ sum_by count (parts_of parts)
  sum_within count =
      let sum = ap (sum_by count) parts_more_by ∙ sum_by_push count (parts_of (take index parts)) (part_of part) in
      let same = ap (sum_by count) (take-map part_of (index + 1) parts) in
      let most = sum_by-take-le count (parts_of parts) (index + 1) in
      omega (arith, sum, same, most)

  pub steps_within : sum_by steps_in (parts_of (take index parts)) + steps_in (part_of part) ≤ sum_by steps_in (parts_of parts)
  steps_within = sum_within steps_in

  pub widths_within : widths (parts_of (take index parts)) + width (part_of part) ≤ widths (parts_of parts)
  widths_within =
      let sum = ap widths parts_more_by ∙ widths_more (parts_of (take index parts)) (part_of part) in
      let most = widths_take (index + 1) parts in
      omega (arith, sum, most)
    where
      widths_front : (front rest : List (PartOf Step)) → widths front ≤ widths (front ++ rest)
      widths_front [] rest = omega arith
      widths_front (p ∷ front) rest = let more = widths_front front rest in omega (arith, more)

      widths_take : (n : ℕ) (all : List Part) → widths (parts_of (take n all)) ≤ widths (parts_of all)
      widths_take n all =
          let most = widths_front (parts_of (take n all)) (parts_of (drop n all)) in
          let both = ap widths (sym (map-append part_of (take n all) (drop n all)) ∙ ap parts_of (take-append-drop n all)) in
          omega (arith, most, both)

  -- A step outside blocks.
  module _ (step : Step) (one : part ≡ One step) where
    one_is : parts_of (take (index + 1) parts) ≡ parts_of (take index parts) ++ inl step ∷ []
    one_is = parts_more_by ∙ ap (λ (p : Part). parts_of (take index parts) ++ part_of p ∷ []) one

    pub own_more : own_steps (parts_of (take (index + 1) parts)) ≡ own_steps (parts_of (take index parts)) ++ step ∷ []
    own_more = ap own_steps one_is ∙ own_steps-append (parts_of (take index parts)) (inl step ∷ [])

    pub own_count : length (own_steps (parts_of (take (index + 1) parts))) ≡ length (own_steps (parts_of (take index parts))) + 1
    own_count = ap length own_more ∙ length-append (own_steps (parts_of (take index parts))) (step ∷ [])

    pub own_sizes : sizes_of (own_steps (parts_of (take (index + 1) parts))) ≡ sizes_of (own_steps (parts_of (take index parts))) + response_size (action_of step)
    own_sizes =
        let all = ap sizes_of own_more ∙ sizes-append (own_steps (parts_of (take index parts))) (step ∷ []) in
        let last = sizes-cons step [] in
        omega (arith, all, last)

    pub no_lanes_more : lanes_in (parts_of (take (index + 1) parts)) ≡ lanes_in (parts_of (take index parts))
    no_lanes_more = ap lanes_in one_is ∙ lanes_in-append (parts_of (take index parts)) (inl step ∷ []) ∙ append-nil (lanes_in (parts_of (take index parts)))

    pub no_widths_more : widths (parts_of (take (index + 1) parts)) ≡ widths (parts_of (take index parts))
    no_widths_more = let sum = ap widths one_is ∙ widths_more (parts_of (take index parts)) (inl step) in omega (arith, sum)

    pub own_within : length (own_steps (parts_of (take index parts))) + 1 ≤ sum_by steps_in (parts_of parts)
    own_within =
        let most = own_most (parts_of (take index parts)) in
        let within_sum = steps_within in
        let this = ap (λ (p : Part). steps_in (part_of p)) one in
        omega (arith, most, within_sum, this)

  -- A block.
  module _ (lanes : List (List Step)) (block : part_of part ≡ inr lanes) where
    block_is : parts_of (take (index + 1) parts) ≡ parts_of (take index parts) ++ inr lanes ∷ []
    block_is = parts_more_by ∙ ap (λ (p : PartOf Step). parts_of (take index parts) ++ p ∷ []) block

    pub no_own_more : own_steps (parts_of (take (index + 1) parts)) ≡ own_steps (parts_of (take index parts))
    no_own_more = ap own_steps block_is ∙ own_steps-append (parts_of (take index parts)) (inr lanes ∷ []) ∙ append-nil (own_steps (parts_of (take index parts)))

    pub lanes_more : lanes_in (parts_of (take (index + 1) parts)) ≡ lanes_in (parts_of (take index parts)) ++ lanes
    lanes_more = ap lanes_in block_is ∙ lanes_in-append (parts_of (take index parts)) (inr lanes ∷ []) ∙ ap (λ l. lanes_in (parts_of (take index parts)) ++ l) (append-nil lanes)

    pub widths_with : widths (parts_of (take (index + 1) parts)) ≡ widths (parts_of (take index parts)) + length lanes
    widths_with = ap widths block_is ∙ widths_more (parts_of (take index parts)) (inr lanes)

    pub lanes_within : sum_by length lanes ≤ sum_by steps_in (parts_of parts)
    lanes_within = let within_sum = steps_within in let this = ap steps_in block in omega (arith, within_sum, this)

-- As many lanes as the blocks have.
pub lanes_count : (parts : List (PartOf Step)) → length (lanes_in parts) ≡ widths parts
lanes_count [] = refl
lanes_count (inl step ∷ parts) = let rest = lanes_count parts in omega (arith, rest)
lanes_count (inr lanes ∷ parts) = let rest = lanes_count parts in let sum = length-append lanes (lanes_in parts) in omega (arith, rest, sum)

-- Lanes of at most this many steps, wherever they are in memory.
pub short_lanes : {A : Type 0} (most : ℕ) (lanes : List (Vec Step A)) → sum_by length (map (λ (lane : Vec Step A). lane.items) lanes) ≤ most → All (λ (lane : Vec Step A). length lane.items ≤ most) lanes
short_lanes most [] few = All-nil _
short_lanes {A} most (lane ∷ lanes) few =
    let sum = sum_by-cons length lane.items (map (λ (l : Vec Step A). l.items) lanes) in
    All-cons (λ (l : Vec Step A). length l.items ≤ most) lane lanes (omega (arith, sum, few)) (short_lanes most lanes (omega (arith, sum, few)))
