-- The lanes of a block that use the store.
use Rattle.std.proofs.Common.{◌≡◌, List, [], ◌∷◌, Vec, cond, map, refl, arith}
use Rattle.std.specs.Prelude.{count_by}
use Rattle.std.proofs.lemmas.List.Sums.{sum_by-cons}
use Rattle.flt_step.specs.declared.step.Step.{Step}
use Rattle.flt_step.specs.Step.{has_store_step, store_lanes}

-- They are as many among the lanes as they lie in memory.
pub stores_mapped : {A : Type 0} (lanes : List (Vec Step A)) → store_lanes (map (λ (lane : Vec Step A). lane.items) lanes) ≡ count_by (λ (lane : Vec Step A). has_store_step lane.items) lanes
stores_mapped [] = refl
stores_mapped {A = A} (lane ∷ lanes) =
    let rest = stores_mapped lanes in
    let here = sum_by-cons (λ steps. cond (has_store_step steps) 1 0) lane.items (map (λ (l : Vec Step A). l.items) lanes) in
    let there = sum_by-cons (λ (l : Vec Step A). cond (has_store_step l.items) 1 0) lane lanes in
    omega (arith, rest, here, there)
