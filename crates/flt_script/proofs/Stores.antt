-- Which lanes of a block have a save, drain or get.
use Rattle.std.proofs.Common.{◌≡◌, ℕ, ◌≤◌, List, [], ◌∷◌, ◌++◌, Bool, true, false, cond, ◌&&◌, ◌||◌, Option, Some, None, Ok, refl, sym, ap, ◌∙◌, arith}
use Rattle.std.specs.Prelude.{IfSome, is_some, is_none, option_map}
use Rattle.std.specs.List.{list_any}
use Rattle.std.proofs.lemmas.List.Folds.{list_any-append}
use Rattle.std.proofs.lemmas.List.Sums.{sum_by-cons, sum_by_push}
use Rattle.std.proofs.lemmas.Bool.{or_parts}
use Rattle.std.proofs.Math.Bool.{or-true, or-false, or_comm, or_assoc}
use Rattle.flt_step.specs.declared.step.Step.{Step}
use Rattle.flt_script.specs.Behind.{in_last_lane, has_earlier_store, is_store_used, is_store_taken}
use Rattle.flt_script.specs.Gives.{given_by}
use Rattle.flt_script.specs.Next.{with_lane_step}
use Rattle.flt_script.specs.Refusal.{is_step_misplaced}
use Rattle.flt_step.specs.Step.{is_store_step, has_store_step, store_lanes}

or_swap : (a b c : Bool) → (a || (b || c)) ≡ (b || (a || c))
or_swap true b c = sym (or-true b)
or_swap false b c = refl

-- ---- a step more

stored_with : (s : Step) (lane : List Step) → has_store_step (lane ++ s ∷ []) ≡ (is_store_step s || has_store_step lane)
stored_with s lane =
    list_any-append is_store_step lane (s ∷ []) ∙ rw (or-false (is_store_step s)) (or_comm (has_store_step lane) (is_store_step s))

pub used_with : (s : Step) (lane : List Step) (lanes : List (List Step))
    → list_any has_store_step (in_last_lane (Some s) (lane ∷ lanes)) ≡ (is_store_step s || list_any has_store_step (lane ∷ lanes))
used_with s lane [] = rw (stored_with s lane) (or_assoc (is_store_step s) (has_store_step lane) false)
used_with s lane (next ∷ lanes) =
    rw (used_with s next lanes) (or_swap (has_store_step lane) (is_store_step s) (list_any has_store_step (next ∷ lanes)))

pub earlier_with : (read : Option Step) (lanes : List (List Step)) → has_earlier_store (in_last_lane read lanes) ≡ has_earlier_store lanes
earlier_with read [] = refl
earlier_with read (lane ∷ []) = refl
earlier_with read (lane ∷ next ∷ []) = refl
earlier_with read (lane ∷ next ∷ third ∷ lanes) = ap (λ later. has_store_step lane || later) (earlier_with read (next ∷ third ∷ lanes))

-- ---- at most one lane has any

abbrev one_if : List Step → ℕ
one_if lane = cond (has_store_step lane) 1 0

one_at_most : (test : Bool) → cond test 1 0 ≤ 1
one_at_most true = omega arith
one_at_most false = omega arith

same_lanes : (s : Step) (lanes : List (List Step)) → is_store_step s ≡ false → store_lanes (in_last_lane (Some s) lanes) ≡ store_lanes lanes
same_lanes s [] other = refl
same_lanes s (lane ∷ []) other = rw (stored_with s lane, other) refl
same_lanes s (lane ∷ next ∷ lanes) other =
    omega (
      arith,
      same_lanes s (next ∷ lanes) other,
      sum_by-cons one_if lane (in_last_lane (Some s) (next ∷ lanes)),
      sum_by-cons one_if lane (next ∷ lanes),
    )

last_lane_alone : (s : Step) (lanes : List (List Step)) → has_earlier_store lanes ≡ false → store_lanes (in_last_lane (Some s) lanes) ≤ 1
last_lane_alone s [] none = omega arith
last_lane_alone s (lane ∷ []) none = omega (arith, one_at_most (has_store_step (lane ++ s ∷ [])), sum_by-cons one_if (lane ++ s ∷ []) [])
last_lane_alone s (lane ∷ next ∷ lanes) none =
    let parts = or_parts (has_store_step lane) (has_earlier_store (next ∷ lanes)) none in
    let first : one_if lane ≡ 0 = rw parts.0 refl in
    omega (arith, first, last_lane_alone s (next ∷ lanes) parts.1, sum_by-cons one_if lane (in_last_lane (Some s) (next ∷ lanes)))

few_by : (s : Step) (lanes : List (List Step)) (test : Bool) → is_store_step s ≡ test → (test && has_earlier_store lanes) ≡ false → store_lanes lanes ≤ 1
    → store_lanes (in_last_lane (Some s) lanes) ≤ 1
few_by s lanes true is none few = last_lane_alone s lanes none
few_by s lanes false is none few = omega (arith, same_lanes s lanes is)

pub few_with : (s : Step) (lanes : List (List Step)) → (is_store_step s && has_earlier_store lanes) ≡ false → store_lanes lanes ≤ 1
    → store_lanes (in_last_lane (Some s) lanes) ≤ 1
few_with s lanes none few = few_by s lanes (is_store_step s) refl none few

-- ---- a lane more

pub few_with_lane : (lanes : List (List Step)) → store_lanes (lanes ++ [] ∷ []) ≡ store_lanes lanes
few_with_lane lanes = omega (arith, sum_by_push one_if lanes [])

pub used_with_lane : (lanes : List (List Step)) → list_any has_store_step (lanes ++ [] ∷ []) ≡ list_any has_store_step lanes
used_with_lane lanes = list_any-append has_store_step lanes ([] ∷ []) ∙ or-false (list_any has_store_step lanes)

pub earlier_with_lane : (lanes : List (List Step)) → has_earlier_store (lanes ++ [] ∷ []) ≡ list_any has_store_step lanes
earlier_with_lane [] = refl
earlier_with_lane (lane ∷ []) = refl
earlier_with_lane (lane ∷ next ∷ lanes) = ap (λ later. has_store_step lane || later) (earlier_with_lane (next ∷ lanes))

-- ---- the block under way

-- A step was read, is allowed where it is, and is a save, drain or get or none.
pub block_used : (read : Option Step) (block : Option (List (List Step))) (under_way said before : Bool) → is_none read ≡ false
    → given_by read false (is_step_misplaced block) ≡ false → IfSome read (λ s. is_store_step s ≡ said) → is_some block ≡ under_way
    → is_store_used block ≡ (under_way && before) → is_store_used (option_map (in_last_lane read) block) ≡ (under_way && (said || before))
block_used None block under_way said before some place is there e = absurd cc
block_used (Some s) None under_way said before some place is there e = rw (← there) refl
block_used (Some s) (Some []) under_way said before some place is there e = absurd cc
block_used (Some s) (Some (lane ∷ lanes)) under_way said before some place is there e =
    let known = rw (← there) at e in
    rw (← there, used_with s lane lanes, is, known) refl

pub block_taken : (read : Option Step) (block : Option (List (List Step))) → is_store_taken (option_map (in_last_lane read) block) ≡ is_store_taken block
block_taken read None = refl
block_taken read (Some lanes) = earlier_with read lanes

pub block_used_with_lane : (block : Option (List (List Step))) → is_store_used (option_map (λ lanes. lanes ++ [] ∷ []) block) ≡ is_store_used block
block_used_with_lane None = refl
block_used_with_lane (Some lanes) = used_with_lane lanes

pub block_taken_with_lane : (block : Option (List (List Step))) → is_store_taken (option_map (λ lanes. lanes ++ [] ∷ []) block) ≡ is_store_used block
block_taken_with_lane None = refl
block_taken_with_lane (Some lanes) = earlier_with_lane lanes

-- ---- a step that was put into the last lane

put_in : (s : Step) (lanes more : List (List Step)) (wrong : Bool) → is_step_misplaced (Some lanes) s ≡ wrong → with_lane_step s lanes ≡ Ok more
    → (wrong ≡ false) × (in_last_lane (Some s) lanes ≡ more)
put_in s lanes more true is e = let never = rw is at e in absurd cc
put_in s lanes more false is e = let known = rw is at e in (refl, cc)

pub put_used : (s : Step) (lanes more : List (List Step)) → with_lane_step s lanes ≡ Ok more → list_any has_store_step more ≡ (list_any has_store_step lanes || is_store_step s)
put_used s [] more e = absurd cc
put_used s (lane ∷ lanes) more e =
    let put = put_in s (lane ∷ lanes) more (is_step_misplaced (Some (lane ∷ lanes)) s) refl e in
    rw (← put.1, used_with s lane lanes) (or_comm (is_store_step s) (list_any has_store_step (lane ∷ lanes)))

pub put_earlier : (s : Step) (lanes more : List (List Step)) → with_lane_step s lanes ≡ Ok more → has_earlier_store more ≡ has_earlier_store lanes
put_earlier s lanes more e =
    let put = put_in s lanes more (is_step_misplaced (Some lanes) s) refl e in
    rw (← put.1) (earlier_with (Some s) lanes)
