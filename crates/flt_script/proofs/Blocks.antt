-- The block under way: a step more in its last lane, and what is known of it where a line was not refused.
use Rattle.std.proofs.Common.{◌≡◌, ℕ, ◌+◌, ◌≤◌, List, [], ◌∷◌, ◌++◌, length, Bool, true, false, ◌&&◌, leb, Option, Some, None, refl, arith, length-append, inl, inr}
use Rattle.std.specs.Prelude.{is_some, is_none, not, option_map, option_to_list, sum_by}
use Rattle.std.specs.List.{list_all}
use Rattle.std.proofs.lemmas.Bool.{leb-true, leb-false, le-leb, and_parts, or_parts, not-false}
use Rattle.std.proofs.lemmas.List.{append-nil}
use Rattle.std.proofs.lemmas.List.Folds.{list_all-append}
use Rattle.std.proofs.lemmas.List.Sums.{sum_by-cons, sum_by_push}
use Rattle.flt_config.specs.declared.config.Config.{Config}
use Rattle.flt_step.specs.declared.step.Step.{Step}
use Rattle.flt_script.specs.Behind.{lane_count, has_lane, has_earlier_store, in_last_lane, with_step}
use Rattle.flt_script.specs.Gives.{given_by}
use Rattle.flt_step.specs.Part.{PartOf}
use Rattle.flt_script.specs.Refusal.{is_step_misplaced}
use Rattle.flt_step.specs.Step.{is_step_in, is_lane_step, is_store_step, store_lanes, is_lane_in, is_part_in, are_parts_in, steps_of_part, steps_of_parts, lanes_of_part, arms_of_step, arms_of_part, arms_of_parts, drain_count, drains_of_lane, drains_of_part, drains_of_parts}
use Rattle.flt_script.specs.Within.{lines_at_least}
use Rattle.flt_script.proofs.Stores.{few_with, few_with_lane}

pub same_some : {X Y : Type 0} (f : X → Y) (o : Option X) → is_some (option_map f o) ≡ is_some o
same_some f None = refl
same_some f (Some x) = refl

pub some_of : {X : Type 0} (o : Option X) → is_none o ≡ false → is_some o ≡ true
some_of None e = absurd cc
some_of (Some x) e = refl

-- A step more leaves the number of the lanes.
pub length-in_last_lane : (read : Option Step) (lanes : List (List Step)) → length (in_last_lane read lanes) ≡ length lanes
length-in_last_lane read [] = refl
length-in_last_lane read (lane ∷ []) = refl
length-in_last_lane read (lane ∷ next ∷ lanes) = let more = length-in_last_lane read (next ∷ lanes) in omega (arith, more)

pub as_many_lanes : (read : Option Step) (block : Option (List (List Step))) → lane_count (option_map (in_last_lane read) block) ≡ lane_count block
as_many_lanes read None = refl
as_many_lanes read (Some lanes) = length-in_last_lane read lanes

pub lane_more : (block : Option (List (List Step))) → is_some block ≡ true → lane_count (option_map (λ lanes. lanes ++ [] ∷ []) block) ≡ lane_count block + 1
lane_more None e = absurd cc
lane_more (Some lanes) e = length-append lanes ([] ∷ [])

-- ---- what a block comes to

-- A block under way has at most 8 lanes, of steps that are allowed there, and at most one has a save, drain or get.
abbrev pub is_block_in : Config → Option (List (List Step)) → Bool
is_block_in config block = given_by block true (λ lanes. leb (length lanes) 8 && list_all (is_lane_in config) lanes && leb (store_lanes lanes) 1)

-- The steps of the block under way, and the lines at which it and its lanes began.
abbrev pub block_steps : Option (List (List Step)) → ℕ
block_steps block = given_by block 0 (sum_by length)

abbrev pub block_drains : Option (List (List Step)) → ℕ
block_drains block = given_by block 0 (sum_by drains_of_lane)

abbrev pub block_marks : Option (List (List Step)) → ℕ
block_marks block = given_by block 0 (λ lanes. length lanes + 1)

module _ (config : Config) (s : Step) (within : is_step_in config s ≡ true) where
  lane_with : (lane : List Step) → is_lane_step s ≡ true → is_lane_in config lane ≡ true → is_lane_in config (lane ++ s ∷ []) ≡ true
  lane_with lane may all = rw (list_all-append (λ (x : Step). is_step_in config x && is_lane_step x) lane (s ∷ []), all, within, may) refl

  lanes_with : (lanes : List (List Step)) → is_lane_step s ≡ true → list_all (is_lane_in config) lanes ≡ true → list_all (is_lane_in config) (in_last_lane (Some s) lanes) ≡ true
  lanes_with [] may all = refl
  lanes_with (lane ∷ []) may all =
      let parts = and_parts (is_lane_in config lane) true all in
      rw (lane_with lane may parts.0) refl
  lanes_with (lane ∷ next ∷ lanes) may all =
      let parts = and_parts (is_lane_in config lane) (list_all (is_lane_in config) (next ∷ lanes)) all in
      rw (parts.0, lanes_with (next ∷ lanes) may parts.1) refl

  pub block_with : (block : Option (List (List Step))) → is_step_misplaced block s ≡ false → is_block_in config block ≡ true
      → is_block_in config (option_map (in_last_lane (Some s)) block) ≡ true
  block_with None place all = refl
  block_with (Some []) place all = absurd cc
  block_with (Some (lane ∷ lanes)) place all =
      let both = and_parts (leb (length (lane ∷ lanes)) 8 && list_all (is_lane_in config) (lane ∷ lanes)) (leb (store_lanes (lane ∷ lanes)) 1) all in
      let parts = and_parts (leb (length (lane ∷ lanes)) 8) (list_all (is_lane_in config) (lane ∷ lanes)) both.0 in
      let told = or_parts (not (is_lane_step s)) (is_store_step s && has_earlier_store (lane ∷ lanes)) place in
      let few = few_with s (lane ∷ lanes) told.1 (leb-true (store_lanes (lane ∷ lanes)) 1 both.1) in
      rw (
        length-in_last_lane (Some s) (lane ∷ lanes),
        parts.0,
        lanes_with (lane ∷ lanes) (not-false (is_lane_step s) told.0) parts.1,
        le-leb (store_lanes (in_last_lane (Some s) (lane ∷ lanes))) 1 few,
      ) refl

  pub parts_with : (block : Option (List (List Step))) (parts : List (PartOf Step)) → are_parts_in config parts ≡ true → are_parts_in config (with_step block (Some s) parts) ≡ true
  parts_with None parts all = rw (list_all-append (is_part_in config) parts (inl s ∷ []), all, within) refl
  parts_with (Some lanes) parts all = all

-- A count of lanes, where a step more at the end of a lane counts for so much.
in_last : (size : List Step → ℕ) (own : Step → ℕ) → ((lane : List Step) (s : Step) → size (lane ++ s ∷ []) ≡ size lane + own s) → (s : Step) (lane : List Step) (lanes : List (List Step))
    → sum_by size (in_last_lane (Some s) (lane ∷ lanes)) ≡ sum_by size (lane ∷ lanes) + own s
in_last size own pushed s lane [] = omega (arith, pushed lane s, sum_by-cons size (lane ++ s ∷ []) [], sum_by-cons size lane [])
in_last size own pushed s lane (next ∷ lanes) =
    let more = in_last size own pushed s next lanes in
    omega (arith, more, sum_by-cons size lane (in_last_lane (Some s) (next ∷ lanes)), sum_by-cons size lane (next ∷ lanes))

pub steps_with : (block : Option (List (List Step))) (s : Step) (parts : List (PartOf Step)) → is_step_misplaced block s ≡ false
    → steps_of_parts (with_step block (Some s) parts) + block_steps (option_map (in_last_lane (Some s)) block) ≡ steps_of_parts parts + block_steps block + 1
steps_with None s parts place = omega (arith, sum_by_push steps_of_part parts (inl s))
steps_with (Some []) s parts place = absurd cc
steps_with (Some (lane ∷ lanes)) s parts place = omega (arith, in_last length (λ step. 1) (λ one step. length-append one (step ∷ [])) s lane lanes)

pub arms_with_step : (block : Option (List (List Step))) (s : Step) (parts : List (PartOf Step)) → arms_of_parts (with_step block (Some s) parts) ≤ arms_of_parts parts + arms_of_step s
arms_with_step None s parts = omega (arith, sum_by_push arms_of_part parts (inl s))
arms_with_step (Some lanes) s parts = omega arith

pub drains_with_step : (block : Option (List (List Step))) (s : Step) (parts : List (PartOf Step)) → is_step_misplaced block s ≡ false
    → drains_of_parts (with_step block (Some s) parts) + block_drains (option_map (in_last_lane (Some s)) block) ≡ drains_of_parts parts + block_drains block + drain_count s
drains_with_step None s parts place = omega (arith, sum_by_push drains_of_part parts (inl s))
drains_with_step (Some []) s parts place = absurd cc
drains_with_step (Some (lane ∷ lanes)) s parts place = omega (arith, in_last drains_of_lane drain_count (sum_by_push drain_count) s lane lanes)

pub marks_with : (block : Option (List (List Step))) (s : Step) (parts : List (PartOf Step))
    → lines_at_least (with_step block (Some s) parts) + block_marks (option_map (in_last_lane (Some s)) block) ≤ lines_at_least parts + block_marks block + 1
marks_with None s parts = omega (arith, sum_by_push lanes_of_part parts (inl s), length-append parts (inl s ∷ []))
marks_with (Some lanes) s parts = omega (arith, length-in_last_lane (Some s) lanes)

-- ---- a lane more, and the end of a block

module _ (config : Config) where
  pub block_with_lane : (block : Option (List (List Step))) → leb 8 (lane_count block) ≡ false → is_block_in config block ≡ true
      → is_block_in config (option_map (λ lanes. lanes ++ [] ∷ []) block) ≡ true
  block_with_lane None few all = refl
  block_with_lane (Some lanes) few all =
      let both = and_parts (leb (length lanes) 8 && list_all (is_lane_in config) lanes) (leb (store_lanes lanes) 1) all in
      let parts = and_parts (leb (length lanes) 8) (list_all (is_lane_in config) lanes) both.0 in
      let under = leb-false 8 (length lanes) few in
      let fits : length (lanes ++ [] ∷ []) ≤ 8 = rw length-append (omega arith) in
      rw (le-leb (length (lanes ++ [] ∷ [])) 8 fits, list_all-append (is_lane_in config) lanes ([] ∷ []), parts.1, few_with_lane lanes, both.1) refl

  pub parts_with_block : (block : Option (List (List Step))) (parts : List (PartOf Step)) → has_lane block ≡ true → is_block_in config block ≡ true → are_parts_in config parts ≡ true
      → are_parts_in config (parts ++ option_to_list (option_map inr block)) ≡ true
  parts_with_block None parts some block all = absurd cc
  parts_with_block (Some []) parts some block all = absurd cc
  parts_with_block (Some (lane ∷ lanes)) parts some block all =
      let both = and_parts (leb (length (lane ∷ lanes)) 8 && list_all (is_lane_in config) (lane ∷ lanes)) (leb (store_lanes (lane ∷ lanes)) 1) block in
      let held = and_parts (leb (length (lane ∷ lanes)) 8) (list_all (is_lane_in config) (lane ∷ lanes)) both.0 in
      let one : 1 ≤ length (lane ∷ lanes) = omega arith in
      let last : is_part_in config (inr (lane ∷ lanes)) ≡ true = rw (le-leb 1 (length (lane ∷ lanes)) one, held.0, held.1, both.1) refl in
      rw (list_all-append (is_part_in config) parts (inr (lane ∷ lanes) ∷ []), all, last) refl

pub steps_with_lane : (block : Option (List (List Step))) → block_steps (option_map (λ lanes. lanes ++ [] ∷ []) block) ≡ block_steps block
steps_with_lane None = refl
steps_with_lane (Some lanes) = omega (arith, sum_by_push length lanes [])

pub drains_with_lane : (block : Option (List (List Step))) → block_drains (option_map (λ lanes. lanes ++ [] ∷ []) block) ≡ block_drains block
drains_with_lane None = refl
drains_with_lane (Some lanes) = omega (arith, sum_by_push drains_of_lane lanes [])

pub marks_with_lane : (block : Option (List (List Step))) → block_marks (option_map (λ lanes. lanes ++ [] ∷ []) block) ≤ block_marks block + 1
marks_with_lane None = omega arith
marks_with_lane (Some lanes) = omega (arith, length-append lanes ([] ∷ []))

pub steps_with_block : (block : Option (List (List Step))) (parts : List (PartOf Step)) → steps_of_parts (parts ++ option_to_list (option_map inr block)) ≡ steps_of_parts parts + block_steps block
steps_with_block None parts = rw append-nil (omega arith)
steps_with_block (Some lanes) parts = omega (arith, sum_by_push steps_of_part parts (inr lanes))

pub arms_with_block : (block : Option (List (List Step))) (parts : List (PartOf Step)) → arms_of_parts (parts ++ option_to_list (option_map inr block)) ≡ arms_of_parts parts
arms_with_block None parts = rw append-nil refl
arms_with_block (Some lanes) parts = omega (arith, sum_by_push arms_of_part parts (inr lanes))

pub drains_with_block : (block : Option (List (List Step))) (parts : List (PartOf Step)) → drains_of_parts (parts ++ option_to_list (option_map inr block)) ≡ drains_of_parts parts + block_drains block
drains_with_block None parts = rw append-nil (omega arith)
drains_with_block (Some lanes) parts = omega (arith, sum_by_push drains_of_part parts (inr lanes))

pub marks_with_block : (block : Option (List (List Step))) (parts : List (PartOf Step)) → lines_at_least (parts ++ option_to_list (option_map inr block)) ≤ lines_at_least parts + block_marks block
marks_with_block None parts = rw append-nil (omega arith)
marks_with_block (Some lanes) parts = omega (arith, sum_by_push lanes_of_part parts (inr lanes), length-append parts (inr lanes ∷ []))
