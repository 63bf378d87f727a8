-- What lines that were not refused gave keeps to the limits of a script.
use Rattle.std.proofs.Common.{◌≡◌, ℕ, ◌+◌, ◌<◌, ◌≤◌, List, [], ◌∷◌, ◌++◌, length, Bool, true, false, cond, ◌||◌, ltb, leb, Option, Some, None, Ok, refl, subst, arith, length-append, inr}
use Rattle.std.specs.Prelude.{IfSome, not, is_some, is_none, option_map, option_to_list, sum_by}
use Rattle.std.specs.List.{list_all}
use Rattle.std.proofs.lemmas.Bool.{ltb-false, leb-false, or_parts, not-false}
use Rattle.std.proofs.lemmas.List.Folds.{list_all-append}
use Rattle.std.proofs.lemmas.List.Sums.{sum_by_push}
use Rattle.flt_config.specs.declared.config.Config.{Config}
use Rattle.flt_config.specs.declared.config.DidUse.{DidUse}
use Rattle.flt_script.specs.declared.fault.LineCause.{LineCause}
use Rattle.flt_script.specs.declared.fault.LineCause.TheVariants as cause
use Rattle.flt_script.specs.Said.{Line}
use Rattle.flt_script.specs.Said as line
use Rattle.flt_script.specs.declared.places.Places.{Places}
use Rattle.flt_step.specs.declared.step.Step.{Step}
use Rattle.flt_script.specs.Behind.{Behind, added_line, behind, has_begun, has_lane, lane_count, in_last_lane, with_step, step_of}
use Rattle.flt_script.specs.Gives.{given_by}
use Rattle.flt_script.specs.Refusal.{is_step_misplaced, setting_refusal, flash_refusal, event_refusal, did_refusal, step_refusal, power_refusal, par_refusal, lane_refusal, end_refusal, refusal}
use Rattle.flt_script.specs.Script.{lines_behind}
use Rattle.flt_step.specs.Step.{is_step_in, are_parts_in, steps_of_parts, arms_of_step, arms_of_parts, drain_count, drains_of_parts}
use Rattle.flt_script.specs.Within.{lines_at_least, IsWithinLimits}
use Rattle.flt_script.proofs.Accepted.{of_accepted_lines}
use Rattle.flt_script.proofs.Blocks.{is_block_in, block_steps, block_drains, block_marks, block_with, parts_with, steps_with, arms_with_step, drains_with_step, marks_with, block_with_lane, parts_with_block, steps_with_lane, drains_with_lane, marks_with_lane, steps_with_block, arms_with_block, drains_with_block, marks_with_block}
use Rattle.flt_script.proofs.StepRead.{is_read, in_range}

-- What this many lines gave keeps to the limits.
pub record IsKept (b : Behind) (count : ℕ) : Type 0 where
  pub lives : list_all (are_parts_in b.config) b.lives ≡ true
  pub parts : are_parts_in b.config b.parts ≡ true
  pub block : is_block_in b.config b.block ≡ true
  pub steps : sum_by steps_of_parts b.lives + steps_of_parts b.parts + block_steps b.block ≤ b.steps
  pub few : b.steps ≤ 65536
  pub arms : sum_by arms_of_parts b.lives + arms_of_parts b.parts ≤ b.arms
  pub few_arms : b.arms ≤ 64
  pub drains : sum_by drains_of_parts b.lives + drains_of_parts b.parts + block_drains b.block ≤ b.drains
  pub few_drains : b.drains ≤ 1024
  pub marks : sum_by lines_at_least b.lives + lines_at_least b.parts + block_marks b.block ≤ count
  pub few_lives : length b.lives < 256

-- ---- a line that configures

empty : {X : Type 0} (xs : List X) → ltb 0 (length xs) ≡ false → xs ≡ []
empty [] e = refl
empty (x ∷ xs) e = absurd (let none = ltb-false 0 (length (x ∷ xs)) e in omega (arith, none))

pub none_of : {X : Type 0} (o : Option X) → is_some o ≡ false → o ≡ None
none_of None e = refl
none_of (Some x) e = absurd cc

setting : (b : Behind) (config : Config) (places : Places) (count : ℕ) → has_begun b ≡ false → IsKept b count
    → IsKept (record b { config = config; places = places }) (count + 1)
setting b config places count none k =
    let all = or_parts (ltb 0 (length b.parts) || ltb 0 (length b.lives)) (is_some b.block) none in
    let done = or_parts (ltb 0 (length b.parts)) (ltb 0 (length b.lives)) all.0 in
    let parts = empty b.parts done.0 in
    let lives = empty b.lives done.1 in
    let block = none_of b.block all.1 in
    record {
      lives = rw lives refl;
      parts = rw parts refl;
      block = rw block refl;
      steps = k.steps;
      few = k.few;
      arms = k.arms;
      few_arms = k.few_arms;
      drains = k.drains;
      few_drains = k.few_drains;
      marks = omega (arith, k.marks);
      few_lives = k.few_lives;
    }

begun_not : (begun other : Bool) (rest : Option LineCause) → cond (begun || other) (Some cause.Order) rest ≡ None → begun ≡ false
begun_not true other rest e = absurd cc
begun_not false other rest e = refl

-- ---- a step

abbrev IsIn : Config → Option Step → Type 0
IsIn config read = IfSome read (λ step. is_step_in config step ≡ true)

-- What a step that is not refused was found to be.
three_false : (p q r : Bool) (x y z : LineCause) → cond p (Some x) (cond q (Some y) (cond r (Some z) None)) ≡ None → (p ≡ false) × (q ≡ false) × (r ≡ false)
three_false true q r x y z e = absurd cc
three_false false true r x y z e = absurd cc
three_false false false true x y z e = absurd cc
three_false false false false x y z e = (refl, refl, refl)

two_false : (p q : Bool) (x y : LineCause) → cond p (Some x) (cond q (Some y) None) ≡ None → (p ≡ false) × (q ≡ false)
two_false true q x y e = absurd cc
two_false false true x y e = absurd cc
two_false false false x y e = (refl, refl)

one_false : (p : Bool) (x : LineCause) → cond p (Some x) None ≡ None → p ≡ false
one_false true x e = absurd cc
one_false false x e = refl

abbrev stepped : Behind → Option Step → Behind
stepped b read = record b {
  parts = with_step b.block read b.parts;
  block = option_map (in_last_lane read) b.block;
  steps = b.steps + 1;
  arms = b.arms + given_by read 0 arms_of_step;
  drains = b.drains + given_by read 0 drain_count;
}

step_more : (b : Behind) (count : ℕ) (read : Option Step) → IsIn b.config read
    → cond (is_none read) (Some cause.Range)
    (cond (leb 65536 b.steps || ltb 64 (b.arms + given_by read 0 arms_of_step) || ltb 1024 (b.drains + given_by read 0 drain_count)) (Some cause.Many)
    (cond (given_by read false (is_step_misplaced b.block)) (Some cause.Block) None)) ≡ None
    → IsKept b count → IsKept (stepped b read) (count + 1)
step_more b count None within e k = absurd cc
step_more b count (Some s) within e k =
    let told = three_false false (leb 65536 b.steps || ltb 64 (b.arms + arms_of_step s) || ltb 1024 (b.drains + drain_count s)) (is_step_misplaced b.block s)
    cause.Range cause.Many cause.Block e in
    let all = or_parts (leb 65536 b.steps || ltb 64 (b.arms + arms_of_step s)) (ltb 1024 (b.drains + drain_count s)) told.1 in
    let many = or_parts (leb 65536 b.steps) (ltb 64 (b.arms + arms_of_step s)) all.0 in
    let room = leb-false 65536 b.steps many.0 in
    let room_for_arms = ltb-false 64 (b.arms + arms_of_step s) many.1 in
    let room_for_drains = ltb-false 1024 (b.drains + drain_count s) all.1 in
    record {
      lives = k.lives;
      parts = parts_with b.config s within b.block b.parts k.parts;
      block = block_with b.config s within b.block told.2 k.block;
      steps = omega (arith, k.steps, steps_with b.block s b.parts told.2);
      few = omega arith;
      arms = omega (arith, k.arms, arms_with_step b.block s b.parts);
      few_arms = room_for_arms;
      drains = omega (arith, k.drains, drains_with_step b.block s b.parts told.2);
      few_drains = room_for_drains;
      marks = omega (arith, k.marks, marks_with b.block s b.parts);
      few_lives = k.few_lives;
    }

-- ---- the other lines

power_more : (b : Behind) (count : ℕ) → power_refusal b ≡ None → IsKept b count → IsKept (record b { lives = b.lives ++ b.parts ∷ []; parts = [] }) (count + 1)
unfolding power_refusal
power_more b count e k =
    let told = two_false (leb 256 (length b.lives + 1)) (is_some b.block) cause.Many cause.Block e in
    let under = leb-false 256 (length b.lives + 1) told.0 in
    record {
      lives = rw (list_all-append (are_parts_in b.config) b.lives (b.parts ∷ []), k.lives, k.parts) refl;
      parts = refl;
      block = k.block;
      steps = omega (arith, k.steps, sum_by_push steps_of_parts b.lives b.parts);
      few = k.few;
      arms = omega (arith, k.arms, sum_by_push arms_of_parts b.lives b.parts);
      few_arms = k.few_arms;
      drains = omega (arith, k.drains, sum_by_push drains_of_parts b.lives b.parts);
      few_drains = k.few_drains;
      marks = omega (arith, k.marks, sum_by_push lines_at_least b.lives b.parts);
      few_lives = omega (arith, length-append b.lives (b.parts ∷ []));
    }

par_more : (b : Behind) (count : ℕ) → par_refusal b ≡ None → IsKept b count → IsKept (record b { block = Some [] }) (count + 1)
unfolding par_refusal
par_more b count e k =
    let none = none_of b.block (one_false (is_some b.block) cause.Block e) in
    record {
      lives = k.lives;
      parts = k.parts;
      block = refl;
      steps = omega (arith, k.steps);
      few = k.few;
      arms = k.arms;
      few_arms = k.few_arms;
      drains = omega (arith, k.drains);
      few_drains = k.few_drains;
      marks = omega (arith, k.marks);
      few_lives = k.few_lives;
    }

lane_begun : (b : Behind) (count : ℕ) → lane_refusal b ≡ None → IsKept b count → IsKept (record b { block = option_map (λ lanes. lanes ++ [] ∷ []) b.block }) (count + 1)
unfolding lane_refusal
lane_begun b count e k =
    let told = two_false (leb 8 (lane_count b.block)) (is_none b.block) cause.Many cause.Block e in
    record {
      lives = k.lives;
      parts = k.parts;
      block = block_with_lane b.config b.block told.0 k.block;
      steps = omega (arith, k.steps, steps_with_lane b.block);
      few = k.few;
      arms = k.arms;
      few_arms = k.few_arms;
      drains = omega (arith, k.drains, drains_with_lane b.block);
      few_drains = k.few_drains;
      marks = omega (arith, k.marks, marks_with_lane b.block);
      few_lives = k.few_lives;
    }

end_more : (b : Behind) (count : ℕ) → end_refusal b ≡ None → IsKept b count
    → IsKept (record b { parts = b.parts ++ option_to_list (option_map inr b.block); block = None }) (count + 1)
unfolding end_refusal
end_more b count e k =
    let has = not-false (has_lane b.block) (one_false (not (has_lane b.block)) cause.Block e) in
    record {
      lives = k.lives;
      parts = parts_with_block b.config b.block b.parts has k.block k.parts;
      block = refl;
      steps = omega (arith, k.steps, steps_with_block b.block b.parts);
      few = k.few;
      arms = omega (arith, k.arms, arms_with_block b.block b.parts);
      few_arms = k.few_arms;
      drains = omega (arith, k.drains, drains_with_block b.block b.parts);
      few_drains = k.few_drains;
      marks = omega (arith, k.marks, marks_with_block b.block b.parts);
      few_lives = k.few_lives;
    }

module _ (dids : List DidUse) where
  more : (l : Line) (past : List Line) → refusal dids (behind dids past) l ≡ None → IsKept (behind dids past) (length past) → IsKept (behind dids (l ∷ past)) (length past + 1)
  unfolding added_line refusal setting_refusal flash_refusal event_refusal did_refusal step_refusal
  more line.Skipped past e k = record {
    lives = k.lives;
    parts = k.parts;
    block = k.block;
    steps = k.steps;
    few = k.few;
    arms = k.arms;
    few_arms = k.few_arms;
    drains = k.drains;
    few_drains = k.few_drains;
    marks = omega (arith, k.marks);
    few_lives = k.few_lives;
  }
  more (line.Config id) past e k = setting (behind dids past) _ _ (length past) (begun_not (has_begun (behind dids past)) _ _ e) k
  more (line.Memory entries) past e k = setting (behind dids past) _ _ (length past) (begun_not (has_begun (behind dids past)) _ _ e) k
  more (line.Blocks blocks) past e k = setting (behind dids past) _ _ (length past) (begun_not (has_begun (behind dids past)) _ _ e) k
  more (line.Flash sectors pages) past e k = setting (behind dids past) _ _ (length past) (begun_not (has_begun (behind dids past)) _ _ e) k
  more (line.Event event) past e k = setting (behind dids past) _ _ (length past) (begun_not (has_begun (behind dids past)) _ _ e) k
  more (line.Did event id) past e k = setting (behind dids past) _ _ (length past) (begun_not (has_begun (behind dids past)) _ _ e) k
  more (line.Step s) past e k = let b = behind dids past in step_more b (length past) (step_of b.config s) (in_range b.config s (step_of b.config s) (is_read b.config s)) e k
  more line.Power past e k = power_more (behind dids past) (length past) e k
  more line.Par past e k = par_more (behind dids past) (length past) e k
  more line.Lane past e k = lane_begun (behind dids past) (length past) e k
  more line.End past e k = end_more (behind dids past) (length past) e k

  -- One more line, counted as the length of the lines with it.
  one_more : (l : Line) (past : List Line) → refusal dids (behind dids past) l ≡ None → IsKept (behind dids past) (length past) → IsKept (behind dids (l ∷ past)) (length (l ∷ past))
  one_more l past e k = let same : length past + 1 ≡ length (l ∷ past) = omega arith in subst (λ n. IsKept (behind dids (l ∷ past)) n) same (more l past e k)

  none_kept : IsKept (behind dids []) (length {A = Line} [])
  none_kept = record {
    lives = refl;
    parts = refl;
    block = refl;
    steps = omega arith;
    few = omega arith;
    arms = omega arith;
    few_arms = omega arith;
    drains = omega arith;
    few_drains = omega arith;
    marks = omega arith;
    few_lives = omega arith;
  }

  -- The lives that the lines give, with the one under way, are those of a script.
  pub within_limits : (texts : List (List ℕ)) (lines : List Line) → lines_behind dids [] texts ≡ Ok lines → length lines ≤ 1048577
      → let b = behind dids lines in IsWithinLimits b.config (b.lives ++ b.parts ∷ [])
  within_limits texts lines e few =
      let b = behind dids lines in
      let k = of_accepted_lines dids (λ (past : List Line). IsKept (behind dids past) (length past)) one_more [] texts lines none_kept e in
      record {
        in_range = rw (list_all-append (are_parts_in b.config) b.lives (b.parts ∷ []), k.lives, k.parts) refl;
        few = omega (arith, k.steps, k.few, sum_by_push steps_of_parts b.lives b.parts);
        few_arms = omega (arith, k.arms, k.few_arms, sum_by_push arms_of_parts b.lives b.parts);
        few_drains = omega (arith, k.drains, k.few_drains, sum_by_push drains_of_parts b.lives b.parts);
        few_parts = omega (arith, k.marks, few, sum_by_push lines_at_least b.lives b.parts);
        few_lives = omega (arith, k.few_lives, length-append b.lives (b.parts ∷ []));
      }
