-- A step in a place where it is not allowed is refused.
use Rattle.std.proofs.Common.{◌≡◌, ◌+◌, ◌<◌, ◌≤◌, List, [], ◌∷◌, ◌++◌, Bool, true, false, Option, Some, None, Ok, Err, refl, ap, inl}
use Rattle.std.specs.Prelude.{IfSome}
use Rattle.std.proofs.lemmas.Bool.{lt-leb, le-ltb}
use Rattle.flt_script.specs.declared.fault.LineCause.{LineCause}
use Rattle.flt_script.specs.declared.fault.LineCause.TheVariants.{Block}
use Rattle.flt_script.specs.declared.line.StepLine.{StepLine}
use Rattle.flt_script.specs.Said as line
use Rattle.flt_step.specs.declared.step.Step.{Step}
use Rattle.flt_script.specs.Behind.{Behind, added_line, in_last_lane, step_of}
use Rattle.flt_script.specs.Next.{with_line, with_lane_step}
use Rattle.flt_script.specs.Refusal.{is_step_misplaced, step_refusal, refusal}
use Rattle.flt_step.specs.Step.{arms_of_step, drain_count}

-- A step of a line that is read, where there are not too many.
module _ (w : StepLine) (s : Step) (b : Behind) (read : step_of b.config w ≡ Some s)
    (room : b.steps < 65536) (room_for_arms : b.arms + arms_of_step s ≤ 64) (room_for_drains : b.drains + drain_count s ≤ 1024) where
  -- Outside of blocks.
  pub put_alone : b.block ≡ None → with_line [] 0 b (line.Step w)
      ≡ Ok (record b { parts = b.parts ++ inl s ∷ []; steps = b.steps + 1; arms = b.arms + arms_of_step s; drains = b.drains + drain_count s })
  unfolding with_line added_line refusal step_refusal
  put_alone there =
      rw (
        read,
        lt-leb 65536 b.steps room,
        le-ltb 64 (b.arms + arms_of_step s) room_for_arms,
        le-ltb 1024 (b.drains + drain_count s) room_for_drains,
        there,
      ) refl

  -- In the last lane of a block.
  module _ (lanes : List (List Step)) (there : b.block ≡ Some lanes) where
    lane_put : (more : List (List Step)) (wrong : Bool) → is_step_misplaced (Some lanes) s ≡ wrong → with_lane_step s lanes ≡ Ok more → with_line [] 0 b (line.Step w)
        ≡ Ok (record b { block = Some more; steps = b.steps + 1; arms = b.arms + arms_of_step s; drains = b.drains + drain_count s })
    unfolding with_line added_line refusal step_refusal
    lane_put more true is e = let never = rw is at e in absurd cc
    lane_put more false is e =
        let known = rw is at e in
        let same : in_last_lane (Some s) lanes ≡ more = cc in
        rw (
          read,
          lt-leb 65536 b.steps room,
          le-ltb 64 (b.arms + arms_of_step s) room_for_arms,
          le-ltb 1024 (b.drains + drain_count s) room_for_drains,
          there,
          is,
          same,
        ) refl

    pub put_in_lane : (more : List (List Step)) → with_lane_step s lanes ≡ Ok more → with_line [] 0 b (line.Step w)
        ≡ Ok (record b { block = Some more; steps = b.steps + 1; arms = b.arms + arms_of_step s; drains = b.drains + drain_count s })
    put_in_lane more e = lane_put more (is_step_misplaced (Some lanes) s) refl e

    lane_refused : (c : LineCause) (wrong : Bool) → is_step_misplaced (Some lanes) s ≡ wrong → with_lane_step s lanes ≡ Err c → with_line [] 0 b (line.Step w) ≡ Err c
    unfolding with_line added_line refusal step_refusal
    lane_refused c true is e =
        let known = rw is at e in
        let same : Block ≡ c = cc in
        rw (
          read,
          lt-leb 65536 b.steps room,
          le-ltb 64 (b.arms + arms_of_step s) room_for_arms,
          le-ltb 1024 (b.drains + drain_count s) room_for_drains,
          there,
          is,
        ) (ap (λ (x : LineCause). Err x) same)
    lane_refused c false is e = let never = rw is at e in absurd cc

    pub refused_in_lane : (fault : Option LineCause) → IfSome fault (λ c. with_lane_step s lanes ≡ Err c) → IfSome fault (λ c. with_line [] 0 b (line.Step w) ≡ Err c)
    refused_in_lane None e = tt
    refused_in_lane (Some c) e = lane_refused c (is_step_misplaced (Some lanes) s) refl e
