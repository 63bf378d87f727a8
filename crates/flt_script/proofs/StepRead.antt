-- A step that was read is as its line says.
use Rattle.std.proofs.Common.{◌≡◌, ℕ, length, Bool, true, false, ◌&&◌, ltb, leb, Option, Some, None, refl, sym, ◌∙◌}
use Rattle.std.specs.Prelude.{IfSome, is_some, is_none, not, option_map, ◌==◌}
use Rattle.std.proofs.Math.Bool.{and_assoc}
use Rattle.flt_config.specs.declared.config.Config.{Config}
use Rattle.flt_flash.specs.declared.arm.Arm.TheVariants as arm
use Rattle.flt_script.specs.declared.arm.ArmLine.TheVariants.{Cut, Fault, Mute}
use Rattle.flt_script.specs.declared.line.StepLine.{StepLine}
use Rattle.flt_script.specs.declared.line.StepLine.TheVariants.{Report, Show, Cycle, Tick, Signal, Enable, Request, Save, Post, Drain, Get, Ask, Arming}
use Rattle.flt_step.specs.declared.step.Step.{Step}
use Rattle.flt_step.specs.declared.step.Step.TheVariants as step
use Rattle.flt_script.specs.Behind.{arm_of, step_of}
use Rattle.flt_script.specs.Causes.{is_step_written, arms_written, drains_written, is_for_no_lane, is_for_one_lane}
use Rattle.flt_script.specs.Gives.{◌⇒◌, given_by}
use Rattle.flt_step.specs.Step.{is_step_in, is_lane_step, is_store_step, arms_of_step, drain_count}
use Rattle.flt_script.proofs.Kept.{kept}

-- A step is as its line says.
pub record IsSaid (config : Config) (written : StepLine) (s : Step) : Type 0 where
  pub within : is_step_in config s ≡ is_step_written config written
  pub arms : arms_of_step s ≡ arms_written written
  pub drains : drain_count s ≡ drains_written written
  pub no_lane : not (is_lane_step s) ≡ is_for_no_lane written
  pub one_lane : is_store_step s ≡ is_for_one_lane written

-- What is read of a line is a step, which is so, where the numbers are in their ranges.
pub record IsRead (config : Config) (written : StepLine) (read : Option Step) : Type 0 where
  pub some : is_some read ≡ is_step_written config written
  pub said : IfSome read (IsSaid config written)

module _ (config : Config) (w : StepLine) (s : Step) (said : IsSaid config w s) where
  by_one : (t : Bool) (read : Bool → Option Step) → read true ≡ Some s → read false ≡ None → is_step_written config w ≡ t → IsRead config w (read t)
  by_one true read some none e = rw some record { some = sym e; said = said }
  by_one false read some none e = rw none record { some = sym e; said = tt }

  by_two : (t u : Bool) (read : Bool → Bool → Option Step) → read true true ≡ Some s → read true false ≡ None → read false u ≡ None
      → is_step_written config w ≡ (t && u) → IsRead config w (read t u)
  by_two true true read some second first e = rw some record { some = sym e; said = said }
  by_two true false read some second first e = rw second record { some = sym e; said = tt }
  by_two false u read some second first e = rw first record { some = sym e; said = tt }

  by_three : (t u v : Bool) (read : Bool → Bool → Bool → Option Step) → read true true true ≡ Some s → read true true false ≡ None
      → read true false v ≡ None → read false u v ≡ None → is_step_written config w ≡ (t && u && v) → IsRead config w (read t u v)
  by_three true true true read some third second first e = rw some record { some = sym e; said = said }
  by_three true true false read some third second first e = rw third record { some = sym e; said = tt }
  by_three true false v read some third second first e = rw second record { some = sym e; said = tt }
  by_three false u v read some third second first e = rw first record { some = sym e; said = tt }

-- A condition is said by 0 or 1.
enable_read : (config : Config) (condition value : ℕ) (t u : Bool) → leb condition 7 ≡ t → leb value 1 ≡ u
    → IsRead config (Enable condition value) (kept t condition ⇒ λ condition. kept u value ⇒ λ value. Some (step.Enable condition (value == 1)))
enable_read config condition value true true e f = record {
  some = rw (e, f) refl;
  said = record { within = rw (e, f) refl; arms = refl; drains = refl; no_lane = refl; one_lane = refl };
}
enable_read config condition value true false e f = record { some = rw (e, f) refl; said = tt }
enable_read config condition value false u e f = record { some = rw e refl; said = tt }

module _ (config : Config) where
  pub is_read : (w : StepLine) → IsRead config w (step_of config w)
  unfolding arm_of
  is_read (Report event report) =
      by_one config (Report event report) (step.Report event report) record { within = refl; arms = refl; drains = refl; no_lane = refl; one_lane = refl }
      (ltb event (length config.events.items)) (λ t. option_map (λ (n : ℕ). step.Report n report) (kept t event)) refl refl refl
  is_read (Show event) =
      by_one config (Show event) (step.Show event) record { within = refl; arms = refl; drains = refl; no_lane = refl; one_lane = refl }
      (ltb event (length config.events.items)) (λ t. option_map step.Show (kept t event)) refl refl refl
  is_read (Cycle cycle) =
      by_one config (Cycle cycle) (step.Cycle cycle) record { within = refl; arms = refl; drains = refl; no_lane = refl; one_lane = refl }
      (leb cycle 3) (λ t. option_map step.Cycle (kept t cycle)) refl refl refl
  is_read (Tick ticks) =
      by_one config (Tick ticks) (step.Tick ticks) record { within = refl; arms = refl; drains = refl; no_lane = refl; one_lane = refl }
      (leb 1 ticks && leb ticks 65535) (λ t. option_map step.Tick (kept t ticks)) refl refl refl
  is_read (Signal index value) =
      by_two config (Signal index value) (step.Signal index value) record { within = refl; arms = refl; drains = refl; no_lane = refl; one_lane = refl }
      (leb index 7) (leb value 65535) (λ t u. kept t index ⇒ λ index. kept u value ⇒ λ value. Some (step.Signal index value)) refl refl refl refl
  is_read (Enable condition value) = enable_read config condition value (leb condition 7) (leb value 1) refl refl
  is_read (Request tester bytes) =
      by_one config (Request tester bytes) (step.Request tester bytes) record { within = refl; arms = refl; drains = refl; no_lane = refl; one_lane = refl }
      (leb tester 3 && ltb 0 (length bytes.items)) (λ t. kept t (step.Request tester bytes)) refl refl refl
  is_read Save =
      by_one config Save step.Save record { within = refl; arms = refl; drains = refl; no_lane = refl; one_lane = refl }
      true (λ t. kept t step.Save) refl refl refl
  is_read (Post urgent block bytes) =
      by_one config (Post urgent block bytes) (step.Post urgent block bytes) record { within = refl; arms = refl; drains = refl; no_lane = refl; one_lane = refl }
      (ltb block config.blocks && ltb 0 (length bytes.items) && leb (length bytes.items) 32) (λ t. kept t (step.Post urgent block bytes)) refl refl refl
  is_read Drain =
      by_one config Drain step.Drain record { within = refl; arms = refl; drains = refl; no_lane = refl; one_lane = refl }
      true (λ t. kept t step.Drain) refl refl refl
  is_read (Get block) =
      by_one config (Get block) (step.Get block) record { within = refl; arms = refl; drains = refl; no_lane = refl; one_lane = refl }
      (ltb block config.blocks) (λ t. option_map step.Get (kept t block)) refl refl refl
  is_read (Ask block) =
      by_one config (Ask block) (step.Ask block) record { within = refl; arms = refl; drains = refl; no_lane = refl; one_lane = refl }
      (ltb block config.blocks) (λ t. option_map step.Ask (kept t block)) refl refl refl
  is_read (Arming (Cut after pattern)) =
      by_one config (Arming (Cut after pattern)) (step.Arming (arm.Cut after pattern)) record { within = refl; arms = refl; drains = refl; no_lane = refl; one_lane = refl }
      (leb 1 after && leb after 65535) (λ t. option_map step.Arming (option_map (λ (n : ℕ). arm.Cut n pattern) (kept t after))) refl refl refl
  is_read (Arming (Fault after pattern)) =
      by_one config (Arming (Fault after pattern)) (step.Arming (arm.Fault after pattern)) record { within = refl; arms = refl; drains = refl; no_lane = refl; one_lane = refl }
      (leb 1 after && leb after 65535) (λ t. option_map step.Arming (option_map (λ (n : ℕ). arm.Fault n pattern) (kept t after))) refl refl refl
  is_read (Arming (Mute sector page times)) =
      by_three config (Arming (Mute sector page times)) (step.Arming (arm.Mute sector page times))
      record { within = and_assoc (leb sector 1 && leb page 1023) (leb 1 times) (leb times 65535); arms = refl; drains = refl; no_lane = refl; one_lane = refl }
      (leb sector 1) (leb page 1023) (leb 1 times && leb times 65535)
      (λ t u v. option_map step.Arming (kept t sector ⇒ λ sector. kept u page ⇒ λ page. kept v times ⇒ λ times. Some (arm.Mute sector page times))) refl refl refl refl refl

-- A step that was read is in its ranges.
pub in_range : (config : Config) (w : StepLine) (read : Option Step) → IsRead config w read → IfSome read (λ s. is_step_in config s ≡ true)
in_range config w None r = tt
in_range config w (Some s) r = r.said.within ∙ sym r.some

-- It has as many arms and drains as its line.
pub arms_read : (config : Config) (w : StepLine) (read : Option Step) → IsRead config w read → is_none read ≡ false → given_by read 0 arms_of_step ≡ arms_written w
arms_read config w None r e = absurd cc
arms_read config w (Some s) r e = r.said.arms

pub drains_read : (config : Config) (w : StepLine) (read : Option Step) → IsRead config w read → is_none read ≡ false → given_by read 0 drain_count ≡ drains_written w
drains_read config w None r e = absurd cc
drains_read config w (Some s) r e = r.said.drains

-- It is one of which one lane at most has any where its line says so.
pub one_lane_read : (config : Config) (w : StepLine) (read : Option Step) → IsRead config w read → IfSome read (λ s. is_store_step s ≡ is_for_one_lane w)
one_lane_read config w None r = tt
one_lane_read config w (Some s) r = r.said.one_lane
