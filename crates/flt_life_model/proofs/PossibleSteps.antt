-- A step whose numbers are in their ranges is possible.
use Rattle.std.proofs.Common.{◌≡◌, leb, ltb, arith, true, length}
use Rattle.std.specs.Prelude.{◌&&◌}
use Rattle.std.proofs.lemmas.Bool.{and_parts, leb-true, ltb-true}
use Rattle.flt_config.specs.declared.config.Config.{Config}
use Rattle.flt_flash.specs.State.{CanArm}
use Rattle.flt_flash.specs.declared.arm.Arm.{Arm}
use Rattle.flt_flash.specs.declared.arm.Arm.TheVariants.{Cut, Fault, Mute}
use Rattle.flt_step.specs.Step.{is_arm_in, is_step_in}
use Rattle.flt_step.specs.declared.step.Step.{Step}
use Rattle.flt_step.specs.declared.step.Step.TheVariants as steps
use Rattle.flt_life_model.specs.Actions.{IsPossible, action_of}

possible_arm : (arm : Arm) → is_arm_in arm ≡ true → CanArm arm
possible_arm (Cut after pattern) is = let least = leb-true 1 after (and_parts (leb 1 after) (leb after 65535) is).0 in omega (arith, least)
possible_arm (Fault after pattern) is = let least = leb-true 1 after (and_parts (leb 1 after) (leb after 65535) is).0 in omega (arith, least)
possible_arm (Mute sector page times) is = tt

pub possible_step : (config : Config) (step : Step) → is_step_in config step ≡ true → IsPossible config (action_of step)
possible_step config (steps.Report event report) is = (tt, ltb-true event (length config.events.items) is)
possible_step config (steps.Show event) is = (tt, ltb-true event (length config.events.items) is)
possible_step config (steps.Cycle cycle) is = let most = leb-true cycle 3 is in (tt, omega (arith, most))
possible_step config (steps.Tick ticks) is = (tt, tt)
possible_step config (steps.Signal index value) is = let most = leb-true index 7 (and_parts (leb index 7) (leb value 65535) is).0 in (tt, omega (arith, most))
possible_step config (steps.Enable condition fulfilled) is = let most = leb-true condition 7 is in (tt, omega (arith, most))
possible_step config (steps.Request tester bytes) is =
    let parts = and_parts (leb tester 3) (ltb 0 (length bytes.items)) is in
    let most = leb-true tester 3 parts.0 in
    (tt, (omega (arith, most), ltb-true 0 (length bytes.items) parts.1))
possible_step config steps.Save is = tt
possible_step config (steps.Post urgent block bytes) is =
    let all = and_parts (ltb block config.blocks && ltb 0 (length bytes.items)) (leb (length bytes.items) 32) is in
    let parts = and_parts (ltb block config.blocks) (ltb 0 (length bytes.items)) all.0 in
    (tt, (ltb-true block config.blocks parts.0, ltb-true 0 (length bytes.items) parts.1, leb-true (length bytes.items) 32 all.1))
possible_step config steps.Drain is = tt
possible_step config (steps.Get block) is = ltb-true block config.blocks is
possible_step config (steps.Ask block) is = (tt, ltb-true block config.blocks is)
possible_step config (steps.Arming arm) is = possible_arm arm is
