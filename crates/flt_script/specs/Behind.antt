-- What the lines before a line gave, none of which was refused: nothing at first, and then what each line adds.
use Rattle.std.specs.Prelude.{ℕ, ◌+◌, List, [], ◌∷◌, ◌++◌, length, Bool, true, false, Option, Some, None, is_some, option_map, option_to_list, nat_lt, nat_le, ◌==◌, ◌&&◌, ◌||◌, if◌then◌else◌, find, slice_get, slice_set}
use Rattle.std.proofs.Common.{inl, inr}
use Rattle.std.specs.List.{list_any}
use Rattle.flt_config.specs.declared.config.Config.{Config}
use Rattle.flt_config.specs.declared.config.DidUse.{DidUse}
use Rattle.flt_config.specs.declared.config.EventCfg.{EventCfg}
use Rattle.flt_did.specs.Rows.{is_did}
use Rattle.flt_flash.specs.declared.arm.Arm.{Arm}
use Rattle.flt_flash.specs.declared.arm.Arm.TheVariants as arm
use Rattle.flt_script.specs.declared.arm.ArmLine.{ArmLine}
use Rattle.flt_script.specs.declared.arm.ArmLine.TheVariants.{Cut, Fault, Mute}
use Rattle.flt_script.specs.declared.line.StepLine.{StepLine}
use Rattle.flt_script.specs.declared.line.StepLine.TheVariants.{Report, Show, Cycle, Tick, Signal, Enable, Request, Save, Post, Drain, Get, Ask, Arming}
use Rattle.flt_script.specs.Said.{Line}
use Rattle.flt_script.specs.Said as line
use Rattle.flt_script.specs.declared.places.Places.{Places}
use Rattle.flt_step.specs.declared.step.Step.{Step}
use Rattle.flt_step.specs.declared.step.Step.TheVariants as step
use Rattle.flt_script.specs.Event.{event_held}
use Rattle.flt_script.specs.Gives.{◌⇒◌, given_by}
use Rattle.flt_script.specs.Numeral.{if_below, up_to, from_to}
use Rattle.flt_step.specs.Part.{PartOf}
use Rattle.flt_step.specs.Step.{arms_of_step, drain_count, has_store_step}

-- All that the rules for the next line look at: what is configured and by which lines, the lives that were ended, the
-- parts of the life under way, the lanes of the block under way, if there is one, and how many steps, how many of cut, fault
-- and mute, and how many drains there are in all lives together.
pub record Behind : Type 0 where
  pub config : Config
  pub places : Places
  pub lives : List (List (PartOf Step))
  pub parts : List (PartOf Step)
  pub block : Option (List (List Step))
  pub steps : ℕ
  pub arms : ℕ
  pub drains : ℕ

-- What is configured where nothing is written.
abbrev pub default_config : Config
default_config = record { id = 0; memory = 16; pages = 512; blocks = 8; events = record { items = [] } }

-- No line configures.
abbrev pub no_places : Places
no_places = record { config = None; memory = None; blocks = None; flash = None; events = record { items = [] } }

-- No line.
abbrev pub blank : Behind
blank = record { config = default_config; places = no_places; lives = []; parts = []; block = None; steps = 0; arms = 0; drains = 0 }

-- How many events are configured.
abbrev pub event_count : Behind → ℕ
event_count b = length b.config.events.items

-- There is already a step, the end of a life or the beginning of a block.
abbrev pub has_begun : Behind → Bool
has_begun b = nat_lt 0 (length b.parts) || nat_lt 0 (length b.lives) || is_some b.block

-- How many lanes the block under way has, 0 where there is none.
abbrev pub lane_count : Option (List (List Step)) → ℕ
lane_count block = given_by block 0 length

-- A lane is under way.
abbrev pub has_lane : Option (List (List Step)) → Bool
has_lane None = false
has_lane (Some []) = false
has_lane (Some (lane ∷ lanes)) = true

-- A lane before the last has a save, drain or get.
abbrev pub has_earlier_store : List (List Step) → Bool
has_earlier_store [] = false
has_earlier_store (lane ∷ []) = false
has_earlier_store (lane ∷ next ∷ lanes) = has_store_step lane || has_earlier_store (next ∷ lanes)

-- A lane of the block under way has one.
abbrev pub is_store_used : Option (List (List Step)) → Bool
is_store_used block = given_by block false (list_any has_store_step)

-- A lane before the last of the block under way has one.
abbrev pub is_store_taken : Option (List (List Step)) → Bool
is_store_taken block = given_by block false has_earlier_store

-- The data identifiers that the event of this number uses.
abbrev pub uses_of : ℕ → List EventCfg → List DidUse
uses_of number events = given_by (slice_get events number) [] (λ event. event.dids.items)

-- The event uses one more data identifier, if there is one.
abbrev pub with_use : Option DidUse → EventCfg → EventCfg
with_use did event = record event { dids = record { items = event.dids.items ++ option_to_list did } }

-- The same of the event of this number.
abbrev pub with_use_at : ℕ → Option DidUse → List EventCfg → List EventCfg
with_use_at number did events = given_by (slice_get events number) events (λ event. slice_set events number (with_use did event))

-- The fault to be armed, or nothing where a number is out of its range.
unfoldable pub arm_of : ArmLine → Option Arm
arm_of (Cut after pattern) = option_map (λ after. arm.Cut after pattern) (from_to 1 65535 after)
arm_of (Fault after pattern) = option_map (λ after. arm.Fault after pattern) (from_to 1 65535 after)
arm_of (Mute sector page times) =
    up_to 1 sector ⇒ λ sector. up_to 1023 page ⇒ λ page. from_to 1 65535 times ⇒ λ times. Some (arm.Mute sector page times)

-- The step of a line under this configuration, or nothing where a number is out of its range.
abbrev pub step_of : Config → StepLine → Option Step
step_of config (Report event report) = option_map (λ event. step.Report event report) (if_below (length config.events.items) event)
step_of config (Show event) = option_map step.Show (if_below (length config.events.items) event)
step_of config (Cycle cycle) = option_map step.Cycle (up_to 3 cycle)
step_of config (Tick ticks) = option_map step.Tick (from_to 1 65535 ticks)
step_of config (Signal index value) = up_to 7 index ⇒ λ index. up_to 65535 value ⇒ λ value. Some (step.Signal index value)
step_of config (Enable condition value) = up_to 7 condition ⇒ λ condition. up_to 1 value ⇒ λ value. Some (step.Enable condition (value == 1))
step_of config (Request tester bytes) = if nat_le tester 3 && nat_lt 0 (length bytes.items) then Some (step.Request tester bytes) else None
step_of config Save = Some step.Save
step_of config (Post urgent block bytes) =
    if nat_lt block config.blocks && nat_lt 0 (length bytes.items) && nat_le (length bytes.items) 32
    then Some (step.Post urgent block bytes) else None
step_of config Drain = Some step.Drain
step_of config (Get block) = option_map step.Get (if_below config.blocks block)
step_of config (Ask block) = option_map step.Ask (if_below config.blocks block)
step_of config (Arming arm) = option_map step.Arming (arm_of arm)

-- How many of cut, fault and mute there are with this step.
abbrev pub arms_with : Behind → StepLine → ℕ
arms_with b step = b.arms + given_by (step_of b.config step) 0 arms_of_step

-- How many drains there are with this step.
abbrev pub drains_with : Behind → StepLine → ℕ
drains_with b step = b.drains + given_by (step_of b.config step) 0 drain_count

-- One more step in the last lane, if there is one.
abbrev pub in_last_lane : Option Step → List (List Step) → List (List Step)
in_last_lane step [] = []
in_last_lane step (lane ∷ []) = (lane ++ option_to_list step) ∷ []
in_last_lane step (lane ∷ next ∷ lanes) = lane ∷ in_last_lane step (next ∷ lanes)

-- One more step after the parts of a life, unless it is in a block.
abbrev pub with_step : Option (List (List Step)) → Option Step → List (PartOf Step) → List (PartOf Step)
with_step None step parts = parts ++ option_to_list (option_map inl step)
with_step (Some lanes) step parts = parts

-- What one more line adds, with these data identifiers in the table. The line's number is counted from 1.
unfoldable pub added_line : List DidUse → ℕ → Behind → Line → Behind
added_line dids number b line.Skipped = b
added_line dids number b (line.Config id) =
    record b { config = record b.config { id = id }; places = record b.places { config = Some number } }
added_line dids number b (line.Memory entries) =
    record b { config = record b.config { memory = entries }; places = record b.places { memory = Some number } }
added_line dids number b (line.Blocks blocks) =
    record b { config = record b.config { blocks = blocks }; places = record b.places { blocks = Some number } }
added_line dids number b (line.Flash sectors pages) =
    record b { config = record b.config { pages = pages }; places = record b.places { flash = Some number } }
added_line dids number b (line.Event event) = record b {
  config = record b.config { events = record { items = b.config.events.items ++ option_to_list (event_held event) } };
  places = record b.places { events = record { items = b.places.events.items ++ number ∷ [] } };
}
added_line dids number b (line.Did event id) =
    record b { config = record b.config { events = record { items = with_use_at event (find (is_did id) dids) b.config.events.items } } }
added_line dids number b (line.Step step) = record b {
  parts = with_step b.block (step_of b.config step) b.parts;
  block = option_map (in_last_lane (step_of b.config step)) b.block;
  steps = b.steps + 1;
  arms = arms_with b step;
  drains = drains_with b step;
}
added_line dids number b line.Power = record b { lives = b.lives ++ b.parts ∷ []; parts = [] }
added_line dids number b line.Par = record b { block = Some [] }
added_line dids number b line.Lane = record b { block = option_map (λ lanes. lanes ++ [] ∷ []) b.block }
added_line dids number b line.End = record b { parts = b.parts ++ option_to_list (option_map inr b.block); block = None }

-- What these lines gave, the newest first, with these data identifiers in the table.
abbrev pub behind : List DidUse → List Line → Behind
behind dids [] = blank
behind dids (line ∷ past) = added_line dids (length past + 1) (behind dids past) line
