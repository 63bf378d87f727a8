-- What the definitions come to.
use Rattle.std.specs.Prelude.{◌≡◌, ◌↔◌, map, ℕ, ◌/◌, ◌%◌, ◌^◌, ◌<◌, ◌≤◌, ◌⊎◌, List, [], ◌∷◌, ◌++◌, length, codes, Bool, true, false, ◌&&◌, ◌||◌, nat_le, nat_lt, Some, None, Ok, Err}
use Rattle.std.specs.List.{find, list_all}
use Rattle.flt_config.specs.declared.TheConstants.{EVENTS}
use Rattle.flt_config.specs.declared.config.Config.{Config}
use Rattle.flt_config.specs.declared.config.DidUse.{DidUse}
use Rattle.flt_flash.specs.declared.arm.Arm.{Arm}
use Rattle.flt_flash.specs.State.{CanArm}
use Rattle.flt_model.specs.declared.call.Report.TheVariants.{Failed, PrePassed, PreFailed}
use Rattle.flt_script.specs.declared.fault.LineCause.TheVariants.{Large}
use Rattle.flt_script.specs.declared.fault.ScriptFault.{ScriptFault}
use Rattle.flt_script.specs.declared.line.StepLine.{StepLine}
use Rattle.flt_script.specs.Said.{Line}
use Rattle.flt_script.specs.Said as line
use Rattle.flt_script.specs.declared.pair.Key.TheVariants.{Dtc, Count, JumpUp, JumpDown, Time}
use Rattle.flt_step.specs.declared.step.Step.{Step}
use Rattle.flt_step.specs.declared.step.Step.TheVariants as step
use Rattle.flt_script.specs.Behind.{behind, step_of}
use Rattle.flt_step.specs.Words.{two_digits, with_number, with_two_numbers, step_text}
use Rattle.flt_script.specs.Causes.{causes, cause_holds, cause_told}
use Rattle.flt_script.specs.Counts.{IsCounted}
use Rattle.flt_script.specs.Event.{has_pair, event_line_of}
use Rattle.flt_script.specs.Line.{line_of}
use Rattle.flt_script.specs.Load.{load_number, load_lanes}
use Rattle.flt_script.specs.Pair.{any_twice}
use Rattle.flt_script.specs.Refusal.{line_behind}
use Rattle.flt_script.specs.Script.{ScriptContent, lines_behind, script_of}
use Rattle.flt_step.specs.Step.{is_step_in}

-- These bytes are this script.
abbrev pub IsScript : List DidUse → List ℕ → ScriptContent → Type 0
IsScript dids bytes content = script_of dids bytes ≡ Ok content

-- These bytes are no script, and this is their first fault.
abbrev pub IsFaulty : List DidUse → List ℕ → ScriptFault → Type 0
IsFaulty dids bytes fault = script_of dids bytes ≡ Err fault

-- The bytes are one script or have one fault, and never both.
pub record HasOneOutcome (dids : List DidUse) (bytes : List ℕ) : Type 0 where
  pub some : ((content : ScriptContent) × IsScript dids bytes content) ⊎ ((fault : ScriptFault) × IsFaulty dids bytes fault)
  pub one_script : (content other : ScriptContent) → IsScript dids bytes content → IsScript dids bytes other → content ≡ other
  pub one_fault : (fault other : ScriptFault) → IsFaulty dids bytes fault → IsFaulty dids bytes other → fault ≡ other
  pub never_both : (content : ScriptContent) (fault : ScriptFault) → IsScript dids bytes content → IsFaulty dids bytes fault → ⊥

-- All bytes have one outcome.
abbrev pub EachHasOneOutcome : Type 0
EachHasOneOutcome = (dids : List DidUse) (bytes : List ℕ) → HasOneOutcome dids bytes

-- The text of a line is read as a step that is this one under a configuration.
abbrev pub IsLineReadAs : List ℕ → Config → Step → Type 0
IsLineReadAs text config step = (written : StepLine) × (line_of text ≡ Ok (line.Step written)) × (step_of config written ≡ Some step)

-- Each is below 256.
abbrev pub are_bytes : List ℕ → Bool
are_bytes bytes = list_all (λ byte. nat_lt byte 256) bytes

-- A step is one that its type holds: a request has at most 16 bytes, each is below 256, and so is the number of an application
-- block.
abbrev pub is_held : Step → Bool
is_held (step.Request tester bytes) = nat_le (length bytes.items) 16 && are_bytes bytes.items
is_held (step.Post urgent block bytes) = nat_lt block 256 && are_bytes bytes.items
is_held (step.Get block) = nat_lt block 256
is_held (step.Ask block) = nat_lt block 256
is_held _ = true

-- What a step prints is read again as that step.
abbrev pub PrintedStepIsReadAgain : Type 0
PrintedStepIsReadAgain =
    (config : Config) (step : Step) → length config.events.items ≤ EVENTS → is_step_in config step ≡ true → is_held step ≡ true
    → IsLineReadAs (step_text step) config step

-- What a step of a script arms is what a bench can be armed with.
abbrev pub EachArmCanBeMade : Type 0
EachArmCanBeMade = (config : Config) (arm : Arm) → is_step_in config (step.Arming arm) ≡ true → CanArm arm

-- The cause that is reported for a line is the first of the table that holds of it, and none is reported where none holds.
abbrev pub FirstCauseIsTold : Type 0
FirstCauseIsTold =
    (dids : List DidUse) (past : List Line) (text : List ℕ)
    → cause_told (line_behind dids past text) ≡ find (cause_holds dids (behind dids past) text) causes

-- Line 0 is reported for a script that is too large, and for no other fault: each other fault has its line. So a configuration that
-- wants room has its flash line, since the pages that are used without one suffice for each configuration.
abbrev pub LineZeroIsLarge : Type 0
LineZeroIsLarge =
    (dids : List DidUse) (bytes : List ℕ) (fault : ScriptFault) → IsFaulty dids bytes fault → (fault.line ≡ 0) ↔ (fault.cause ≡ Large)

-- The kept counts and settings of lines that were not refused are how many there are of each kind, which are there, whether a block
-- is under way, and which of its lanes have a save, drain or get.
abbrev pub AcceptedLinesAreCounted : Type 0
AcceptedLinesAreCounted =
    (dids : List DidUse) (texts : List (List ℕ)) (lines : List Line) → lines_behind dids [] texts ≡ Ok lines → IsCounted dids lines

-- A data identifier in four hexadecimal digits.
abbrev pub did_text : ℕ → List ℕ
did_text id = two_digits (id / 256) ++ two_digits (id % 256)

-- Configuration lines other than those of events are read again as their words say.
pub record WrittenSettingsAreRead : Type 0 where
  pub config : (id : ℕ) → id < 10 ^ 10 → line_of (with_number (codes "config") id) ≡ Ok (line.Config id)
  pub memory : (entries : ℕ) → entries < 10 ^ 10 → line_of (with_number (codes "memory") entries) ≡ Ok (line.Memory entries)
  pub blocks : (blocks : ℕ) → blocks < 10 ^ 10 → line_of (with_number (codes "blocks") blocks) ≡ Ok (line.Blocks blocks)
  pub flash : (sectors pages : ℕ) → sectors < 10 ^ 10 → pages < 10 ^ 10
      → line_of (with_two_numbers (codes "flash") sectors pages) ≡ Ok (line.Flash sectors pages)
  pub did : (event id : ℕ) → event < 10 ^ 10 → id < 65536 → line_of (with_number (codes "did") event ++ 32 ∷ did_text id) ≡ Ok (line.Did event id)

-- An event line is not of its form where a pair occurs twice, where dtc is missing, and where time occurs beside what
-- belongs to a counter.
pub record OddEventsAreRefused : Type 0 where
  pub twice : (number : List ℕ) (pairs : List (List ℕ)) → any_twice pairs ≡ true → event_line_of (number ∷ pairs) ≡ None
  pub no_dtc : (number : List ℕ) (pairs : List (List ℕ)) → has_pair Dtc pairs ≡ false → event_line_of (number ∷ pairs) ≡ None
  pub both : (number : List ℕ) (pairs : List (List ℕ)) → has_pair Time pairs ≡ true
      → (has_pair Count pairs || has_pair JumpUp pairs || has_pair JumpDown pairs) ≡ true → event_line_of (number ∷ pairs) ≡ None

-- A load of four reports, one of each lane: fail 1, prepass 6, prefail 11 and prefail 15.
pub record LoadOfFour : Type 0 where
  pub numbers : map (load_number 4) (1 ∷ 2 ∷ 3 ∷ 4 ∷ []) ≡ 119106029 ∷ 1583775778 ∷ 687545011 ∷ 243210352 ∷ []
  pub steps : load_lanes 4 ≡
      (step.Report 1 Failed ∷ []) ∷ (step.Report 6 PrePassed ∷ []) ∷ (step.Report 11 PreFailed ∷ []) ∷ (step.Report 15 PreFailed ∷ []) ∷ []
