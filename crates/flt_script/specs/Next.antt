-- One more line, as the reader of the script takes it. This serves the proof; the manual is Line, Behind, Refusal and Script.
use Rattle.std.specs.Prelude.{ℕ, List, Bool, true, false, Option, Some, None, map, option_map, Result, Ok, Err, if◌then◌else◌}
use Rattle.std.specs.Option.{ok_or}
use Rattle.flt_config.specs.declared.config.DidUse.{DidUse}
use Rattle.flt_script.specs.declared.draft.Draft.{Draft}
use Rattle.flt_script.specs.declared.fault.LineCause.{LineCause}
use Rattle.flt_script.specs.declared.fault.LineCause.TheVariants.{Form, Block}
use Rattle.flt_script.specs.declared.fault.LineFault.{LineFault}
use Rattle.flt_script.specs.declared.fault.LineFault.TheVariants as line_faults
use Rattle.flt_script.specs.declared.fault.ScriptFault.{ScriptFault}
use Rattle.flt_script.specs.declared.keyword.Keyword.{Keyword}
use Rattle.flt_script.specs.declared.keyword.Keyword.TheVariants as keyword
use Rattle.flt_script.specs.Said.{Line}
use Rattle.flt_script.specs.Said as line
use Rattle.flt_step.specs.declared.step.Step.{Step}
use Rattle.flt_script.specs.Behind.{Behind, added_line, in_last_lane}
use Rattle.flt_script.specs.Gives.{◌>>=◌}
use Rattle.flt_script.specs.Line.{line_with, line_of}
use Rattle.flt_step.specs.Part.{parts_of}
use Rattle.flt_script.specs.Refusal.{refusal, unless_refused, is_step_misplaced}

-- The keyword begins a step.
abbrev pub begins_step : Keyword → Bool
begins_step keyword.Event = false
begins_step keyword.Did = false
begins_step keyword.Config = false
begins_step keyword.Memory = false
begins_step keyword.Blocks = false
begins_step keyword.Flash = false
begins_step keyword.Power = false
begins_step keyword.Par = false
begins_step keyword.Lane = false
begins_step keyword.End = false
begins_step _ = true

-- What a line says by the keyword that it begins with and the words after that, if it begins with one and is not refused.
abbrev pub said_behind : Result (Option (Keyword × List (List ℕ))) LineCause → Result Line LineCause
said_behind (Err cause) = Err cause
said_behind (Ok None) = Ok line.Skipped
said_behind (Ok (Some first)) = ok_or (line_with first.0 first.1) Form

-- A draft without where it lies in memory.
abbrev pub state : Draft → Behind
state draft = record {
  config = draft.config;
  places = draft.places;
  lives = map (λ life. parts_of life.items) draft.lives.items;
  parts = parts_of draft.parts.items;
  block = option_map (λ block. map (λ lane. lane.items) block.lanes.items) draft.block;
  steps = draft.steps;
  arms = draft.arms;
  drains = draft.drains;
}

-- What there is after a line, or why it is refused.
unfoldable pub with_line : List DidUse → ℕ → Behind → Line → Result Behind LineCause
with_line dids number b line = unless_refused (refusal dids b line) (added_line dids number b line)

-- The same of a line's text.
unfoldable pub with_text : List DidUse → ℕ → Behind → List ℕ → Result Behind LineCause
with_text dids number b text = line_of text >>= λ line. with_line dids number b line

-- The lanes of a block with one more step, or that it is not allowed there.
abbrev pub with_lane_step : Step → List (List Step) → Result (List (List Step)) LineCause
with_lane_step step lanes = if is_step_misplaced (Some lanes) step then Err Block else Ok (in_last_lane (Some step) lanes)

-- What there is after the words that follow a keyword, or why they are refused.
unfoldable pub with_words : List DidUse → ℕ → Behind → Keyword → List (List ℕ) → Result Behind LineCause
with_words dids number b keyword words = ok_or (line_with keyword words) Form >>= λ said. with_line dids number b said

-- What a line's fault says, where it is not a lack of memory.
abbrev pub line_cause_of : LineFault → Option LineCause
line_cause_of line_faults.Memory = None
line_cause_of (line_faults.Cause cause) = Some cause

-- A cause at its line.
abbrev pub fault_at : ℕ → Option LineCause → Option ScriptFault
fault_at number cause = option_map (λ c. record { line = number; cause = c }) cause
