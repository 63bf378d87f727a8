-- A line against the lines before it: why it is not allowed there.
use Rattle.std.specs.Prelude.{ℕ, ◌+◌, List, [], ◌∷◌, length, find, Bool, true, false, ◌==◌, ◌&&◌, ◌||◌, nat_lt, nat_le, not, is_some, is_none, Option, Some, None, Result, Ok, Err, if◌then◌else◌}
use Rattle.flt_config.specs.declared.TheConstants.{EVENTS}
use Rattle.flt_config.specs.declared.config.DidUse.{DidUse}
use Rattle.flt_did.specs.Rows.{is_did}
use Rattle.flt_script.specs.declared.fault.LineCause.{LineCause}
use Rattle.flt_script.specs.declared.fault.LineCause.TheVariants.{Order, Range, Many, Block, Did}
use Rattle.flt_script.specs.declared.event.EventLine.{EventLine}
use Rattle.flt_script.specs.declared.line.StepLine.{StepLine}
use Rattle.flt_script.specs.Said.{Line}
use Rattle.flt_script.specs.Said as line
use Rattle.flt_step.specs.declared.step.Step.{Step}
use Rattle.flt_script.specs.Behind.{Behind, behind, event_count, has_begun, lane_count, has_lane, has_earlier_store, uses_of, step_of, arms_with, drains_with}
use Rattle.flt_script.specs.Event.{event_held}
use Rattle.flt_script.specs.Gives.{◌>>=◌, given_by}
use Rattle.flt_script.specs.Line.{line_of}
use Rattle.flt_step.specs.Step.{is_lane_step, is_store_step}

-- The cause of the first test that holds.
abbrev pub first_cause : List (Bool × LineCause) → Option LineCause
first_cause [] = None
first_cause (row ∷ rows) = if row.0 then Some row.1 else first_cause rows

-- A setting, by the line that set it before and the greatest number that the configuration holds there.
unfoldable pub setting_refusal : Behind → Option ℕ → ℕ → ℕ → Option LineCause
setting_refusal b earlier greatest value = first_cause (
    (has_begun b || is_some earlier, Order) ∷
    (nat_lt greatest value, Range) ∷ [])

-- The flash, of two sectors.
unfoldable pub flash_refusal : Behind → ℕ → ℕ → Option LineCause
flash_refusal b sectors pages = first_cause (
    (has_begun b || is_some b.places.flash, Order) ∷
    (not (sectors == 2) || nat_lt 65535 pages, Range) ∷ [])

-- An event, whose number is the next, of at most 256.
unfoldable pub event_refusal : Behind → EventLine → Option LineCause
event_refusal b event = first_cause (
    (has_begun b || not (event.number == event_count b), Order) ∷
    (is_none (event_held event), Range) ∷
    (nat_le EVENTS (event_count b), Many) ∷ [])

-- A data identifier that the table has, of at most 8 for an event that is there.
unfoldable pub did_refusal : List DidUse → Behind → ℕ → ℕ → Option LineCause
did_refusal dids b event id = first_cause (
    (has_begun b || nat_le (event_count b) event, Order) ∷
    (nat_le 8 (length (uses_of event b.config.events.items)), Many) ∷
    (is_none (find (is_did id) dids), Did) ∷ [])

-- A step between the beginning of a block and its first lane, in a lane one that is not allowed there, or a save, drain or
-- get where another lane of the block has one of them.
abbrev pub is_step_misplaced : Option (List (List Step)) → Step → Bool
is_step_misplaced None step = false
is_step_misplaced (Some []) step = true
is_step_misplaced (Some (lane ∷ lanes)) step = not (is_lane_step step) || is_store_step step && has_earlier_store (lane ∷ lanes)

-- A step, of at most 65,536, of which at most 64 are cut, fault or mute and 1,024 are drain, where it is allowed.
unfoldable pub step_refusal : Behind → StepLine → Option LineCause
step_refusal b step = first_cause (
    (is_none (step_of b.config step), Range) ∷
    (nat_le 65536 b.steps || nat_lt 64 (arms_with b step) || nat_lt 1024 (drains_with b step), Many) ∷
    (given_by (step_of b.config step) false (is_step_misplaced b.block), Block) ∷ [])

-- The end of a life, of at most 256 with the life that begins then, in no block.
unfoldable pub power_refusal : Behind → Option LineCause
power_refusal b = first_cause (
    (nat_le 256 (length b.lives + 1), Many) ∷
    (is_some b.block, Block) ∷ [])

-- The beginning of a block, in no other.
unfoldable pub par_refusal : Behind → Option LineCause
par_refusal b = first_cause ((is_some b.block, Block) ∷ [])

-- The beginning of a lane, of at most 8 of a block.
unfoldable pub lane_refusal : Behind → Option LineCause
lane_refusal b = first_cause (
    (nat_le 8 (lane_count b.block), Many) ∷
    (is_none b.block, Block) ∷ [])

-- The end of a block, which has a lane.
unfoldable pub end_refusal : Behind → Option LineCause
end_refusal b = first_cause ((not (has_lane b.block), Block) ∷ [])

-- Why a line is not allowed after these lines, row by row.
unfoldable pub refusal : List DidUse → Behind → Line → Option LineCause
refusal dids b line.Skipped = None
refusal dids b (line.Config id) = setting_refusal b b.places.config 65535 id
refusal dids b (line.Memory entries) = setting_refusal b b.places.memory 255 entries
refusal dids b (line.Blocks blocks) = setting_refusal b b.places.blocks 255 blocks
refusal dids b (line.Flash sectors pages) = flash_refusal b sectors pages
refusal dids b (line.Event event) = event_refusal b event
refusal dids b (line.Did event id) = did_refusal dids b event id
refusal dids b (line.Step step) = step_refusal b step
refusal dids b line.Power = power_refusal b
refusal dids b line.Par = par_refusal b
refusal dids b line.Lane = lane_refusal b
refusal dids b line.End = end_refusal b

-- A value, unless there is a cause to refuse it.
abbrev pub unless_refused : {A : Type 0} → Option LineCause → A → Result A LineCause
unless_refused None x = Ok x
unless_refused (Some cause) x = Err cause

-- What a line says that is allowed after these lines, the newest first.
unfoldable pub line_behind : List DidUse → List Line → List ℕ → Result Line LineCause
line_behind dids past text = line_of text >>= λ line. unless_refused (refusal dids (behind dids past) line) line
