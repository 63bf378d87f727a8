-- The table of refusals, a cause at a time: when each holds of a line, after what the lines before it gave. Each is said
-- by itself; that the first that holds is the one that is reported is a law.
use Rattle.std.specs.Prelude.{ℕ, ◌+◌, ℤ, pos, negsuc, int_lt, List, [], ◌∷◌, length, Bool, true, false, not, ◌==◌, ◌&&◌, ◌||◌, nat_lt, nat_le, is_some, is_none, Option, Some, None, Result, Ok, Err, if◌then◌else◌}
use Rattle.std.specs.List.{list_any}
use Rattle.std.specs.Str.{bytes_eq}
use Rattle.flt_config.specs.declared.TheConstants.{EVENTS}
use Rattle.flt_config.specs.declared.config.Config.{Config}
use Rattle.flt_config.specs.declared.config.DidUse.{DidUse}
use Rattle.flt_did.specs.Rows.{is_did}
use Rattle.flt_script.specs.declared.arm.ArmLine.{ArmLine}
use Rattle.flt_script.specs.declared.arm.ArmLine.TheVariants.{Cut, Fault, Mute}
use Rattle.flt_script.specs.declared.event.DebounceLine.{DebounceLine}
use Rattle.flt_script.specs.declared.event.DebounceLine.TheVariants.{Counter, Time}
use Rattle.flt_script.specs.declared.event.EventLine.{EventLine}
use Rattle.flt_script.specs.declared.fault.LineCause.{LineCause}
use Rattle.flt_script.specs.declared.fault.LineCause.TheVariants.{Long, Byte, Word, Form, Order, Range, Many, Block, Did}
use Rattle.flt_script.specs.Said.{Line}
use Rattle.flt_script.specs.Said as line
use Rattle.flt_script.specs.declared.line.StepLine.{StepLine}
use Rattle.flt_script.specs.declared.line.StepLine.TheVariants.{Report, Show, Cycle, Tick, Signal, Enable, Request, Save, Post, Drain, Get, Ask, Arming}
use Rattle.flt_script.specs.Behind.{Behind, event_count, has_begun, lane_count, has_lane, is_store_taken, uses_of}
use Rattle.flt_script.specs.Gives.{◌⇒◌}
use Rattle.flt_script.specs.Line.{spelling, keywords, keyword_of, line_with, is_comment}
use Rattle.flt_script.specs.Text.{words_of}

-- The causes of a line in the order of the table.
abbrev pub causes : List LineCause
causes = Long ∷ Byte ∷ Word ∷ Form ∷ Order ∷ Range ∷ Many ∷ Block ∷ Did ∷ []

-- A byte that is no tab, no space and no visible character of ASCII.
abbrev pub is_strange : ℕ → Bool
is_strange byte = not (byte == 9) && (nat_lt byte 32 || nat_lt 126 byte)

-- The first word is no comment and begins no line.
abbrev pub is_unknown : List (List ℕ) → Bool
is_unknown [] = false
is_unknown (word ∷ words) = not (is_comment word) && not (list_any (λ keyword. bytes_eq word (spelling keyword)) keywords)

-- The line that the words are, if they are one.
abbrev pub line_said : List (List ℕ) → Option Line
line_said [] = Some line.Skipped
line_said (word ∷ words) = if is_comment word then Some line.Skipped else keyword_of word ⇒ λ keyword. line_with keyword words

-- The line configures.
abbrev pub configures : Line → Bool
configures (line.Config id) = true
configures (line.Memory entries) = true
configures (line.Blocks blocks) = true
configures (line.Flash sectors pages) = true
configures (line.Event event) = true
configures (line.Did event id) = true
configures _ = false

-- A line that may occur once is there already.
abbrev pub is_set_already : Behind → Line → Bool
is_set_already b (line.Config id) = is_some b.places.config
is_set_already b (line.Memory entries) = is_some b.places.memory
is_set_already b (line.Blocks blocks) = is_some b.places.blocks
is_set_already b (line.Flash sectors pages) = is_some b.places.flash
is_set_already b _ = false

-- An event's number is not the next, or a data identifier is for an event that is not there yet.
abbrev pub has_wrong_event : Behind → Line → Bool
has_wrong_event b (line.Event event) = not (event.number == event_count b)
has_wrong_event b (line.Did event id) = nat_le (event_count b) event
has_wrong_event b _ = false

-- A jump is a number of 16 bits with its sign.
abbrev pub is_jump_kept : Option ℤ → Bool
is_jump_kept None = true
is_jump_kept (Some jump) = not (int_lt jump (negsuc 32767)) && not (int_lt (pos 32767) jump)

-- The numbers of a counter are numbers of 16 bits with their signs, those of times of 16 bits without.
abbrev pub is_debounce_kept : DebounceLine → Bool
is_debounce_kept (Counter thresholds up down) =
    nat_le thresholds.fail 32767 && nat_le thresholds.pass 32768 && nat_le thresholds.up 32767 && nat_le thresholds.down 32767
    && is_jump_kept up && is_jump_kept down
is_debounce_kept (Time fail pass) = nat_le fail 65535 && nat_le pass 65535

-- The plain numbers of an event are of 8 bits, and the lamp is lit or not.
abbrev pub is_event_kept : EventLine → Bool
is_event_kept event =
    nat_le event.numbers.priority 255 && nat_le event.numbers.cycle 255 && nat_le event.numbers.confirm 255
    && nat_le event.numbers.heal 255 && nat_le event.numbers.age 255 && nat_le event.numbers.lamp 1 && nat_le event.numbers.needs 255
    && is_debounce_kept event.debounce

-- The numbers of a line that arms are in their ranges.
abbrev pub is_arm_written : ArmLine → Bool
is_arm_written (Cut after pattern) = nat_le 1 after && nat_le after 65535
is_arm_written (Fault after pattern) = nat_le 1 after && nat_le after 65535
is_arm_written (Mute sector page times) = nat_le sector 1 && nat_le page 1023 && (nat_le 1 times && nat_le times 65535)

-- The numbers of a step are in their ranges.
abbrev pub is_step_written : Config → StepLine → Bool
is_step_written config (Report event report) = nat_lt event (length config.events.items)
is_step_written config (Show event) = nat_lt event (length config.events.items)
is_step_written config (Cycle cycle) = nat_le cycle 3
is_step_written config (Tick ticks) = nat_le 1 ticks && nat_le ticks 65535
is_step_written config (Signal index value) = nat_le index 7 && nat_le value 65535
is_step_written config (Enable condition value) = nat_le condition 7 && nat_le value 1
is_step_written config (Request tester bytes) = nat_le tester 3 && nat_lt 0 (length bytes.items)
is_step_written config Save = true
is_step_written config (Post urgent block bytes) = nat_lt block config.blocks && nat_lt 0 (length bytes.items) && nat_le (length bytes.items) 32
is_step_written config Drain = true
is_step_written config (Get block) = nat_lt block config.blocks
is_step_written config (Ask block) = nat_lt block config.blocks
is_step_written config (Arming arm) = is_arm_written arm

-- A number of a step is out of its range, or one that configures is too large to be kept; or the flash has not two sectors.
abbrev pub is_out_of_range : Config → Line → Bool
is_out_of_range config (line.Config id) = nat_lt 65535 id
is_out_of_range config (line.Memory entries) = nat_lt 255 entries
is_out_of_range config (line.Blocks blocks) = nat_lt 255 blocks
is_out_of_range config (line.Flash sectors pages) = not (sectors == 2) || nat_lt 65535 pages
is_out_of_range config (line.Event event) = not (is_event_kept event)
is_out_of_range config (line.Step step) = not (is_step_written config step)
is_out_of_range config _ = false

-- One for cut, fault and mute, and none for other steps.
abbrev pub arms_written : StepLine → ℕ
arms_written (Arming arm) = 1
arms_written _ = 0

-- One for drain, and none for other steps.
abbrev pub drains_written : StepLine → ℕ
drains_written Drain = 1
drains_written _ = 0

-- It is the 257th event, the ninth data identifier of an event, the ninth lane of a block, the 65,537th step, the 65th of cut,
-- fault and mute, the 1,025th drain, or the end of the 256th life.
abbrev pub is_one_too_many : Behind → Line → Bool
is_one_too_many b (line.Event event) = nat_le EVENTS (event_count b)
is_one_too_many b (line.Did event id) = nat_le 8 (length (uses_of event b.config.events.items))
is_one_too_many b (line.Step step) =
    nat_le 65536 b.steps || nat_lt 64 (b.arms + arms_written step) || nat_lt 1024 (b.drains + drains_written step)
is_one_too_many b line.Power = nat_le 256 (length b.lives + 1)
is_one_too_many b line.Lane = nat_le 8 (lane_count b.block)
is_one_too_many b _ = false

-- A step that is allowed in no lane: cut, fault and mute.
abbrev pub is_for_no_lane : StepLine → Bool
is_for_no_lane (Arming arm) = true
is_for_no_lane _ = false

-- A step that is allowed in one lane of a block at most: save, drain and get.
abbrev pub is_for_one_lane : StepLine → Bool
is_for_one_lane Save = true
is_for_one_lane Drain = true
is_for_one_lane (Get block) = true
is_for_one_lane _ = false

-- A block has only its lanes, with steps that are allowed there, and its end after a lane; a lane and an end are allowed nowhere else.
abbrev pub is_misplaced : Behind → Line → Bool
is_misplaced b (line.Step step) =
    is_some b.block && (not (has_lane b.block) || is_for_no_lane step || is_for_one_lane step && is_store_taken b.block)
is_misplaced b line.Power = is_some b.block
is_misplaced b line.Par = is_some b.block
is_misplaced b line.Lane = is_none b.block
is_misplaced b line.End = is_none b.block || not (has_lane b.block)
is_misplaced b _ = false

-- The table has not the data identifier.
abbrev pub is_did_unknown : List DidUse → Line → Bool
is_did_unknown dids (line.Did event id) = not (list_any (is_did id) dids)
is_did_unknown dids _ = false

-- There is a line, and the test holds of it.
abbrev pub on_line : (Line → Bool) → Option Line → Bool
on_line test None = false
on_line test (Some line) = test line

-- The cause holds of the line of this text.
abbrev pub cause_holds : List DidUse → Behind → List ℕ → LineCause → Bool
cause_holds dids b text Long = nat_lt 512 (length text)
cause_holds dids b text Byte = list_any is_strange text
cause_holds dids b text Word = is_unknown (words_of text)
cause_holds dids b text Form = is_none (line_said (words_of text))
cause_holds dids b text Order = on_line (λ line. configures line && has_begun b || is_set_already b line || has_wrong_event b line) (line_said (words_of text))
cause_holds dids b text Range = on_line (is_out_of_range b.config) (line_said (words_of text))
cause_holds dids b text Many = on_line (is_one_too_many b) (line_said (words_of text))
cause_holds dids b text Block = on_line (is_misplaced b) (line_said (words_of text))
cause_holds dids b text Did = on_line (is_did_unknown dids) (line_said (words_of text))
cause_holds dids b text _ = false

-- The cause that is reported, if one is.
abbrev pub cause_told : Result Line LineCause → Option LineCause
cause_told (Ok said) = None
cause_told (Err cause) = Some cause
