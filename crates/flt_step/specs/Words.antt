-- The words of a step: its text, with single spaces between words and numbers without leading zeros.
use Rattle.std.specs.Prelude.{ℕ, ◌+◌, ◌/◌, ◌%◌, min, List, [], ◌∷◌, ◌++◌, Bool, true, false, codes}
use Rattle.std.specs.Fmt.{decimal, digit_glyph}
use Rattle.std.specs.List.{flat_map}
use Rattle.flt_flash.specs.declared.arm.Arm.{Arm}
use Rattle.flt_flash.specs.declared.arm.Arm.TheVariants.{Cut, Fault, Mute}
use Rattle.flt_flash.specs.declared.arm.Pattern.{Pattern}
use Rattle.flt_flash.specs.declared.arm.Pattern.TheVariants.{Nothing, All, Tail, Odd}
use Rattle.flt_model.specs.Byte.{value_of}
use Rattle.flt_model.specs.declared.call.Report.{Report}
use Rattle.flt_model.specs.declared.call.Report.TheVariants.{Passed, Failed, PrePassed, PreFailed}
use Rattle.flt_step.specs.declared.step.Step.{Step}
use Rattle.flt_step.specs.declared.step.Step.TheVariants as step

-- The letter of a tester, A to D; D also above 3, which no step in its ranges has.
abbrev pub letter_of : ℕ → ℕ
letter_of tester = 65 + min tester 3

-- A byte in two hexadecimal digits, in upper case.
abbrev pub two_digits : ℕ → List ℕ
two_digits byte = digit_glyph true (byte / 16) ∷ digit_glyph true (byte % 16) ∷ []

-- Bytes, each after a space.
abbrev pub spaced : List ℕ → List ℕ
spaced bytes = flat_map (λ byte. 32 ∷ two_digits byte) bytes

-- Bytes in two digits each, with single spaces between them.
abbrev pub bytes_text : List ℕ → List ℕ
bytes_text [] = []
bytes_text (first ∷ others) = two_digits first ++ spaced others

-- The word of a pattern.
abbrev pub pattern_text : Pattern → List ℕ
pattern_text Nothing = codes "none"
pattern_text All = codes "all"
pattern_text Tail = codes "tail"
pattern_text Odd = codes "odd"

-- All of them.
abbrev pub patterns : List Pattern
patterns = Nothing ∷ All ∷ Tail ∷ Odd ∷ []

-- A word and a number, with one space between them.
abbrev pub with_number : List ℕ → ℕ → List ℕ
with_number word number = word ++ 32 ∷ decimal number

-- A word and two numbers, with single spaces between them.
abbrev pub with_two_numbers : List ℕ → ℕ → ℕ → List ℕ
with_two_numbers word first second = word ++ 32 ∷ with_number (decimal first) second

-- A fault to be armed, as the words of its line.
abbrev pub arm_text : Arm → List ℕ
arm_text (Cut after pattern) = with_number (codes "cut") after ++ 32 ∷ pattern_text pattern
arm_text (Fault after pattern) = with_number (codes "fault") after ++ 32 ∷ pattern_text pattern
arm_text (Mute sector page times) = codes "mute" ++ 32 ∷ with_two_numbers (decimal sector) page times

-- The word of a report.
abbrev pub report_word : Report → List ℕ
report_word Passed = codes "pass"
report_word Failed = codes "fail"
report_word PrePassed = codes "prepass"
report_word PreFailed = codes "prefail"

-- The word of a job, by whether it is urgent.
abbrev pub job_word : Bool → List ℕ
job_word false = codes "post"
job_word true = codes "urge"

-- A step as its words, with single spaces and numbers without leading zeros.
abbrev pub step_text : Step → List ℕ
step_text (step.Report event report) = with_number (report_word report) event
step_text (step.Show event) = with_number (codes "show") event
step_text (step.Cycle cycle) = with_number (codes "cycle") cycle
step_text (step.Tick ticks) = with_number (codes "tick") ticks
step_text (step.Signal index value) = with_two_numbers (codes "sig") index value
step_text (step.Enable condition fulfilled) = with_two_numbers (codes "enable") condition (value_of fulfilled)
step_text (step.Request tester bytes) = codes "t" ++ 32 ∷ letter_of tester ∷ 32 ∷ bytes_text bytes.items
step_text step.Save = codes "save"
step_text (step.Post urgent block bytes) = with_number (job_word urgent) block ++ 32 ∷ bytes_text bytes.items
step_text step.Drain = codes "drain"
step_text (step.Get block) = with_number (codes "get") block
step_text (step.Ask block) = with_number (codes "ask") block
step_text (step.Arming arm) = arm_text arm
