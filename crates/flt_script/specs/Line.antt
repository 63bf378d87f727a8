-- A line by itself: skipped, or what its words say with the numbers as they are written, or why it is refused.
use Rattle.std.specs.Prelude.{ℕ, List, [], ◌∷◌, ◌++◌, length, Bool, true, false, ◌==◌, not, nat_lt, Option, Some, None, option_map, Result, Ok, Err, codes, if◌then◌else◌}
use Rattle.std.specs.List.{find}
use Rattle.std.specs.Str.{bytes_eq}
use Rattle.std.specs.Option.{ok_or}
use Rattle.flt_flash.specs.declared.arm.Pattern.{Pattern}
use Rattle.flt_model.specs.declared.call.Report.{Report}
use Rattle.flt_model.specs.declared.call.Report.TheVariants.{Passed, Failed, PrePassed, PreFailed}
use Rattle.flt_script.specs.declared.arm.ArmLine.TheVariants as arm
use Rattle.flt_script.specs.declared.fault.LineCause.{LineCause}
use Rattle.flt_script.specs.declared.fault.LineCause.TheVariants.{Long, Byte, Word, Form}
use Rattle.flt_script.specs.declared.keyword.Keyword.{Keyword}
use Rattle.flt_script.specs.declared.keyword.Keyword.TheVariants as keyword
use Rattle.flt_script.specs.Said.{Line}
use Rattle.flt_script.specs.Said as line
use Rattle.flt_script.specs.declared.line.StepLine.TheVariants as step
use Rattle.flt_script.specs.Bytes.{tester_of, bytes_of}
use Rattle.flt_script.specs.Event.{only, event_line_of}
use Rattle.flt_script.specs.Gives.{◌⇒◌, ◌>>=◌}
use Rattle.flt_script.specs.Numeral.{number, hexadecimal}
use Rattle.flt_script.specs.Pattern.{pattern_spelled}
use Rattle.flt_script.specs.Text.{words_of, all_plain}

-- The first words of the lines.
abbrev pub spelling : Keyword → List ℕ
spelling keyword.Pass = codes "pass"
spelling keyword.Fail = codes "fail"
spelling keyword.PrePass = codes "prepass"
spelling keyword.PreFail = codes "prefail"
spelling keyword.Show = codes "show"
spelling keyword.Cycle = codes "cycle"
spelling keyword.Tick = codes "tick"
spelling keyword.Signal = codes "sig"
spelling keyword.Enable = codes "enable"
spelling keyword.Request = codes "t"
spelling keyword.Event = codes "event"
spelling keyword.Did = codes "did"
spelling keyword.Config = codes "config"
spelling keyword.Memory = codes "memory"
spelling keyword.Blocks = codes "blocks"
spelling keyword.Flash = codes "flash"
spelling keyword.Save = codes "save"
spelling keyword.Post = codes "post"
spelling keyword.Urge = codes "urge"
spelling keyword.Drain = codes "drain"
spelling keyword.Get = codes "get"
spelling keyword.Ask = codes "ask"
spelling keyword.Power = codes "power"
spelling keyword.Cut = codes "cut"
spelling keyword.Fault = codes "fault"
spelling keyword.Mute = codes "mute"
spelling keyword.Par = codes "par"
spelling keyword.Lane = codes "lane"
spelling keyword.End = codes "end"

-- The keywords of the calls of the status machine, and of the settings.
abbrev pub call_keywords : List Keyword
call_keywords = keyword.Pass ∷ keyword.Fail ∷ keyword.PrePass ∷ keyword.PreFail ∷ keyword.Show ∷ keyword.Cycle ∷ keyword.Tick
    ∷ keyword.Signal ∷ keyword.Enable ∷ keyword.Request ∷ keyword.Event ∷ keyword.Did ∷ keyword.Config ∷ keyword.Memory ∷ keyword.Blocks ∷ keyword.Flash ∷ []

-- The keywords for the store, for the power and what fails, and for blocks.
abbrev pub storage_keywords : List Keyword
storage_keywords = keyword.Save ∷ keyword.Post ∷ keyword.Urge ∷ keyword.Drain ∷ keyword.Get ∷ keyword.Ask
    ∷ keyword.Power ∷ keyword.Cut ∷ keyword.Fault ∷ keyword.Mute ∷ keyword.Par ∷ keyword.Lane ∷ keyword.End ∷ []

-- The table of lines.
abbrev pub keywords : List Keyword
keywords = call_keywords ++ storage_keywords

-- The one of these keywords that a word spells.
abbrev pub keyword_in : List Keyword → List ℕ → Option Keyword
keyword_in keywords word = find (λ keyword. bytes_eq word (spelling keyword)) keywords

-- The keyword that a word spells.
unfoldable pub keyword_of : List ℕ → Option Keyword
keyword_of word = keyword_in keywords word

-- A report on the event that the one word names.
unfoldable pub report_with : Report → List (List ℕ) → Option Line
report_with report words = option_map (λ event. line.Step (step.Report event report)) (only number words)

-- Two words, and the numbers that they spell.
unfoldable pub two_numbers : List (List ℕ) → Option (ℕ × ℕ)
two_numbers (m ∷ n ∷ []) = number m ⇒ λ first. number n ⇒ λ second. Some (first, second)
two_numbers _ = None

-- Three words, and the numbers that they spell.
unfoldable pub three_numbers : List (List ℕ) → Option (ℕ × ℕ × ℕ)
three_numbers (k ∷ m ∷ n ∷ []) = number k ⇒ λ first. number m ⇒ λ second. number n ⇒ λ third. Some (first, second, third)
three_numbers _ = None

-- A number and the word of a pattern.
unfoldable pub number_and_pattern : List (List ℕ) → Option (ℕ × Pattern)
number_and_pattern (n ∷ p ∷ []) = number n ⇒ λ after. pattern_spelled p ⇒ λ pattern. Some (after, pattern)
number_and_pattern _ = None

-- What is said, where no word is left.
abbrev pub alone : {A : Type 0} → A → List (List ℕ) → Option A
alone said [] = Some said
alone said (word ∷ words) = None

-- An event, and a data identifier for its frames in four hexadecimal digits.
unfoldable pub did_with : List (List ℕ) → Option Line
did_with (e ∷ h ∷ []) = number e ⇒ λ event. hexadecimal 4 h ⇒ λ id. Some (line.Did event id)
did_with _ = None

-- A tester, and a request of 1 to 16 bytes.
unfoldable pub request_with : List (List ℕ) → Option Line
request_with [] = None
request_with (letter ∷ words) =
    tester_of letter ⇒ λ tester. bytes_of 16 words ⇒ λ bytes. Some (line.Step (step.Request tester (record { items = bytes })))

-- An application block, and 1 to 32 bytes for it.
unfoldable pub post_with : Bool → List (List ℕ) → Option Line
post_with urgent [] = None
post_with urgent (b ∷ words) =
    number b ⇒ λ block. bytes_of 32 words ⇒ λ bytes. Some (line.Step (step.Post urgent block (record { items = bytes })))

-- What the words after the keyword say, row by row.
unfoldable pub line_with : Keyword → List (List ℕ) → Option Line
line_with keyword.Pass words = report_with Passed words
line_with keyword.Fail words = report_with Failed words
line_with keyword.PrePass words = report_with PrePassed words
line_with keyword.PreFail words = report_with PreFailed words
line_with keyword.Show words = option_map (λ event. line.Step (step.Show event)) (only number words)
line_with keyword.Cycle words = option_map (λ cycle. line.Step (step.Cycle cycle)) (only number words)
line_with keyword.Tick words = option_map (λ ticks. line.Step (step.Tick ticks)) (only number words)
line_with keyword.Signal words = option_map (λ numbers. line.Step (step.Signal numbers.0 numbers.1)) (two_numbers words)
line_with keyword.Enable words = option_map (λ numbers. line.Step (step.Enable numbers.0 numbers.1)) (two_numbers words)
line_with keyword.Request words = request_with words
line_with keyword.Event words = option_map line.Event (event_line_of words)
line_with keyword.Did words = did_with words
line_with keyword.Config words = option_map line.Config (only number words)
line_with keyword.Memory words = option_map line.Memory (only number words)
line_with keyword.Blocks words = option_map line.Blocks (only number words)
line_with keyword.Flash words = option_map (λ numbers. line.Flash numbers.0 numbers.1) (two_numbers words)
line_with keyword.Save words = alone (line.Step step.Save) words
line_with keyword.Post words = post_with false words
line_with keyword.Urge words = post_with true words
line_with keyword.Drain words = alone (line.Step step.Drain) words
line_with keyword.Get words = option_map (λ block. line.Step (step.Get block)) (only number words)
line_with keyword.Ask words = option_map (λ block. line.Step (step.Ask block)) (only number words)
line_with keyword.Power words = alone line.Power words
line_with keyword.Par words = alone line.Par words
line_with keyword.Lane words = alone line.Lane words
line_with keyword.End words = alone line.End words
line_with keyword.Cut words = option_map (λ torn. line.Step (step.Arming (arm.Cut torn.0 torn.1))) (number_and_pattern words)
line_with keyword.Fault words = option_map (λ torn. line.Step (step.Arming (arm.Fault torn.0 torn.1))) (number_and_pattern words)
line_with keyword.Mute words = option_map (λ numbers. line.Step (step.Arming (arm.Mute numbers.0 numbers.1 numbers.2))) (three_numbers words)

-- A word that begins with #.
abbrev pub is_comment : List ℕ → Bool
is_comment [] = false
is_comment (first ∷ more) = first == 35

-- Nothing or a comment, or a keyword and what belongs after it.
unfoldable pub by_words : List (List ℕ) → Result Line LineCause
by_words [] = Ok line.Skipped
by_words (word ∷ words) =
    if is_comment word then Ok line.Skipped
    else ok_or (keyword_of word) Word >>= λ keyword. ok_or (line_with keyword words) Form

-- A line without what ends it: too long, with a byte that no line may have, or as its words say.
unfoldable pub line_of : List ℕ → Result Line LineCause
line_of text =
    if nat_lt 512 (length text) then Err Long
    else if not (all_plain text) then Err Byte
    else by_words (words_of text)
