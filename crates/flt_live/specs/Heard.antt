-- The lines that a life read, and what each came to; all lists begin with the newest.
use Rattle.std.specs.Prelude.{◌≡◌, ◌≢◌, ◌<◌, ◌≤◌, All, ℕ, List, [], ◌∷◌, ◌++◌, length, take, Option}
use Rattle.std.specs.Io.KnownBytes.{Appends}
use Rattle.flt_config.specs.declared.config.Config.{Config}
use Rattle.flt_life_model.specs.Answers.{Told}
use Rattle.flt_report.specs.Answer.{step_line}
use Rattle.flt_live.specs.declared.line.Due.{Due}
use Rattle.flt_live.specs.declared.line.Due.TheVariants as due
use Rattle.flt_live.specs.declared.reader.Line.{Line}
use Rattle.flt_live.specs.declared.reader.Line.TheVariants.{Fed, Cut, Ended}
use Rattle.flt_live.specs.Ahead.{line_end_of, kept_text}
use Rattle.flt_live.specs.Due.{due_at, refusal_line}
use Rattle.flt_live.specs.Made.{Made}

-- What a life reads from and writes to: the bytes that are ahead of it and those that the sink holds, where these are known, and how often
-- the source and the sink failed.
pub record Talk : Type 0 where
  -- The bytes that are ahead of it, if they are known.
  pub ahead : Option (List ℕ)
  -- How often the source failed.
  pub read_faults : ℕ
  -- The bytes that the sink holds, if they are known.
  pub held : Option (List ℕ)
  -- How often the sink failed.
  pub write_faults : ℕ

abbrev pub talk : Option (List ℕ) → ℕ → Option (List ℕ) → ℕ → Talk
talk ahead read_faults held write_faults = record { ahead = ahead; read_faults = read_faults; held = held; write_faults = write_faults }

-- The counts of faults never fall.
pub record IsLater (before after : Talk) : Type 0 where
  -- The source's count did not fall.
  pub read : before.read_faults ≤ after.read_faults
  -- Nor did the sink's.
  pub write : before.write_faults ≤ after.write_faults

-- A line was written, and nothing was read.
pub record SaysLine (line : List ℕ) (before after : Talk) : Type 0 where
  -- The line was written.
  pub written : Appends before.held after.held line
  -- Nothing was read.
  pub ahead : after.ahead ≡ before.ahead
  -- The source did not fail.
  pub read_faults : after.read_faults ≡ before.read_faults

-- A line: its bytes but those that ended it, how it ended, and what was written for it.
pub record Heard : Type 0 where
  -- Its bytes, without what ended it.
  pub whole : List ℕ
  -- How it ended.
  pub ended : Line
  -- What was written for it.
  pub answer : List ℕ

-- Its text, as far as it is kept.
abbrev pub text_in : Heard → List ℕ
text_in heard = kept_text heard.ended (take 514 heard.whole)

-- The bytes that lines took.
abbrev pub heard_bytes : List Heard → List ℕ
heard_bytes [] = []
heard_bytes (heard ∷ earlier) = heard_bytes earlier ++ (heard.whole ++ line_end_of heard.ended)

-- What was written for them.
abbrev pub answer_bytes : List Heard → List ℕ
answer_bytes [] = []
answer_bytes (heard ∷ earlier) = answer_bytes earlier ++ heard.answer

-- A line has no line feed in it, and a byte where none ended it.
abbrev pub IsOneLine : Line → List ℕ → Type 0
IsOneLine Fed whole = All (λ byte. byte ≢ 10) whole
IsOneLine Cut whole = All (λ byte. byte ≢ 10) whole × (0 < length whole)
IsOneLine Ended whole = ⊥

-- What is written for a line that is no `power`, and the steps that are made with it.
abbrev pub LineComesTo : Due → List ℕ → (before after : List Made) → Type 0
LineComesTo due.Nothing line before after = (line ≡ 10 ∷ []) × (after ≡ before)
LineComesTo (due.Refuse refusal) line before after = (line ≡ refusal_line refusal) × (after ≡ before)
LineComesTo (due.Make step) line before after = (told : Told) × (line ≡ step_line step told) × (after ≡ (step, told) ∷ before)
LineComesTo due.Power line before after = ⊥

-- Each of these lines was answered by itself, and these are the steps that they made.
abbrev pub AreHeard : Config → List Heard → List Made → Type 0
AreHeard c [] made = made ≡ []
AreHeard c (heard ∷ earlier) made =
    (before : List Made) × AreHeard c earlier before × IsOneLine heard.ended heard.whole × LineComesTo (due_at c (text_in heard)) heard.answer before made
