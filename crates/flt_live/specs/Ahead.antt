-- The bytes ahead of a reader, and the lines that it takes.
use Rattle.std.specs.Prelude.{◌≡◌, ◌≢◌, ◌<◌, All, length, ℕ, ◌-◌, List, [], ◌∷◌, ◌++◌, Option, Some, None, take, drop}
use Rattle.std.specs.Io.KnownBytes.{Keeps, Consumes, IsAtEnd}
use Rattle.std.specs.Str.Lines.{strip_carriage_return}
use Rattle.flt_live.specs.declared.ear.Ear.{Ear}
use Rattle.flt_live.specs.declared.reader.LineReader.{LineReader}
use Rattle.flt_live.specs.declared.reader.Line.{Line}
use Rattle.flt_live.specs.declared.reader.Line.TheVariants.{Fed, Cut, Ended}

-- What was pulled and not taken.
abbrev pub pulled : LineReader → List ℕ
pulled reader = take (reader.to - reader.from) (drop reader.from reader.piece)

-- These bytes, and then what is left of a source, where it reveals that.
abbrev pub ahead_with : List ℕ → Option (List ℕ) → Option (List ℕ)
ahead_with bytes None = None
ahead_with bytes (Some left) = Some (bytes ++ left)

-- What was pulled and not taken, and what is left of the source.
abbrev pub ahead_of : Option (List ℕ) → LineReader → Option (List ℕ)
ahead_of left reader = ahead_with (pulled reader) left

-- A byte was taken, or none where none was ahead.
abbrev pub TakesByte : Option (List ℕ) → Option (List ℕ) → Option ℕ → Type 0
TakesByte before after None = Keeps before after × IsAtEnd after
TakesByte before after (Some byte) = Consumes before after (byte ∷ [])

-- What a line took beside its bytes.
abbrev pub line_end_of : Line → List ℕ
line_end_of Fed = 10 ∷ []
line_end_of Cut = []
line_end_of Ended = []

-- A line has a byte where it is cut, and none where there is none; each line but the last ends by a line feed.
abbrev pub IsLineEnd : Line → List ℕ → Option (List ℕ) → Type 0
IsLineEnd Fed whole after = Unit {0}
IsLineEnd Cut whole after = (0 < length whole) × IsAtEnd after
IsLineEnd Ended whole after = (whole ≡ []) × IsAtEnd after

-- A line was taken, without a line feed in it, of which the first 514 bytes are kept.
pub record TakesLine (before after : Option (List ℕ)) (ended : Line) (kept : List ℕ) : Type 0 where
  -- The bytes of the line, without what ended it.
  pub whole : List ℕ
  -- None of them is a line feed.
  pub one : All (λ byte. byte ≢ 10) whole
  -- The first 514 of them are kept.
  pub is : kept ≡ take 514 whole
  -- They were taken from the source, with what ended the line, and no byte after it.
  pub taken : Consumes before after (whole ++ line_end_of ended)
  -- The line ended so.
  pub end : IsLineEnd ended whole after

-- The last line has a byte, or there is none.
abbrev pub IsLast : Line → List ℕ → Type 0
IsLast Fed kept = ⊥
IsLast Cut kept = 0 < length kept
IsLast Ended kept = kept ≡ []

-- The text of a line of which this is kept: without a carriage return before its line feed.
abbrev pub kept_text : Line → List ℕ → List ℕ
kept_text Fed kept = strip_carriage_return kept
kept_text Cut kept = kept
kept_text Ended kept = kept

-- The same of an ear: what it pulled and did not take, what is ahead of it, and what it keeps of the line that it read last.
abbrev pub pulled_in : Ear → List ℕ
pulled_in ear = pulled ear.reader

abbrev pub ahead_in : Option (List ℕ) → Ear → Option (List ℕ)
ahead_in left ear = ahead_of left ear.reader

abbrev pub kept_in : Ear → List ℕ
kept_in ear = ear.text.items
