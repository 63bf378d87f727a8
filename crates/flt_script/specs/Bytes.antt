-- A tester and the bytes of its request: the words that spell them.
use Rattle.std.specs.Prelude.{ℕ, ◌-◌, List, [], ◌∷◌, length, ◌&&◌, nat_le, Option, Some, None, if◌then◌else◌}
use Rattle.flt_script.specs.Gives.{◌⇒◌}
use Rattle.flt_script.specs.Numeral.{hexadecimal}

-- The number of the tester that a letter from A to D names.
abbrev pub tester_of : List ℕ → Option ℕ
tester_of (letter ∷ []) = if nat_le 65 letter && nat_le letter 68 then Some (letter - 65) else None
tester_of _ = None

-- What each word spells, where each spells something.
abbrev pub each : (List ℕ → Option ℕ) → List (List ℕ) → Option (List ℕ)
each spelled [] = Some []
each spelled (word ∷ words) = spelled word ⇒ λ first. each spelled words ⇒ λ others. Some (first ∷ others)

-- One byte or more, at most this many, each of two hexadecimal digits.
unfoldable pub bytes_of : ℕ → List (List ℕ) → Option (List ℕ)
bytes_of most words = if nat_le 1 (length words) && nat_le (length words) most then each (hexadecimal 2) words else None
