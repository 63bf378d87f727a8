-- What a write leaves of bytes.
use Rattle.std.specs.Prelude.{◌≡◌, ℕ, ◌+◌, List, ◌++◌, Option, IfSome, IsSomeAnd, length, take, drop}
use Rattle.flt_flash.specs.Tearing.{IsTornPage}

-- These bytes over those from a place on.
abbrev pub spliced : ℕ → List ℕ → List ℕ → List ℕ
spliced at new held = take at held ++ new ++ drop (at + length new) held

-- What is known is what was known, with these bytes from a place on.
abbrev pub HaveBytesFrom : ℕ → List ℕ → Option (List ℕ) → Option (List ℕ) → Type 0
HaveBytesFrom at new before after = IfSome after (λ now. IsSomeAnd before (λ was. now ≡ spliced at new was))

-- Each bit of what is known is as it was known, or as in these bytes.
abbrev pub AreBetween : ℕ → List ℕ → Option (List ℕ) → Option (List ℕ) → Type 0
AreBetween at new before after = IfSome after (λ now. IsSomeAnd before (λ was. IsTornPage was (spliced at new was) now))
