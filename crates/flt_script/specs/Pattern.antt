-- The words that say which bits of a torn program or erase take effect.
use Rattle.std.specs.Prelude.{ℕ, List, Option}
use Rattle.std.specs.List.{find}
use Rattle.std.specs.Str.{bytes_eq}
use Rattle.flt_flash.specs.declared.arm.Pattern.{Pattern}
use Rattle.flt_step.specs.Words.{pattern_text, patterns}

-- The pattern that a word spells.
unfoldable pub pattern_spelled : List ℕ → Option Pattern
pattern_spelled word = find (λ pattern. bytes_eq word (pattern_text pattern)) patterns
