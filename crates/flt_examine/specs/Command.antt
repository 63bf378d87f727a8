-- What the words after the program's name say.
use Rattle.std.specs.Prelude.{ℕ, List, [], ◌∷◌, Option, Some, None, if◌then◌else◌, codes}
use Rattle.std.specs.Str.{bytes_eq}
use Rattle.flt_examine.specs.declared.command.Command.{Command}
use Rattle.flt_examine.specs.declared.command.Command.TheVariants.{Inspect, Trace, Audit}

-- The command that a word is.
abbrev pub word_command : List ℕ → Option Command
word_command word =
    if bytes_eq word (codes "inspect") then Some Inspect
    else if bytes_eq word (codes "trace") then Some Trace
    else if bytes_eq word (codes "audit") then Some Audit
    else None

-- The command is one word.
abbrev pub command_of : List (List ℕ) → Option Command
command_of [] = None
command_of (word ∷ []) = word_command word
command_of (word ∷ next ∷ more) = None
