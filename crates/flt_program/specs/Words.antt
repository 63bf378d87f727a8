-- What the words after the program's name ask for.
use Rattle.std.specs.Prelude.{ℕ, List, [], ◌∷◌, Bool, true, false, Option, Some, None, option_map, nat_le, length, codes, if◌then◌else◌}
use Rattle.std.specs.Str.{bytes_eq}
use Rattle.flt_script.specs.Gives.{◌⇒◌}
use Rattle.flt_script.specs.Numeral.{number, from_to}
use Rattle.flt_run.specs.declared.command.Command.{Command}
use Rattle.flt_run.specs.declared.command.Command.TheVariants.{Run, Check, Load}
use Rattle.flt_run.specs.Command.{IsLoadInRange}
use Rattle.flt_program.specs.declared.invocation.Invocation.{Invocation}
use Rattle.flt_program.specs.declared.invocation.Invocation.TheVariants.{Flash, Eeprom, Watch}

-- What one word asks for.
abbrev pub invocation_named : List ℕ → Invocation
invocation_named word =
    if bytes_eq word (codes "run") then Flash (Some Run)
    else if bytes_eq word (codes "check") then Flash (Some Check)
    else if bytes_eq word (codes "ea") then Eeprom Run
    else if bytes_eq word (codes "watch") then Watch
    else Flash None

-- How many reports a load has: one to five digits, 1 to 60000.
unfoldable pub count_of : List ℕ → Option ℕ
count_of word = if nat_le (length word) 5 then (number word ⇒ λ count. from_to 1 60000 count) else None

-- Whether a load is made in lanes.
abbrev pub kind_of : List ℕ → Option Bool
kind_of word =
    if bytes_eq word (codes "plain") then Some false
    else if bytes_eq word (codes "lanes") then Some true
    else None

-- A load of this many reports.
unfoldable pub load_of : List ℕ → List ℕ → List ℕ → Option Command
load_of word count kind =
    if bytes_eq word (codes "load") then (count_of count ⇒ λ reports. option_map (λ lanes. Load reports lanes) (kind_of kind))
    else None

-- One word, or those of a load; all others are no command.
abbrev pub invocation_of : List (List ℕ) → Invocation
invocation_of [] = Flash None
invocation_of (word ∷ []) = invocation_named word
invocation_of (word ∷ next ∷ []) = Flash None
invocation_of (word ∷ count ∷ kind ∷ []) = Flash (load_of word count kind)
invocation_of (word ∷ count ∷ kind ∷ next ∷ more) = Flash None

-- A load has this many reports.
abbrev pub IsOfRange : Invocation → Type 0
IsOfRange (Flash command) = IsLoadInRange command
IsOfRange (Eeprom command) = IsLoadInRange (Some command)
IsOfRange Watch = Unit {0}
