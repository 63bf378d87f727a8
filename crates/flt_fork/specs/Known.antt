-- What a seat knows of the journal: stated of any machine.
use Rattle.std.specs.Prelude.{◌⊎◌, List, Contains}
use mathlib.Core.List.{IsPrefix}
use Rattle.flt_turn.specs.declared.vault.Entry.{Entry}
use Rattle.flt_turn.specs.Seats.{Seated}

-- A beginning of the journal that the seat knows, or a seat that was joined knew.
abbrev pub IsKnownTo : {S O : Type 0} → Seated S O → List (Entry O) → Type 0
IsKnownTo {S} {O} seat known = IsPrefix known seat.seen ⊎ ((old : List (Entry O)) × Contains seat.olds old × IsPrefix known old)
