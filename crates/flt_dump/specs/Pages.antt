-- What is answered where lines are no pages. This serves the proof.
use Rattle.std.specs.Prelude.{◌≡◌, ℕ, List, Result, Err}
use Rattle.flt_dump.specs.declared.pages.PagesFault.{PagesFault}
use Rattle.flt_dump.specs.declared.pages.PagesFault.TheVariants.{Memory, Line}

-- The first line that is wrong is reported; a lack of memory says nothing of the lines.
abbrev pub IsWrongLine : PagesFault → Result (List (List ℕ)) ℕ → Type 0
IsWrongLine Memory pages = Unit {0}
IsWrongLine (Line number) pages = pages ≡ Err number
