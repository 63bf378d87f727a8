-- What the program hands to a run, and what it makes of how the run ended.
use Rattle.std.specs.Prelude.{◌≡◌, ◌==◌, ◌⊎◌, ℕ, List, [], ◌∷◌, if◌then◌else◌}
use Rattle.flt_io.specs.Fault.{Rose}
use Rattle.flt_program.specs.declared.choosing.Ended.{Ended}
use Rattle.flt_program.specs.Program.{program_status}

-- The kinds of value that have a subscriber, each of which is called at each change of a watch.
abbrev pub program_kinds : List ℕ
program_kinds = 0 ∷ 1 ∷ 2 ∷ []

-- The exit status where the end of the report was lost: 4, unless memory ran out.
abbrev pub lost_status : ℕ → ℕ
lost_status status = if status == 7 then 7 else 4

-- The exit status: that of what ended, where the end of the report was written; and else the sink's count of faults rose.
abbrev pub IsExit : (faults faults_after : ℕ) → (status exit : ℕ) → Type 0
IsExit faults faults_after status exit =
    ((faults_after ≡ faults) × (exit ≡ status)) ⊎ (Rose faults faults_after × (exit ≡ lost_status status))

-- The program ended in a way of which this holds, and this is the exit status of that. The faults are those of the sink, before the end of the report was
-- written and after that.
pub record Exits {B E : Type 0} {F : _} {g : _} (Ends : Ended B E F g → Type 0) (faults faults_after exit : ℕ) : Type 0 where
  pub ended : Ended B E F g
  pub ends : Ends ended
  pub exit_is : IsExit faults faults_after (program_status ended) exit
