-- What an examination answers, by its command.
use Rattle.std.specs.Prelude.{◌≡◌, ◌⊎◌, ℕ, List, Option, Some, None, codes}
use Rattle.flt_flash.specs.declared.memory.FlashMem.{FlashMem}
use Rattle.flt_config.specs.declared.config.DidUse.{DidUse}
use Rattle.flt_run.specs.declared.running.Outcome.{Outcome}
use Rattle.flt_filter.specs.Verdict.{Came, Due, HasCome, Inside, IsTold, Outside, Tells, WantsMemory, failed, large_due, line_due, too_many, unread_due, whole}
use Rattle.flt_audit.specs.Audit.{IsAudited}
use Rattle.flt_examine.specs.declared.command.Command.{Command}
use Rattle.flt_examine.specs.declared.command.Command.TheVariants.{Inspect, Trace, Audit}
use Rattle.flt_examine.specs.Inspection.{IsInspected}
use Rattle.flt_examine.specs.Traced.{IsTraceDue, RunsOnBlank}

-- What is due if the words are not a command.
abbrev pub usage_due : Due
usage_due = line_due 1 (codes "usage: flt_inspect inspect | trace | audit")

-- What is due of a trace, and the run that it was made of, by what came of the input.
abbrev pub IsTraceDueOf : List DidUse → Came → Option (Outcome FlashMem) → Due → Type 0
IsTraceDueOf dids failed traced due = (traced ≡ None) × (due ≡ unread_due)
IsTraceDueOf dids too_many traced due = (traced ≡ None) × (due ≡ large_due)
IsTraceDueOf dids (whole bytes) None due = ⊥
IsTraceDueOf dids (whole bytes) (Some outcome) due = RunsOnBlank dids bytes outcome × IsTraceDue dids bytes outcome due

-- Something came of the input, and what is due for it was reported.
pub record IsTraced (dids : List DidUse) (inside : Inside) (outside : Outside) (traced : Option (Outcome FlashMem)) (status : ℕ) : Type 0 where
  pub came : Came
  pub due : Due
  pub cause : HasCome inside came
  pub due_is : IsTraceDueOf dids came traced due
  pub told : IsTold outside due status

-- How a trace ends: so, or memory ran out and there is no run.
abbrev pub Traces : List DidUse → Inside → Outside → Option (Outcome FlashMem) → ℕ → Type 0
Traces dids inside outside traced status = (WantsMemory outside status × (traced ≡ None)) ⊎ IsTraced dids inside outside traced status

-- Nothing was read.
abbrev pub ReadsNothing : Inside → Type 0
ReadsNothing inside = (inside.left_after ≡ inside.left) × (inside.faults_after ≡ inside.faults)

-- What an examination answers. There is a run under the command of a trace alone.
abbrev pub Examines : List DidUse → Inside → Outside → Option Command → Option (Outcome FlashMem) → ℕ → Type 0
Examines dids inside outside None traced status = (traced ≡ None) × ReadsNothing inside × (WantsMemory outside status ⊎ IsTold outside usage_due status)
Examines dids inside outside (Some Inspect) traced status = (traced ≡ None) × Tells (IsInspected dids) inside outside status
Examines dids inside outside (Some Audit) traced status = (traced ≡ None) × Tells (IsAudited dids) inside outside status
Examines dids inside outside (Some Trace) traced status = Traces dids inside outside traced status
