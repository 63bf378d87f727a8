-- What a trace is made of: a run of a script over a blank flash, and the texts of its last life.
use Rattle.std.specs.Prelude.{◌≡◌, ◌≢◌, ◌⊎◌, ℕ, List, [], ◌∷◌, ◌++◌, Option, Some, None, codes, length, replicate}
use Rattle.std.specs.Fmt.{decimal}
use Rattle.flt_flash.specs.Memory.{flash_state}
use Rattle.flt_flash.specs.Image.{blank_page}
use Rattle.flt_flash.specs.State.{FlashState, first_state}
use Rattle.flt_flash.specs.declared.memory.FlashMem.{FlashMem}
use Rattle.flt_config.specs.declared.config.Config.{Config}
use Rattle.flt_config.specs.declared.config.DidUse.{DidUse}
use Rattle.flt_config.specs.declared.persist.Persist.{Persist}
use Rattle.flt_life_model.specs.declared.life.Boot.TheVariants.{Started}
use Rattle.flt_life_model.specs.declared.life.Life.{Life}
use Rattle.flt_lives.specs.Media.{sectors}
use Rattle.flt_run.specs.declared.command.Command.TheVariants.{Run}
use Rattle.flt_run.specs.declared.running.Outcome.{Outcome}
use Rattle.flt_run.specs.Ending.{RunInside, RunOutside, Runs}
use Rattle.flt_filter.specs.Verdict.{Due, line_due}
use Rattle.flt_trace.specs.Trace.{Texts, trace_line}
use Rattle.flt_audit.specs.Audit.{IsAudited}
use Rattle.flt_audit.specs.Shape.{TellsLife}
use Rattle.flt_trace.specs.Answered.{answer_texts}

-- A blank flash of 1,024 pages a sector, whose power may come 256 times.
abbrev pub blank_flash : FlashState
blank_flash = first_state 1024 (replicate 1024 blank_page) (replicate 1024 blank_page) 256

-- The inside of a run that reads these bytes, on a source that never fails, over a blank flash.
abbrev pub inside_on : List ℕ → Option (List ℕ) → FlashMem → RunInside
inside_on bytes left flash = record {
  left = Some bytes;
  left_after = left;
  read_faults = 0;
  read_faults_after = 0;
  media = sectors;
  device = blank_flash;
  device_after = flash_state flash;
}

-- The outside of a run whose sink keeps nothing and never fails.
abbrev pub no_outside : RunOutside
no_outside = record { held = None; held_after = None; write_faults = 0; write_faults_after = 0 }

-- These bytes were run over a blank flash, and memory did not run out.
pub record RunsOnBlank (dids : List DidUse) (bytes : List ℕ) (outcome : Outcome FlashMem) : Type 0 where
  pub left : Option (List ℕ)
  pub runs : Runs dids (inside_on bytes left outcome.device) no_outside (Some Run) outcome.status outcome.lives.items
  pub memory : outcome.status ≢ 7

-- This is the line of the last life: of the script, of the state with which it began, of its calls, and of its answers, each at its
-- place. It is of the audit's shape, and the audit of it is yes.
pub record IsTraceOf (dids : List DidUse) (bytes : List ℕ) (lives : List Life) (line : List ℕ) : Type 0 where
  pub earlier : List Life
  pub life : Life
  pub last : lives ≡ earlier ++ life ∷ []
  pub number : ℕ
  pub start : Persist
  pub begun : life.boot ≡ Started number start
  pub config : Config
  pub texts : Texts
  pub printed : line ≡ trace_line texts
  pub script : texts.script ≡ bytes
  pub shape : TellsLife dids texts (record { config = config; base = start; journal = life.journal.items })
  pub answers : texts.answers ≡ answer_texts life.journal.items life.replies.items
  pub audited : IsAudited dids line (line_due 0 (codes "yes " ++ decimal (length life.journal.items)))

-- What is reported about a run: the line of the last life if it was started, and otherwise nothing.
pub record IsTraceDue (dids : List DidUse) (bytes : List ℕ) (outcome : Outcome FlashMem) (due : Due) : Type 0 where
  pub status : due.status ≡ outcome.status
  pub text : ((outcome.status ≡ 0) × IsTraceOf dids bytes outcome.lives.items due.text) ⊎ ((outcome.status ≢ 0) × (due.text ≡ []))
