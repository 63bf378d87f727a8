-- A run over a blank flash, as its source and its flash reveal.
use Rattle.std.proofs.Common.{◌≡◌, ◌≢◌, ℕ, List, Option, Some, subst}
use Rattle.flt_config.specs.declared.config.DidUse.{DidUse}
use Rattle.flt_flash.specs.Memory.{flash_state}
use Rattle.flt_flash.specs.State.{FlashState}
use Rattle.flt_flash.specs.declared.memory.FlashMem.{FlashMem}
use Rattle.flt_lives.specs.Media.{sectors}
use Rattle.flt_run.specs.declared.command.Command.TheVariants.{Run}
use Rattle.flt_run.specs.declared.running.Outcome.{Outcome}
use Rattle.flt_run.specs.Ending.{RunInside, Runs}
use Rattle.flt_examine.specs.Traced.{RunsOnBlank, blank_flash, no_outside}

-- The inside of a run that reads these bytes, over a flash.
abbrev pub inside_over : List ℕ → Option (List ℕ) → FlashState → FlashMem → RunInside
inside_over bytes left device flash = record {
  left = Some bytes;
  left_after = left;
  read_faults = 0;
  read_faults_after = 0;
  media = sectors;
  device = device;
  device_after = flash_state flash;
}

module _ (dids : List DidUse) (left : Option (List ℕ)) (outcome : Outcome FlashMem) where
  abbrev pub RunsOver : List ℕ → FlashState → Type 0
  RunsOver bytes device = Runs dids (inside_over bytes left device outcome.device) no_outside (Some Run) outcome.status outcome.lives.items

  pub runs_on_blank : (held bytes : List ℕ) (device : FlashState) → held ≡ bytes → device ≡ blank_flash
      → RunsOver held device → outcome.status ≢ 7 → RunsOnBlank dids bytes outcome
  runs_on_blank held bytes device held_is device_is runs memory =
      let by_device = subst (λ (d : FlashState). RunsOver held d) device_is runs in
      record {
        left = left;
        runs = subst (λ (b : List ℕ). RunsOver b blank_flash) held_is by_device;
        memory = memory;
      }
