-- What the program needs of its devices, and how it ends.
use Rattle.std.specs.Prelude.{◌≡◌, ◌≤◌, ℕ, List, Option, Some}
use Rattle.flt_config.specs.declared.config.Config.{Config}
use Rattle.flt_config.specs.declared.config.DidUse.{DidUse}
use Rattle.flt_flash.specs.State.{FlashState}
use Rattle.flt_life_model.specs.Moment.{Medium}
use Rattle.flt_lives.specs.Media.{sectors, units}
use Rattle.flt_notify.specs.declared.table.SubTable.{SubTable}
use Rattle.flt_notify.specs.Table.{kinds_in, values_in}
use Rattle.flt_run.specs.declared.command.Command.{Command}
use Rattle.flt_run.specs.declared.running.Outcome.{Outcome}
use Rattle.flt_run.specs.Ending.{RunInside, RunOutside, Runs}
use Rattle.flt_filter.specs.Verdict as filter
use Rattle.flt_watch.specs.declared.watching.WatchOutcome.{WatchOutcome}
use Rattle.flt_watch.specs.Watch.{Watches}
use Rattle.flt_program.specs.declared.choosing.Ended.{Ended}
use Rattle.flt_program.specs.declared.choosing.Ended.TheVariants as ended
use Rattle.flt_program.specs.declared.invocation.Invocation.{Invocation}
use Rattle.flt_program.specs.declared.invocation.Invocation.TheVariants.{Flash, Eeprom, Watch}

-- A flash that serves each script.
pub record IsFlashForAll (flash : FlashState) : Type 0 where
  -- It has the most pages that a configuration may ask for.
  pub pages : flash.pages ≡ 1024
  -- The power can come once for each life.
  pub boots : 256 ≤ flash.bench.boots_left
  -- No arm was made.
  pub unarmed : flash.bench.armed ≡ 0

-- An EEPROM that serves each script.
pub record IsEepromForAll (eeprom : FlashState) : Type 0 where
  -- It has the most units that a configuration may ask for.
  pub units : 1090 ≤ eeprom.pages
  -- The power can come once for each life.
  pub boots : 256 ≤ eeprom.bench.boots_left
  -- No arm was made.
  pub unarmed : eeprom.bench.armed ≡ 0

-- As it was invoked: with a run over the flash or over the EEPROM, or with a watch, of which this holds.
abbrev pub EndsOn : {B E : Type 0} {F : _} {g : _} → Invocation → (Option Command → Outcome B → Type 0) → (Option Command → Outcome E → Type 0)
    → (WatchOutcome F g → Type 0) → Ended B E F g → Type 0
EndsOn (Flash command) over_flash over_eeprom watches (ended.Flash outcome) = over_flash command outcome
EndsOn (Eeprom command) over_flash over_eeprom watches (ended.Eeprom outcome) = over_eeprom (Some command) outcome
EndsOn Watch over_flash over_eeprom watches (ended.Watch outcome) = watches outcome
EndsOn _ _ _ _ _ = ⊥

-- With all that is promised of a run over these streams and over this flash or this EEPROM, whose states after it the first two give, and with all
-- that is promised of a watch with these subscribers.
abbrev pub EndsOver : {B E : Type 0} {n : ℕ} {F : _} {g : _} → (B → FlashState) → (E → FlashState) → List DidUse → ((Config → Medium) → FlashState → FlashState → RunInside)
    → RunOutside → filter.Inside → filter.Outside → FlashState → FlashState → SubTable n F g → Invocation → Ended B E F g → Type 0
EndsOver flash_after eeprom_after dids inside outside reading writing flash eeprom subs invocation =
    EndsOn invocation (λ command outcome. Runs dids (inside sectors flash (flash_after outcome.device)) outside command outcome.status outcome.lives.items)
    (λ command outcome. Runs dids (inside units eeprom (eeprom_after outcome.device)) outside command outcome.status outcome.lives.items)
    (λ outcome. Watches dids reading writing (kinds_in subs) (values_in subs) outcome)

-- The status of what ended.
abbrev pub program_status : {B E : Type 0} {F : _} {g : _} → Ended B E F g → ℕ
program_status (ended.Flash outcome) = outcome.status
program_status (ended.Eeprom outcome) = outcome.status
program_status (ended.Watch outcome) = outcome.status
