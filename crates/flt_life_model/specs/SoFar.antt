-- The saves and the failures of a life so far: which generations its store holds, and why steps failed; all lists begin with the newest.
use Rattle.std.specs.Prelude.{◌≡◌, ℕ, ◌+◌, ◌-◌, ◌*◌, ◌^◌, ◌≤◌, List, IsTrue, IsFalse}
use Rattle.flt_flash.specs.State.{HasRisenBy}
use Rattle.flt_flash.specs.declared.blocks.Blocks.{Ghosts}
use Rattle.flt_config.specs.declared.config.Config.{Config}
use Rattle.flt_store_model.specs.Holding.{Generation}
use Rattle.flt_store.specs.declared.fault.SaveFault.TheVariants.{Spent, SequenceSpent}
use Rattle.flt_store.specs.declared.store.Store.{Store}
use Rattle.flt_store.specs.Store.{driver_of, IsRunning}
use Rattle.flt_life_model.specs.Answers.{Told}
use Rattle.flt_life_model.specs.Causes.{HasFailedBy, flash_failures, jobs_failed}
use Rattle.flt_life_model.specs.Chain.{start_from}
use Rattle.flt_life_model.specs.Journal.{Journal, Acknowledges}
use Rattle.flt_life_model.specs.Saving.{IsLeft, AreRising, last_saved_number}

-- Both generations of the image are the one that was acknowledged last, or one of a save since then.
pub record IsKeptSince (c : Config) (first : Generation) (journal : Journal) (told : List Told) (held spare : Generation) : Type 0 where
  pub last : Generation
  pub acknowledged : Acknowledges (start_from c first.state) first journal last
  pub number : last_saved_number first.number told ≡ last.number
  pub held_is : IsLeft (start_from c first.state) journal told last held
  pub spare_is : IsLeft (start_from c first.state) journal told last spare
  pub rising : AreRising first.number told

-- Each step that failed has its cause so far, since this count of faults.
pub record IsCaused {B : Type 0} {b : Ghosts B} (c : Config) (begun : ℕ) (told : List Told) (store : Store B b) : Type 0 where
  pub held_now : Generation
  pub spare_now : Generation
  pub running : IsRunning c held_now spare_now store
  pub flash : HasRisenBy (3 * flash_failures told) begun (driver_of store).device.faults
  pub jobs : IsFalse (driver_of store).is_spent → HasRisenBy (3 * (flash_failures told + jobs_failed told)) begun (driver_of store).device.faults
  pub spent : HasFailedBy Spent told → 2 ^ 32 - 1 ≤ spare_now.number
  pub sequence : HasFailedBy SequenceSpent told → IsTrue (driver_of store).is_spent
