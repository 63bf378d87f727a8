-- Why steps of a life failed that touch the flash.
use Rattle.std.specs.Prelude.{◌≡◌, ◌⊎◌, ℕ, ◌+◌, ◌-◌, ◌*◌, ◌^◌, List, [], ◌∷◌, Ok, IsTrue, IsFalse}
use Rattle.flt_flash.specs.State.{HasRisenBy}
use Rattle.flt_config.specs.declared.config.Config.{Config}
use Rattle.flt_store_model.specs.Holding.{Generation, held}
use Rattle.flt_store.specs.declared.fault.SaveFault.{SaveFault}
use Rattle.flt_store.specs.declared.fault.SaveFault.TheVariants.{Flash, Spent, SequenceSpent}
use Rattle.flt_life_model.specs.Answers.{Told}
use Rattle.flt_life_model.specs.declared.answer.StepAnswer.TheVariants.{SaveFailed, Drained, BlockFlash}
use Rattle.flt_life_model.specs.Moment.{Moment}

-- The number of saves and reads of application blocks that failed for the flash.
abbrev pub flash_failures : List Told → ℕ
flash_failures [] = 0
flash_failures (SaveFailed Flash ∷ earlier) = flash_failures earlier + 1
flash_failures (BlockFlash ∷ earlier) = flash_failures earlier + 1
flash_failures (_ ∷ earlier) = flash_failures earlier

-- The number of jobs that could not be written.
abbrev pub jobs_failed : List Told → ℕ
jobs_failed [] = 0
jobs_failed (Drained written failed ∷ earlier) = jobs_failed earlier + failed
jobs_failed (_ ∷ earlier) = jobs_failed earlier

-- A save failed for this cause.
abbrev pub HasFailedBy : SaveFault → List Told → Type 0
HasFailedBy fault [] = ⊥
HasFailedBy fault (SaveFailed told ∷ earlier) = (told ≡ fault) ⊎ HasFailedBy fault earlier
HasFailedBy fault (_ ∷ earlier) = HasFailedBy fault earlier

-- Each step that failed has its cause: three faults of the flash for each save, read and job (a job needs none if the last
-- sequence number is in use at the next power-up); the last number of a generation there; or the last sequence number there.
pub record AreCaused (c : Config) (boot next : Moment) (told : List Told) : Type 0 where
  pub flash : HasRisenBy (3 * flash_failures told) boot.faults next.faults
  pub jobs : IsFalse next.is_spent → HasRisenBy (3 * (flash_failures told + jobs_failed told)) boot.faults next.faults
  pub spent : HasFailedBy Spent told → (g : Generation) × (held c next.value ≡ Ok g) × (g.number ≡ 2 ^ 32 - 1)
  pub sequence : HasFailedBy SequenceSpent told → IsTrue next.is_spent
