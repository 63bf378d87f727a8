-- How a run with lives ends: by how its last life began, and why.
use Rattle.std.specs.Prelude.{◌≡◌, ◌⊎◌, ℕ, List, [], ◌∷◌, Some, None, Ok, Err, IsTrue, IsFalse}
use Rattle.flt_flash.specs.State.{HasRisenBy}
use Rattle.flt_config.specs.declared.config.Config.{Config}
use Rattle.flt_store_model.specs.Holding.{Generation, Fault, held}
use Rattle.flt_restore.specs.declared.fault.StartFault.TheVariants as faults
use Rattle.flt_life_model.specs.declared.life.Boot.{Boot}
use Rattle.flt_life_model.specs.declared.life.Boot.TheVariants.{Started, Dark, Refused}
use Rattle.flt_life_model.specs.Chain.{LifeView, Finds, IsLifeBetween, IsFound}
use Rattle.flt_life_model.specs.Moment.{Moment}

-- The status by how the last life began: 0 if it was started, 5 if it is dark, 6 if its image is damaged or of another
-- configuration, and 8 if no sequence number is left.
abbrev pub status_by : Boot → ℕ
status_by (Started number state) = 0
status_by Dark = 5
status_by (Refused faults.Flash) = 5
status_by (Refused (faults.Damaged place)) = 6
status_by (Refused (faults.OtherConfig found wanted)) = 6
status_by (Refused faults.SequenceSpent) = 8

-- The status of lives, newest first.
abbrev pub status_of_lives : List LifeView → ℕ
status_of_lives [] = 0
status_of_lives (life ∷ earlier) = status_by life.boot

-- The image was judged damaged, or of another configuration: by the first copy of its commit, or by the second, but only if the count
-- rose by three in the start of the life.
abbrev pub IsJudgedFaulty : Config → Moment → ℕ → Type 0
IsJudgedFaulty c boot ended = ((place : ℕ × ℕ) × (boot.damage ≡ Some place)) ⊎ ((boot.damage ≡ None) × ((fault : Fault) × IsFound c boot ended (Err fault)))

-- The image was judged to hold a generation.
abbrev pub IsJudgedWhole : Config → Moment → ℕ → Type 0
IsJudgedWhole c boot ended = (g : Generation) × Finds c boot ended g

-- Why a run ends with a status, by the last power-up, the moment at the end, and the count of faults at the end of the last start.
pub record StatusHasCause (c : Config) (boot next : Moment) (ended status : ℕ) : Type 0 where
  -- 0 and 8 are given only if a generation was found, 6 only if none was.
  pub started : status ≡ 0 → IsJudgedWhole c boot ended × IsFalse boot.is_spent
  pub refused : status ≡ 6 → IsJudgedFaulty c boot ended
  pub spent : status ≡ 8 → IsJudgedWhole c boot ended × IsTrue next.is_spent
  -- 5 is given only if there were three faults.
  pub dark : status ≡ 5 → HasRisenBy 3 boot.faults ended
  -- An image that holds a generation, with a sequence number left and fewer faults, is started.
  pub completed : boot.damage ≡ None → (g : Generation) → held c boot.value ≡ Ok g → IsFalse next.is_spent → ¬ HasRisenBy 3 boot.faults ended → status ≡ 0

-- The status of a life has its cause.
abbrev pub EachStatusHasCause : Type 0
EachStatusHasCause = (c : Config) (boot next : Moment) (ended : ℕ) (life : LifeView) → IsLifeBetween c boot next ended life
    → StatusHasCause c boot next ended (status_by life.boot)
