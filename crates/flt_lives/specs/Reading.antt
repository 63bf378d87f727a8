-- An application block is read in a life, and the read is answered.
use Rattle.std.specs.Prelude.{◌≡◌, ℕ, List, ◌∷◌}
use Rattle.flt_config.specs.declared.config.Config.{Config}
use Rattle.flt_flash.specs.Calls.{Follows, SameValues}
use Rattle.flt_flash.specs.Content.{Content, missing, bytes as holding}
use Rattle.flt_flash.specs.declared.blocks.Blocks.{Ghosts}
use Rattle.flt_store_model.specs.Holding.{Generation}
use Rattle.flt_store_model.specs.Layout.{application_number}
use Rattle.flt_dcm.specs.Unit.{UnitView}
use Rattle.flt_store.specs.declared.store.Store.{Store}
use Rattle.flt_store.specs.Store.{driver_of}
use Rattle.flt_life_model.specs.Answers.{Told}
use Rattle.flt_life_model.specs.Journal.{Journal}
use Rattle.flt_life_model.specs.Played.{IsGot}
use Rattle.flt_life_model.specs.SoFar.{IsCaused}
use Rattle.flt_life_model.specs.declared.answer.StepAnswer.TheVariants as answers
use Rattle.flt_lives.specs.Living.{IsLiving}

-- A read is answered by what the block holds, or the flash failed it.
abbrev pub IsReadOf : Content → Told → Type 0
IsReadOf content (answers.Bytes found) = content ≡ holding found.items
IsReadOf content answers.NoBlock = content ≡ missing
IsReadOf content answers.BlockFlash = Unit {0}
IsReadOf content _ = ⊥

-- An application block was read, and this answered.
pub record ReadsSo {B : Type 0} {b : Ghosts B} (c : Config) (block : ℕ) (store next_store : Store B b) (told : Told) : Type 0 where
  -- It is the answer to a read of a block.
  pub is : IsGot told
  -- A life that was living goes on with this answer.
  pub living : (first : Generation) (journal : Journal) (earlier : List Told) (unit : UnitView) → IsLiving c first journal earlier unit store
      → IsLiving c first journal (told ∷ earlier) unit next_store
  -- If the answer is a failure, it has its cause.
  pub caused : (begun : ℕ) (earlier : List Told) → IsCaused c begun earlier store → IsCaused c begun (told ∷ earlier) next_store
  -- The answer is what the block holds.
  pub found : IsReadOf ((driver_of store).value (application_number block)) told
  -- No block changed.
  pub values : SameValues (driver_of store) (driver_of next_store)
  -- The driver was called, and nothing else was done with it.
  pub keeps_driver : Follows (driver_of store) (driver_of next_store)
