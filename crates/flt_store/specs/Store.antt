-- A store that was started, and what its calls leave.
use Rattle.std.specs.Prelude.{◌≡◌, ◌⊎◌, ℕ, ◌+◌, ◌≤◌, Bool, IsTrue, IsFalse, List, [], Option, Some}
use Rattle.flt_flash.specs.Content.{Content, missing, invalid, bytes}
use Rattle.flt_flash.specs.Blocks.{BlocksState}
use Rattle.flt_flash.specs.declared.blocks.Blocks.{Ghosts}
use Rattle.flt_config.specs.declared.config.Config.{Config}
use Rattle.flt_config.specs.declared.persist.Persist.{Persist}
use Rattle.flt_nvm.specs.Driver.{driver_of as driver_beneath}
use Rattle.flt_store_model.specs.declared.commit.Commit.{Commit}
use Rattle.flt_store_model.specs.Laws.{IsGiven}
use Rattle.flt_store_model.specs.Holding.{Generation, last_number, IsSound, IsOneOf}
use Rattle.flt_store.specs.declared.store.Store.{Store}
use Rattle.flt_store.specs.Cause.{FailsThrice, HasRoom}
use Rattle.flt_store.specs.Started.{HasMark, IsStarted}
use Rattle.flt_store.specs.Known.{Knows, KnowsNamed, MayKnow}
use Rattle.flt_store.specs.Keeping.{HasCommit}
use Rattle.flt_image.specs.Blocks.{bytes_at}

-- The state under this number.
abbrev pub numbered : ℕ → Persist → Generation
numbered number state = record { number = number; state = state }

-- What a read of an application block gives.
abbrev pub Gets : Content → Bool → List ℕ → Type 0
Gets missing found out = IsFalse found × (out ≡ [])
Gets invalid found out = ⊥
Gets (bytes held) found out = IsTrue found × (out ≡ held)

-- The driver was mounted, and leaves a valid configuration its room.
pub record IsServed (c : Config) (driver : BlocksState) : Type 0 where
  -- The configuration is valid.
  pub valid_config : IsGiven c
  -- The driver has room for it.
  pub room : HasRoom c driver.room
  -- The driver was mounted.
  pub mounted : IsTrue driver.has_mounted

module _ {B : Type 0} {b : Ghosts B} where
  -- The driver beneath.
  abbrev pub driver_of : Store B b → BlocksState
  driver_of store = driver_beneath store.nvm

  -- The commit that the store keeps.
  abbrev pub commit_of : Store B b → Option Commit
  commit_of store = store.commit

  -- The bytes of the used blocks that the store keeps, by identifier.
  abbrev pub kept_of : Store B b → ℕ → List ℕ
  kept_of store = bytes_at store.saved

  -- The last start-up and every save since then answered Ok.
  abbrev pub is_settled : Store B b → Bool
  is_settled store = store.is_settled

  -- The last start-up answered Ok under this configuration: the image holds these two generations, the second by the second copy
  -- of its commit; while the store is settled, both copies name the first, and the store keeps its bytes.
  pub record IsRunning (c : Config) (held spare : Generation) (store : Store B b) : Type 0 where
    -- The driver serves the configuration.
    pub served : IsServed c (driver_of store)
    -- The mark of the configuration is there.
    pub mark : HasMark c (driver_of store).value
    -- The image holds the two generations.
    pub sound : IsSound c (driver_of store).value held spare
    -- While the store is settled, both copies of the commit name the first.
    pub settled : IsTrue (is_settled store) → IsStarted c (driver_of store).value (commit_of store) held
    -- While the store is settled, it keeps the first one's bytes.
    pub known : IsTrue (is_settled store) → Knows c (kept_of store) held.state

  -- The store runs with two generations.
  pub record IsAlive (c : Config) (store : Store B b) : Type 0 where
    -- The first generation.
    pub held : Generation
    -- The second generation.
    pub spare : Generation
    -- The store runs with them.
    pub running : IsRunning c held spare store

  -- A fact of the two generations that the image of a running store holds.
  abbrev pub WhileRunning : Config → Store B b → (Generation → Generation → Type 0) → Type 0
  WhileRunning c store fact = (held spare : Generation) → IsRunning c held spare store → fact held spare

  -- Both copies name the generation from which a save goes on, of which the store keeps what it knows.
  pub record IsReady (c : Config) (g : Generation) (store : Store B b) : Type 0 where
    -- The driver serves the configuration.
    pub served : IsServed c (driver_of store)
    -- Both copies of the commit name the generation.
    pub started : IsStarted c (driver_of store).value (commit_of store) g
    -- What the store keeps of its blocks is what they hold.
    pub known : MayKnow c (commit_of store) (kept_of store) g.state

  -- A save goes on from the held generation; or from the spare one, where a save failed before and the flash failed three times.
  abbrev pub IsChosen : (held spare : Generation) → Generation → Store B b → Store B b → Type 0
  IsChosen held spare chosen before after =
      (chosen ≡ held) ⊎ ((chosen ≡ spare) × IsFalse (is_settled before) × FailsThrice (driver_of before) (driver_of after))

  -- A call before which no save failed, or in which the flash did not fail three times.
  abbrev pub IsUndisturbed : Store B b → Store B b → Type 0
  IsUndisturbed before after = IsTrue (is_settled before) ⊎ (FailsThrice (driver_of before) (driver_of after) → ⊥)

  -- A call in which the flash failed less than three times, and after which a sequence number is left.
  pub record IsUnhindered (before after : Store B b) : Type 0 where
    -- No three tries of a job failed.
    pub tries : FailsThrice (driver_of before) (driver_of after) → ⊥
    -- The driver has a sequence number left.
    pub numbers : IsFalse (driver_of after).is_spent

  -- The store keeps the commit that the first copy had, and the bytes of the held generation, which it names.
  pub record Learns (c : Config) (held : Generation) (before after : Store B b) : Type 0 where
    -- The store keeps the commit of the first copy.
    pub commit : (commit : Commit) → HasCommit c (driver_of before).value commit → commit_of after ≡ Some commit
    -- It keeps the bytes of the held generation.
    pub known : KnowsNamed c (commit_of after) (kept_of after) held.state

  -- A start-up after a save that failed chose the generation from which the next save goes on: both copies name it.
  pub record Chooses (c : Config) (held spare : Generation) (before after : Store B b) : Type 0 where
    -- The generation that was chosen.
    pub chosen : Generation
    -- It is the held one, or after a failed save the spare one if three tries failed.
    pub is : IsChosen held spare chosen before after
    -- Both copies of the commit name it.
    pub ready : IsReady c chosen after
    -- Unless a save failed before and three tries failed now, the store keeps the held generation's bytes.
    pub learns : IsUndisturbed before after → Learns c held before after

  -- A save that answered this number, one more than that of the generation from which it went on: both copies name the state under it.
  pub record Saves (c : Config) (held spare : Generation) (state : Persist) (number : ℕ) (before after : Store B b) : Type 0 where
    -- The generation from which the save went on.
    pub chosen : Generation
    -- It is the held one, or after a failed save the spare one if three tries failed.
    pub is : IsChosen held spare chosen before after
    -- The number is one more than its number.
    pub next : number ≡ chosen.number + 1
    -- The store runs with the new generation alone.
    pub running : IsRunning c (numbered number state) (numbered number state) after

  -- A save that failed: each generation is one of the old two or the new one, and the spare one's number did not fall.
  pub record MayHaveSaved (c : Config) (held spare : Generation) (state : Persist) (before after : Store B b) : Type 0 where
    -- The generation from which the save went on.
    pub chosen : Generation
    -- It is the held one, or after a failed save the spare one if three tries failed.
    pub is : IsChosen held spare chosen before after
    -- The first generation now.
    pub now_held : Generation
    -- The second generation now.
    pub now_spare : Generation
    -- The store runs with them.
    pub running : IsRunning c now_held now_spare after
    -- The first is one of the old two or the new one.
    pub held_is : IsOneOf now_held held spare (numbered (chosen.number + 1) state)
    -- So is the second.
    pub spare_is : IsOneOf now_spare held spare (numbered (chosen.number + 1) state)
    -- The second one's number did not fall.
    pub rises : spare.number ≤ now_spare.number

  -- The generation from which the save went on has the last number, and both copies name it.
  pub record IsLast (c : Config) (held spare : Generation) (before after : Store B b) : Type 0 where
    -- The generation from which the save went on.
    pub last : Generation
    -- It is the held one, or after a failed save the spare one if three tries failed.
    pub is : IsChosen held spare last before after
    -- It has the last number.
    pub number : last.number ≡ last_number
    -- The store runs with it alone.
    pub running : IsRunning c last last after
