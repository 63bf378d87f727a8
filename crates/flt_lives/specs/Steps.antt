-- What the steps of a life without other lanes need, and what they leave.
use Rattle.std.specs.Prelude.{◌≡◌, ℕ, ◌+◌, ◌<◌, ◌≤◌, List, [], ◌∷◌, ◌++◌, Vec, length, reverse}
use Rattle.flt_config.specs.declared.config.Config.{Config}
use Rattle.flt_flash.specs.declared.arm.Arm.{Arm}
use Rattle.flt_flash.specs.declared.blocks.Blocks.{Ghosts}
use Rattle.flt_flash.specs.Blocks.{BlocksState, DeviceState}
use Rattle.flt_flash.specs.Calls.{Follows}
use Rattle.flt_model.specs.declared.call.Op.{Op}
use Rattle.flt_store_model.specs.Holding.{Generation, SameApplications}
use Rattle.flt_dcm.specs.declared.unit.Unit.{Unit as Machine}
use Rattle.flt_dcm.specs.Unit.{Stands, UnitView}
use Rattle.flt_model.specs.Start.{Start}
use Rattle.flt_dcm.specs.Whole.{config_of, unit_seen}
use Rattle.flt_step.specs.declared.step.Step.{Step}
use Rattle.flt_step.specs.Part.{PartOf}
use Rattle.flt_turn.specs.declared.vault.Entry.{Entry}
use Rattle.flt_store.specs.declared.store.Store.{Store}
use Rattle.flt_store.specs.Store.{IsAlive}
use Rattle.flt_life_model.specs.declared.action.Action.{Action}
use Rattle.flt_life_model.specs.Actions.{IsPossible, arm_count, arms_of}
use Rattle.flt_life_model.specs.Answers.{Told}
use Rattle.flt_life_model.specs.Chain.{start_from}
use Rattle.flt_life_model.specs.Going.{GoesOn, WereGiven}
use Rattle.flt_life_model.specs.Journal.{Journal, calls_of}
use Rattle.flt_life_model.specs.Played.{IsLife}
use Rattle.flt_life_model.specs.Room.{told_in}
use Rattle.flt_life_model.specs.SoFar.{IsCaused}
use Rattle.flt_lives.specs.declared.account.Account.{Account}
use Rattle.flt_lives.specs.Alone.{IsPlain}
use Rattle.flt_lives.specs.Carried.{IsAnsweredBy, IsAtPlace, with_calls}
use Rattle.flt_lives.specs.Living.{IsLiving, IsUnderWay, deeds_told, with_answer}

-- A possible step that leaves the queue and the application blocks alone, and for whose arm the bench of a device has a place.
pub record IsPlainStep (c : Config) (action : Action) (device : DeviceState) : Type 0 where
  -- The step is possible.
  pub possible : IsPossible c action
  -- It leaves the queue and the application blocks alone.
  pub plain : IsPlain action
  -- The bench has a place for its arm.
  pub arms : device.bench.armed + arm_count action ≤ 64

-- The same, where a place of the bench is asked for by an arm alone.
pub record IsPlainAction (c : Config) (action : Action) (device : DeviceState) : Type 0 where
  -- The step is possible.
  pub possible : IsPossible c action
  -- It leaves the queue and the application blocks alone.
  pub plain : IsPlain action
  -- The bench has a place for its arm, if it makes one.
  pub arms : 0 < arm_count action → device.bench.armed < 64

-- Steps of one life gave these arms to the bench of a driver, and no more than this many.
pub record GivesArms (arms : List Arm) (most : ℕ) (before after : BlocksState) : Type 0 where
  -- The driver went on without a power-up.
  pub keeps_driver : GoesOn before after
  -- The arms that were given are these.
  pub arms_made : WereGiven arms before.device.bench.arms after.device.bench.arms
  -- They were no more than the limit.
  pub armed : after.device.bench.armed ≤ before.device.bench.armed + most

-- What a step that leaves the application blocks alone leaves of the driver.
pub record StepLeaves (action : Action) (before after : BlocksState) : Type 0 where
  -- No application block changed.
  pub applications : SameApplications before.value after.value
  -- The arm of the step was given, if it makes one.
  pub gives : GivesArms (arms_of action) (arm_count action) before after
  -- If it makes none, the driver was called, and nothing else was done with it.
  pub calls : arm_count action ≡ 0 → Follows before after

-- No call and no answer yet.
pub record IsNewAccount (account : Account) : Type 0 where
  -- The journal is empty.
  pub calls : account.journal.items ≡ []
  -- There is no answer.
  pub answers : told_in account.replies ≡ []

module _ {B : Type 0} {b : Ghosts B} where
  -- A step was made and has this answer: it is that of the machine after the calls before it, a life that was living goes on with the calls of the
  -- step, and each failure has its cause.
  pub record MakesPlainStep (c : Config) (action : Action) (unit next_unit : UnitView) (store next_store : Store B b) (told : Told) : Type 0 where
    -- The answer is the machine's or the store's, whatever calls came before.
    pub answered : (start : Start) (journal : Journal) → Stands start (calls_of journal) unit → IsAnsweredBy start journal action told
    -- A life that was living goes on with these calls and this answer.
    pub living : (first : Generation) (journal : Journal) (earlier : List Told) → IsLiving c first journal earlier unit store
        → IsLiving c first (with_calls action told journal) (with_answer action told earlier) next_unit next_store
    -- If the answer is a failure, it has its cause.
    pub caused : (begun : ℕ) (earlier : List Told) → IsCaused c begun earlier store → IsCaused c begun (with_answer action told earlier) next_store

module _ {F : _} {g : _} {B : Type 0} {b : Ghosts B} where
  -- A unit and a store between two steps: the unit has this configuration and stands for some calls, and the store runs.
  pub record AreOnTheirWay (c : Config) (unit : Machine F g) (store : Store B b) : Type 0 where
    -- The unit has this configuration.
    pub same : config_of unit ≡ c
    -- It is in the state that some calls lead to.
    pub under_way : IsUnderWay c (unit_seen unit)
    -- The store runs.
    pub alive : IsAlive c store

  -- The same, and its calls are in a journal, where its answer says.
  pub record AnswersStep {A : Type 0} (c : Config) (action : Action) (unit next_unit : Machine F g) (store next_store : Store B b)
      (before after : Vec (Entry Op) A) (told : Told) : Type 0 where
    -- The step was made.
    pub step : MakesPlainStep c action (unit_seen unit) (unit_seen next_unit) store next_store told
    -- Its calls come after the others.
    pub written : reverse after.items ≡ with_calls action told (reverse before.items)
    -- The answer has the place of its call.
    pub placed : IsAtPlace (length (reverse before.items)) told

  -- The same, with the answer after those of an account.
  pub record TakesStep (c : Config) (action : Action) (unit next_unit : Machine F g) (store next_store : Store B b) (before after : Account) : Type 0 where
    -- The answer of the step.
    pub last : Told
    -- It comes after those before.
    pub answers : told_in after.replies ≡ told_in before.replies ++ last ∷ []
    -- The step was made and has this answer.
    pub step : AnswersStep c action unit next_unit store next_store before.journal after.journal last

  -- A life had these parts and no other: it goes on, its calls and its answers are those of its steps, and each failure has its cause.
  pub record HasTakenSteps (c : Config) (parts : List (PartOf Step)) (unit next_unit : Machine F g) (store next_store : Store B b) (account : Account) : Type 0 where
    -- The life goes on with the answers of its steps.
    pub living : (first : Generation) → IsLiving c first [] [] (unit_seen unit) store
        → IsLiving c first (reverse account.journal.items) (deeds_told parts (told_in account.replies)) (unit_seen next_unit) next_store
    -- It has the calls of its steps in order, and each answer is that of its machine at its place.
    pub played : (first : Generation) → IsLiving c first [] [] (unit_seen unit) store
        → IsLife (start_from c first.state) parts (told_in account.replies) [] account.journal.items []
    -- Each failure that it answers has its cause.
    pub caused : (begun : ℕ) → IsCaused c begun [] store → IsCaused c begun (deeds_told parts (told_in account.replies)) next_store
