-- A life on its way: what holds of its unit, its store, its journal and its answers after each step.
use Rattle.std.specs.Prelude.{ℕ, ◌+◌, ◌≤◌, List, [], ◌∷◌, length, map, reverse, sum_by, vec_len}
use Rattle.std.specs.Vec.{vec_capacity}
use Rattle.flt_flash.specs.State.{HasRisenBy}
use Rattle.flt_flash.specs.Blocks.{BlocksState}
use Rattle.flt_flash.specs.declared.blocks.Blocks.{Ghosts}
use Rattle.flt_config.specs.declared.config.Config.{Config}
use Rattle.flt_config.specs.Durable.{Fits}
use Rattle.flt_config.specs.Validity.{IsValid}
use Rattle.flt_model.specs.Start.{History}
use Rattle.flt_store_model.specs.Holding.{Generation}
use Rattle.flt_dcm.specs.Unit.{UnitView, Stands}
use Rattle.flt_store.specs.declared.store.Store.{Store}
use Rattle.flt_store.specs.Store.{IsRunning}
use Rattle.flt_step.specs.declared.step.Step.{Step}
use Rattle.flt_step.specs.Part.{PartOf}
use Rattle.flt_life_model.specs.declared.action.Action.{Action}
use Rattle.flt_life_model.specs.declared.action.Action.TheVariants.{Save, Drain, Get}
use Rattle.flt_life_model.specs.Actions.{call_count, response_size}
use Rattle.flt_life_model.specs.Answers.{Told, byte_room}
use Rattle.flt_life_model.specs.Ordered.{deeds_in}
use Rattle.flt_life_model.specs.Chain.{LifeView, start_from, IsLifeBetween}
use Rattle.flt_life_model.specs.Journal.{Journal, calls_of}
use Rattle.flt_life_model.specs.Moment.{moment_of}
use Rattle.flt_lives.specs.declared.account.Account.{Account}
use Rattle.flt_life_model.specs.Going.{ArmsSince}
use Rattle.flt_life_model.specs.SoFar.{IsKeptSince}

-- The unit stands for some calls from a base that fits a valid configuration.
pub record IsUnderWay (c : Config) (unit : UnitView) : Type 0 where
  -- The calls since power-up.
  pub past : History
  -- The configuration is valid.
  pub valid : IsValid c
  -- The base fits it.
  pub fits : Fits c unit.base
  -- The unit is in the state that the calls lead to.
  pub stands : Stands (start_from c unit.base) past unit

-- The answers of the deeds so far, the newest first, and that of a step more, where it touches the store.
abbrev pub with_answer : Action → Told → List Told → List Told
with_answer Save told earlier = told ∷ earlier
with_answer Drain told earlier = told ∷ earlier
with_answer (Get block) told earlier = told ∷ earlier
with_answer _ told earlier = earlier

-- The answers of the deeds of parts without blocks, the newest first.
abbrev pub deeds_told : List (PartOf Step) → List Told → List Told
deeds_told parts own = map (λ d. d.1) (reverse (deeds_in parts own []))

-- An account has room for the calls, the answers and the responses of these steps.
pub record HasRoomFor (account : Account) (actions : List Action) : Type 0 where
  -- There are no more calls than a life may have.
  pub few : vec_len account.journal + sum_by call_count actions ≤ 131072
  -- The journal has room for the calls.
  pub calls : vec_len account.journal + sum_by call_count actions ≤ vec_capacity account.journal
  -- The list of answers has room for one a step.
  pub answers : vec_len account.replies.answers + length actions ≤ vec_capacity account.replies.answers
  -- The list of responses has room for those of the steps.
  pub responses : vec_len account.replies.responses + sum_by response_size actions ≤ byte_room account.replies.responses

-- What holds of a life, with the count of faults at the end of its start-up, and the arms that were made in it.
pub record IsLived (c : Config) (before after : BlocksState) (life : LifeView) : Type 0 where
  -- The count of faults at the end of its start-up.
  pub ended : ℕ
  -- It was lived between these two moments of the device.
  pub holds : IsLifeBetween c (moment_of before) (moment_of after) ended life
  -- No fault was counted away since then.
  pub later : HasRisenBy 0 ended after.device.faults
  -- Its arms count faults after its start-up.
  pub arms : ArmsSince (length before.device.bench.boots + 1) ended before.device.bench.arms after.device.bench.arms

module _ {B : Type 0} {b : Ghosts B} where
  pub record IsLiving (c : Config) (first : Generation) (journal : Journal) (told : List Told) (unit : UnitView) (store : Store B b) : Type 0 where
    -- The unit is in the state that the calls lead to.
    pub stands : Stands (start_from c first.state) (calls_of journal) unit
    -- The first generation that the store runs with.
    pub held : Generation
    -- The second one.
    pub spare : Generation
    -- The store runs with them.
    pub running : IsRunning c held spare store
    -- They are no older than the last acknowledged one, and hold what was saved.
    pub kept : IsKeptSince c first journal told held spare
