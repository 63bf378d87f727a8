-- What whole lives need, and what they leave.
use Rattle.std.specs.Prelude.{◌≡◌, ℕ, ◌+◌, ◌<◌, ◌≤◌, ◌^◌, List, All, Vec, length, sum_by}
use Rattle.flt_config.specs.declared.config.Config.{Config}
use Rattle.flt_config.specs.Durable.{Fits}
use Rattle.flt_flash.specs.declared.blocks.Blocks.{Ghosts}
use Rattle.flt_flash.specs.Blocks.{BlocksState, DeviceState}
use Rattle.flt_flash.specs.State.{HasRisenBy}
use Rattle.flt_step.specs.declared.step.Part.{Part}
use Rattle.flt_step.specs.Part.{parts_of}
use Rattle.flt_store_model.specs.Holding.{Generation}
use Rattle.flt_store.specs.declared.store.Store.{Store}
use Rattle.flt_store.specs.Store.{IsAlive, IsRunning, driver_of}
use Rattle.flt_life_model.specs.declared.life.Boot.TheVariants as boots
use Rattle.flt_life_model.specs.declared.life.Life.{Life}
use Rattle.flt_life_model.specs.Actions.{all_arms}
use Rattle.flt_life_model.specs.Causes.{AreCaused}
use Rattle.flt_life_model.specs.Chain.{KeepsApplications, Leaves, LifeView, told_of}
use Rattle.flt_life_model.specs.Going.{AddsLife, GoesOn, WereGiven}
use Rattle.flt_life_model.specs.Lives.{AreEnded, AreGiven, ArePlayed, IsLinked, StaysSound, arms_by, arms_given, lists, lives_seen}
use Rattle.flt_life_model.specs.Moment.{Medium, Moment, moment_of}
use Rattle.flt_life_model.specs.Parts.{IsPossiblePart, arms_in, own_actions, steps_in, widths}
use Rattle.flt_life_model.specs.Played.{IsPlayed}
use Rattle.flt_lives.specs.Devices.{BeginsLives}
use Rattle.flt_lives.specs.Linked.{KeepsOn}
use Rattle.flt_lives.specs.Living.{IsLived}

-- One life over such a device can have these parts: each is possible, they, their steps and their lanes are few, and so are the arms.
pub record FitInLife (c : Config) (device : DeviceState) (parts : List Part) : Type 0 where
  -- Each part is possible.
  pub possible : All (IsPossiblePart c) (parts_of parts)
  -- The steps are 65,536 at most.
  pub few : sum_by steps_in (parts_of parts) ≤ 65536
  -- The number of each lane fits four bytes.
  pub numbers : widths (parts_of parts) + 1 < 2 ^ 32
  -- The number of each part fits four bytes.
  pub indices : length parts < 2 ^ 32
  -- The bench has a place for each arm.
  pub arms : device.bench.armed + sum_by arms_in (parts_of parts) ≤ 64

-- A life began with this generation, was made of its parts, and leaves a sound image and each application block by its drains.
pub record IsLifeFrom (c : Config) (first : Generation) (before after : BlocksState) (life : LifeView) : Type 0 where
  -- It began with this generation.
  pub boot : life.boot ≡ boots.Started first.number first.state
  -- It leaves a sound image, with a generation no older than the last acknowledged one.
  pub leaves : Leaves c first life (moment_of after)
  -- Each failure that it answers has its cause.
  pub caused : (boot : Moment) → HasRisenBy 0 boot.faults before.device.faults → AreCaused c boot (moment_of after) (told_of life)
  -- It has the calls of its steps in order, and each answer is that of its machine at its place.
  pub played : IsPlayed c life
  -- Each application block holds what its drains and writes left there.
  pub kept : KeepsApplications (moment_of before) (moment_of after) life
  -- The arms that were given are those of its steps.
  pub arms_made : WereGiven (all_arms (own_actions life.parts)) before.device.bench.arms after.device.bench.arms

-- A life from its power-up on, however it began: it was made of its parts, and gave the arms of its steps and no more.
pub record IsLivedThrough (c : Config) (before after : BlocksState) (life : LifeView) : Type 0 where
  -- It was lived between these two states of the driver.
  pub lived : IsLived c before after life
  -- It has the calls of its steps in order, and each answer is that of its machine at its place.
  pub played : IsPlayed c life
  -- The arms that were given are those of its steps, if it began.
  pub arms_made : WereGiven (arms_by life.parts life.boot) before.device.bench.arms after.device.bench.arms
  -- The device has one more boot.
  pub adds : AddsLife before after
  -- The bench has no more arms than before and those of the life.
  pub armed : after.device.bench.armed ≤ before.device.bench.armed + sum_by arms_in life.parts

-- What holds even where memory ran out: at most this many lives were begun, and a sound image is still sound.
pub record LeavesSound (c : Config) (most : ℕ) (before after : BlocksState) : Type 0 where
  -- Each life that was begun has a boot, and there are no more than the limit.
  pub begun : BeginsLives most before.device after.device
  -- An image that was sound is sound.
  pub sound : StaysSound c (moment_of before) (moment_of after)
  -- The driver has the room that it had.
  pub room : after.room ≡ before.room

-- The lives of a script over a driver, on whatever medium it keeps its blocks.
pub record AreLivedThrough {B : Type 0} (b : Ghosts B) {A : Type 0} (c : Config) (before after : BlocksState) (script : List (Vec Part A)) (lives : List Life) : Type 0 where
  -- Each life begins with what the one before left, on whatever medium.
  pub linked : (medium : Medium) → KeepsOn b c medium → IsLinked c medium before.device after.device (lives_seen (lists script) lives)
  -- Each life has the calls of its steps in order, and each answer is that of its machine at its place.
  pub played : ArePlayed c (lives_seen (lists script) lives)
  -- No life but the last is refused, and else there are as many as asked.
  pub ended : AreEnded (length script) (lives_seen (lists script) lives)
  -- The arms that were given are those of the steps, each in its life.
  pub arms_made : AreGiven (arms_given (length before.device.bench.boots) (lives_seen (lists script) lives)) before.device.bench.arms after.device.bench.arms

module _ {B : Type 0} {b : Ghosts B} where
  -- A start-up left the store running with this generation alone.
  pub record HasStarted (c : Config) (first : Generation) (store : Store B b) : Type 0 where
    -- The state of the generation fits the configuration.
    pub fits : Fits c first.state
    -- The store runs with it alone.
    pub running : IsRunning c first first store

  -- The steps of one life left the store running, and gave at most this many arms.
  pub record StaysAlive (c : Config) (most : ℕ) (store now : Store B b) : Type 0 where
    -- The store runs.
    pub alive : IsAlive c now
    -- The driver went on without a power-up.
    pub keeps_driver : GoesOn (driver_of store) (driver_of now)
    -- The steps gave no more arms than the limit.
    pub armed : (driver_of now).device.bench.armed ≤ (driver_of store).device.bench.armed + most
