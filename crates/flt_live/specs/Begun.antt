-- How a life of a session begins, in the words of a life of `run`.
use Rattle.std.specs.Prelude.{◌≡◌, [], None, IsFalse}
use Rattle.flt_config.specs.declared.config.Config.{Config}
use Rattle.flt_config.specs.Durable.{Fits}
use Rattle.flt_flash.specs.Blocks.{BlocksState}
use Rattle.flt_flash.specs.State.{HasRisenBy}
use Rattle.flt_flash.specs.declared.blocks.Blocks.{Ghosts}
use Rattle.flt_store_model.specs.Holding.{SameApplications}
use Rattle.flt_store.specs.declared.store.Store.{Store}
use Rattle.flt_store.specs.Store.{IsRunning, driver_of, numbered}
use Rattle.flt_life_model.specs.Chain.{Finds, IsLifeBetween, LifeView}
use Rattle.flt_life_model.specs.Moment.{moment_of}
use Rattle.flt_life_model.specs.declared.life.Boot.{Boot}
use Rattle.flt_life_model.specs.declared.life.Boot.TheVariants.{Started, Dark, Refused}

-- A life that began so and made no step.
abbrev pub without_steps : Boot → LifeView
without_steps boot = record { parts = []; boot = boot; journal = []; queue = []; own = []; lanes = [] }

-- It has the cause that such a life of `run` has, between the driver before the power-up and that after the start-up.
abbrev pub HasBegun : {B : Type 0} {b : Ghosts B} → Config → BlocksState → Boot → Store B b → Type 0
HasBegun c before boot store = IsLifeBetween c (moment_of before) (moment_of (driver_of store)) (driver_of store).device.faults (without_steps boot)

-- A life that was started is on a store that runs with the generation that was found in the image, where a sequence number was left. One
-- that is dark or refused has its cause, and leaves the image as such a life of `run` does.
abbrev pub IsBegunBy : {B : Type 0} {b : Ghosts B} → Config → BlocksState → Boot → Store B b → Type 0
IsBegunBy c before (Started number state) store = Finds c (moment_of before) (driver_of store).device.faults (numbered number state)
    × IsFalse before.is_spent × Fits c state × IsRunning c (numbered number state) (numbered number state) store
IsBegunBy c before Dark store = HasBegun c before Dark store
IsBegunBy c before (Refused fault) store = HasBegun c before (Refused fault) store

-- It began so, on the blocks that were there: no number, no room and no application block changed, a sound image stays without a fault, and
-- the count of faults did not fall.
pub record BeginsOn {B : Type 0} {b : Ghosts B} (c : Config) (before : BlocksState) (boot : Boot) (store : Store B b) : Type 0 where
  -- It began so, with its cause in the blocks.
  pub is : IsBegunBy c before boot store
  -- The driver has the numbers that it had.
  pub numbers : (driver_of store).numbers ≡ before.numbers
  -- It has the room that it had.
  pub room : (driver_of store).room ≡ before.room
  -- No application block changed.
  pub applications : SameApplications before.value (driver_of store).value
  -- An image without damage has none now.
  pub no_new_damage : before.damage ≡ None → (driver_of store).damage ≡ None
  -- The count of faults did not fall.
  pub counts : HasRisenBy 0 before.device.faults (driver_of store).device.faults
