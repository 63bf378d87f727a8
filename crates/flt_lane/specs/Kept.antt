-- A store, as what the lanes of a life have beside their locks.
use Rattle.std.specs.Prelude.{ℕ, ◌+◌, ◌≤◌, List, ◌++◌, reverse}
use Rattle.flt_config.specs.declared.config.Config.{Config}
use Rattle.flt_flash.specs.declared.arm.Arm.{Arm}
use Rattle.flt_flash.specs.declared.blocks.Blocks.{Ghosts}
use Rattle.flt_store.specs.declared.store.Store.{Store}
use Rattle.flt_store.specs.Store.{IsAlive, driver_of}
use Rattle.flt_life_model.specs.Going.{GoesOn, WereGiven}
use Rattle.flt_life_model.specs.Ordered.{Deed}
use Rattle.flt_lane.specs.Keeping.{Keeping}
use Rattle.flt_lane.specs.Living.{Carries}
use Rattle.flt_lane.specs.Views.{Seats}

module _ {B : Type 0} {b : Ghosts B} where
  -- The store runs under the configuration, and its bench has places for this many arms.
  pub record StoreIsReady (c : Config) (arms : ℕ) (store : Store B b) : Type 0 where
    -- The store runs.
    pub alive : IsAlive c store
    -- The bench has the places.
    pub places : (driver_of store).device.bench.armed + arms ≤ 64

  -- The store was carried on by these deeds, and its bench by these arms.
  pub record StoreGoesOn (c : Config) (before after : Seats) (deeds : List Deed) (arms : List Arm) (most : ℕ) (store now : Store B b) : Type 0 where
    -- The store was carried on by what the deeds did to it.
    pub carries : (earlier : List Deed) → Carries c before.dem after.dem before.queue after.queue earlier (reverse deeds ++ earlier) store now
    -- The driver was called within one life.
    pub keeps_driver : GoesOn (driver_of store) (driver_of now)
    -- The bench has the arms, after those that it had.
    pub arms_made : WereGiven arms (driver_of store).device.bench.arms (driver_of now).device.bench.arms
    -- No more of them than the limit are armed.
    pub armed : (driver_of now).device.bench.armed ≤ (driver_of store).device.bench.armed + most

  -- Any step can be made with a store.
  abbrev pub store_keeping : Keeping (Store B b)
  store_keeping = record { is_ready = StoreIsReady; allows = λ step. Unit {0}; goes_on = StoreGoesOn }
