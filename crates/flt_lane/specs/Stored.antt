-- The lanes of a block, of which one at most touches the store.
use Rattle.std.specs.Prelude.{◌≡◌, ◌≢◌, ◌⊎◌, ◌<◌, ◌≤◌, ℕ, Bool, true, false, List, [], ◌++◌, All, length, reverse, slice_index_or}
use Rattle.flt_flash.specs.declared.blocks.Blocks.{Ghosts}
use Rattle.flt_config.specs.declared.config.Config.{Config}
use Rattle.flt_step.specs.Step.{has_store_step}
use Rattle.flt_store.specs.declared.store.Store.{Store}
use Rattle.flt_store.specs.Store.{IsAlive, driver_of}
use Rattle.flt_life_model.specs.Ordered.{Deed, lane_deeds}
use Rattle.flt_life_model.specs.Going.{GoesOn, WereGiven}
use Rattle.flt_lane.specs.Views.{LaneWork}
use Rattle.flt_lane.specs.Living.{Carries}
use Rattle.flt_lane.specs.Work.{HasConfig, HasRun}

-- A lane has a step that touches the store.
abbrev pub is_store_lane : LaneWork → Bool
is_store_lane lane = has_store_step lane.steps.now

-- The lane at this place touches the store, and no other.
pub record StoresAt (place : ℕ) (lanes : List LaneWork) : Type 0 where
  -- There is such a lane.
  pub within : place < length lanes
  -- It touches the store.
  pub one : (d : LaneWork) → is_store_lane (slice_index_or lanes place d) ≡ true
  -- No other lane does.
  pub others : (k : ℕ) (d : LaneWork) → k < length lanes → k ≢ place → is_store_lane (slice_index_or lanes k d) ≡ false

-- Each lane made its steps.
pub record HaveRun (lanes afters : List LaneWork) : Type 0 where
  -- There are as many lanes.
  pub len : length afters ≡ length lanes
  -- Each made its steps.
  pub each : (k : ℕ) (d : LaneWork) → k < length lanes → HasRun (slice_index_or lanes k d) (slice_index_or afters k d)

module _ {B : Type 0} {b : Ghosts B} where
  -- What a lane needs to make its steps over the store.
  pub record CanStore (c : Config) (lane : LaneWork) (store : Store B b) : Type 0 where
    -- The status machine has this configuration.
    pub config : HasConfig c lane.seats.dem
    -- The store runs under it.
    pub alive : IsAlive c store
    -- The bench has no more arms than places.
    pub arms : (driver_of store).device.bench.armed ≤ 64

  -- What steps leave of the store and its bench that make no arm.
  pub record LeavesStore (store now : Store B b) : Type 0 where
    -- The driver was called within one life.
    pub keeps_driver : GoesOn (driver_of store) (driver_of now)
    -- The bench has no arm that it did not have.
    pub arms_made : WereGiven [] (driver_of store).device.bench.arms (driver_of now).device.bench.arms
    -- It has no more of them than before.
    pub armed : (driver_of now).device.bench.armed ≤ (driver_of store).device.bench.armed

  -- A lane made its steps over the store.
  pub record HasRunStore (c : Config) (before after : LaneWork) (store now : Store B b) : Type 0 where
    -- The lane made its steps.
    pub ran : HasRun before after
    -- The store was carried on by what they did to it.
    pub carries : (earlier : List Deed) → Carries c before.seats.dem after.seats.dem before.seats.queue after.seats.queue earlier
        (reverse (lane_deeds before.steps.now ran.told) ++ earlier) store now
    -- No arm was made.
    pub leaves : LeavesStore store now

  -- The lanes of a block made their steps, the one at this place over the store.
  pub record RunsStore (c : Config) (place : ℕ) (lanes afters : List LaneWork) (store now : Store B b) : Type 0 where
    -- There are as many lanes.
    pub len : length afters ≡ length lanes
    -- The one made its steps over the store.
    pub one : (d : LaneWork) → HasRunStore c (slice_index_or lanes place d) (slice_index_or afters place d) store now
    -- Each other one made its steps.
    pub others : (k : ℕ) (d : LaneWork) → k < length lanes → k ≢ place → HasRun (slice_index_or lanes k d) (slice_index_or afters k d)

  -- The lanes of a block made their steps, and the store is as none left it, or as one of them did.
  abbrev pub AreRun : Config → List LaneWork → List LaneWork → Store B b → Store B b → Type 0
  AreRun c lanes afters store now =
      (HaveRun lanes afters × All (λ lane. is_store_lane lane ≡ false) lanes × (now ≡ store))
      ⊎ ((place : ℕ) × StoresAt place lanes × RunsStore c place lanes afters store now)
