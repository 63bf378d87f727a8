-- What calls that make no arm leave of the store and its bench.
use Rattle.std.proofs.Common.{[], arith}
use Rattle.flt_flash.specs.Calls.{Follows}
use Rattle.flt_flash.specs.declared.blocks.Blocks.{Ghosts}
use Rattle.flt_store.specs.declared.store.Store.{Store}
use Rattle.flt_store.specs.Store.{driver_of}
use Rattle.flt_life_model.proofs.Giving.{none_given, none_since, given_further}
use Rattle.flt_life_model.proofs.Riding.{goes_by_calls, goes_nowhere, goes_further}
use Rattle.flt_lane.specs.Stored.{LeavesStore}

module _ {B : Type 0} {b : Ghosts B} where
  pub leaves_nothing : (store : Store B b) → LeavesStore store store
  leaves_nothing store = record { keeps_driver = goes_nowhere (driver_of store); arms_made = none_given (driver_of store).device.bench.arms; armed = omega arith }

  -- Calls of the driver.
  pub leaves_by_calls : (store now : Store B b) → Follows (driver_of store) (driver_of now) → LeavesStore store now
  leaves_by_calls store now follows = record {
    keeps_driver = goes_by_calls (driver_of store) (driver_of now) follows;
    arms_made = none_since (driver_of store).device.bench.arms (driver_of now).device.bench.arms follows.bench.arms;
    armed = follows.bench.armed;
  }

  pub leaves_further : (store middle now : Store B b) → LeavesStore store middle → LeavesStore middle now → LeavesStore store now
  leaves_further store middle now one two = record {
    keeps_driver = goes_further (driver_of store) (driver_of middle) (driver_of now) one.keeps_driver two.keeps_driver;
    arms_made = given_further [] [] (driver_of store).device.bench.arms (driver_of middle).device.bench.arms (driver_of now).device.bench.arms one.arms_made two.arms_made;
    armed = (let first = one.armed in let second = two.armed in omega (arith, first, second));
  }
