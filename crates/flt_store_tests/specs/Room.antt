-- The room of the driver beneath a store, for tests.
use Rattle.std.specs.Prelude.{◌≡◌}
use Rattle.flt_flash.specs.declared.blocks.Blocks.{Ghosts}
use Rattle.flt_config.specs.declared.config.Config.{Config}
use Rattle.flt_store.specs.declared.store.Store.{Store}
use Rattle.flt_store.specs.Cause.{HasRoom}
use Rattle.flt_store.specs.Store.{driver_of}

module _ {B : Type 0} {b : Ghosts B} where
  -- The driver leaves the configuration its room.
  abbrev pub IsRoomy : Config → Store B b → Type 0
  IsRoomy c store = HasRoom c (driver_of store).room

  -- The room is as it was.
  abbrev pub SameRoom : Store B b → Store B b → Type 0
  SameRoom before after = (driver_of after).room ≡ (driver_of before).room
