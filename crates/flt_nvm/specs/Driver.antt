-- What blocks by identifier mean: the driver beneath, and the table. `b` has the meanings of the driver.
use Rattle.std.specs.Prelude.{List}
use Rattle.flt_flash.specs.Blocks.{BlocksState}
use Rattle.flt_flash.specs.declared.blocks.Blocks.{Ghosts}
use Rattle.flt_nvm.specs.declared.table.BlockCfg.{BlockCfg}
use Rattle.flt_nvm.specs.declared.nvm.Nvm.{Nvm}

module _ {B : Type 0} {b : Ghosts B} where
  -- The driver beneath.
  abbrev pub driver_of : Nvm B b → BlocksState
  driver_of nvm = b.state nvm.blocks

  -- The table of blocks.
  abbrev pub table_of : Nvm B b → List BlockCfg
  table_of nvm = nvm.table.items
