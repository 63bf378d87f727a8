-- How a fault of a block is reported: as a lack of sequence numbers where it is that, else as a fault of the flash.
use Rattle.std.specs.Prelude.{◌≡◌, ◌≢◌}
use Rattle.flt_flash.specs.declared.blocks.BlockFault.{BlockFault}
use Rattle.flt_flash.specs.declared.blocks.BlockFault.TheVariants.{SequenceSpent as Stuck}
use Rattle.flt_store.specs.declared.fault.SaveFault.{SaveFault}
use Rattle.flt_store.specs.declared.fault.SaveFault.TheVariants.{Flash as SaveFlash, Spent, SequenceSpent as SaveStuck}
use Rattle.flt_store.specs.declared.fault.PutFault.{PutFault}
use Rattle.flt_store.specs.declared.fault.PutFault.TheVariants.{Flash as PutFlash, SequenceSpent as PutStuck}

-- A save's answer to a fault of a block.
abbrev pub IsSaveFault : BlockFault → SaveFault → Type 0
IsSaveFault fault SaveFlash = fault ≢ Stuck
IsSaveFault fault Spent = ⊥
IsSaveFault fault SaveStuck = fault ≡ Stuck

-- A put's answer to a fault of a block.
abbrev pub IsPutFault : BlockFault → PutFault → Type 0
IsPutFault fault PutFlash = fault ≢ Stuck
IsPutFault fault PutStuck = fault ≡ Stuck
