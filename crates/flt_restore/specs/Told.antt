-- The fault of a start-up for a fault of a block. A start-up writes no more than there is room for, so `Full` does not occur in one.
use Rattle.flt_flash.specs.declared.blocks.BlockFault.{BlockFault}
use Rattle.flt_flash.specs.declared.blocks.BlockFault.TheVariants.{Flash as FlashFault, Full, SequenceSpent as Stuck, Damaged as DamagedPage}
use Rattle.flt_store_model.specs.declared.place.Place.TheVariants.{Page}
use Rattle.flt_restore.specs.declared.fault.StartFault.{StartFault}
use Rattle.flt_restore.specs.declared.fault.StartFault.TheVariants.{Flash, Damaged, SequenceSpent}

abbrev pub start_fault_of : BlockFault → StartFault
start_fault_of FlashFault = Flash
start_fault_of (Full live needed) = Flash
start_fault_of Stuck = SequenceSpent
start_fault_of (DamagedPage sector page) = Damaged (Page sector page)
