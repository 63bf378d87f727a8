-- The image of an EEPROM in memory is its units.
use Rattle.std.proofs.Common.{refl, arith}
use Rattle.flt_flash.specs.PageArrays.{page_count, page_sizes}
use Rattle.flt_ea.specs.State.{HasUnits}
use Rattle.flt_ea.specs.Memory.{eeprom_state}
use Rattle.flt_ea.specs.declared.memory.EepromMem.{EepromMem}

pub eeprom_memory_shape : (device : EepromMem) → HasUnits (eeprom_state device)
eeprom_memory_shape device = record { most = omega (arith, device.most, page_count device.units); one = refl; units = refl; bytes = page_sizes device.units; wear = refl }
