-- The image of a copy is two sectors of its pages.
use Rattle.flt_flash.specs.State.{HasShape}
use Rattle.flt_flash.specs.Shape as memory
use Rattle.flt_dump.specs.declared.copy.ImageCopy.{ImageCopy}
use Rattle.flt_dump.specs.Copy.{copy_state}

-- The shape is that of the flash in memory.
pub copy_shape : (copy : ImageCopy) → HasShape (copy_state copy)
copy_shape copy =
    let shape = memory.shape_of copy.flash in
    record {
      most = shape.most;
      sectors = shape.sectors;
      pages = shape.pages;
      bytes = shape.bytes;
      wear = shape.wear;
      operations = shape.operations;
      erases = shape.erases;
    }
