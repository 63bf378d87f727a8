-- A copy of an image as every user of a flash sees it.
use Rattle.std.specs.Prelude.{false, None}
use Rattle.flt_flash.specs.State.{FlashState}
use Rattle.flt_flash.specs.Memory as memory
use Rattle.flt_dump.specs.declared.copy.ImageCopy.{ImageCopy}

-- A flash that is always on, whose count of faults is 0, and on which no arm is made.
abbrev pub quiet_state : FlashState → FlashState
quiet_state flash = record flash {
  is_off = false;
  faults = 0;
  bench = record flash.bench { arms = None; armed = 0 };
}

-- The copy as every user of a flash sees it.
abbrev pub copy_state : ImageCopy → FlashState
copy_state copy = quiet_state (memory.flash_state copy.flash)
