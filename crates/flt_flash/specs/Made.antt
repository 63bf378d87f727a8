-- What is reported of the arms that were made on a device in memory.
use Rattle.std.specs.Prelude.{List, Option, Some, None, if◌then◌else◌}
use Rattle.flt_flash.specs.declared.arm.ArmMade.{ArmMade}
use Rattle.flt_flash.specs.declared.made.ArmsTold.{ArmsTold}

-- All of them, or nothing.
abbrev pub arms_told : ArmsTold → Option (List ArmMade)
arms_told arms = if arms.are_all then Some arms.made.items else None
