-- What is done over a device.
use Rattle.std.specs.Prelude.{◌≤◌, Bool, true, false, Option, Some, None}
use Rattle.flt_run.specs.declared.command.Command.{Command}
use Rattle.flt_run.specs.declared.command.Command.TheVariants.{Run, Check, Load}

-- A load has this many reports.
abbrev pub IsLoadInRange : Option Command → Type 0
IsLoadInRange None = Unit {0}
IsLoadInRange (Some Run) = Unit {0}
IsLoadInRange (Some Check) = Unit {0}
IsLoadInRange (Some (Load count lanes)) = (1 ≤ count) × (count ≤ 60000)

-- The command, where it is carried out without a lock.
abbrev pub plain_of : Option Command → Option Command
plain_of None = None
plain_of (Some Run) = None
plain_of (Some Check) = Some Check
plain_of (Some (Load count true)) = None
plain_of (Some (Load count false)) = Some (Load count false)

-- A command that reads a script.
abbrev pub reads_script : Option Command → Bool
reads_script None = false
reads_script (Some Run) = true
reads_script (Some Check) = true
reads_script (Some (Load count lanes)) = false

-- A command that makes lives.
abbrev pub makes_lives : Option Command → Bool
makes_lives None = false
makes_lives (Some Run) = true
makes_lives (Some Check) = false
makes_lives (Some (Load count lanes)) = true
