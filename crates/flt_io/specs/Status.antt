-- The numbers of the exit statuses.
use Rattle.std.specs.Prelude.{ℕ}
use Rattle.flt_io.specs.declared.status.Status.{Status}
use Rattle.flt_io.specs.declared.status.Status.TheVariants.{Done, Usage, Refused, ReadFault, WriteFault, Dark, Damaged, OutOfMemory, SequenceSpent, InputLarge, NoPages, NoJson, NoTrace, OtherAnswer, ImageSize, ImageInUse, ImageUnopened}

-- The number of each.
abbrev pub status_number : Status → ℕ
status_number Done = 0
status_number Usage = 1
status_number Refused = 2
status_number ReadFault = 3
status_number WriteFault = 4
status_number Dark = 5
status_number Damaged = 6
status_number OutOfMemory = 7
status_number SequenceSpent = 8
status_number InputLarge = 9
status_number NoPages = 10
status_number NoJson = 11
status_number NoTrace = 12
status_number OtherAnswer = 13
status_number ImageSize = 14
status_number ImageInUse = 15
status_number ImageUnopened = 16
