use Rattle.flt_flash.proofs.TornTails.{bytes_torn, erase_torn, program_torn}
use Rattle.flt_flash.proofs.worked.patterns_tear.Goals as goal

pub returns-clause-bytes : goal.returns-clause-bytes
returns-clause-bytes c = bytes_torn

pub returns-clause-erases : goal.returns-clause-erases
returns-clause-erases c = erase_torn

pub returns-clause-programs : goal.returns-clause-programs
returns-clause-programs c = program_torn
