use Rattle.std.proofs.Common.{lit<}
use Rattle.flt_machine_tests.proofs.tests.scripts.worked.dark_life_keeps_blocks.Goals as goal

pub returns : goal.returns
returns c = λ config boot next ended life begun. begun.3 0 (lit< tt)
