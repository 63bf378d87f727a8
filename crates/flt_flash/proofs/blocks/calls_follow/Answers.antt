use Rattle.flt_flash.proofs.CallsInARow.{no_call, more_calls}
use Rattle.flt_flash.proofs.blocks.calls_follow.Goals as goal

pub returns-clause-none : goal.returns-clause-none
returns-clause-none c = no_call

pub returns-clause-more : goal.returns-clause-more
returns-clause-more c = more_calls
