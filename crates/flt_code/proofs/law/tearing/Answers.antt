use Rattle.flt_code.proofs.TornWords.{programmed_word, erased_word}
use Rattle.flt_code.proofs.Unspoiled.{programmed_or_none, programmed_unspoiled, erased_or_none, erased_unspoiled}
use Rattle.flt_code.proofs.law.tearing.Goals as goal

pub returns-clause-programmed : goal.returns-clause-programmed
returns-clause-programmed c = programmed_word

pub returns-clause-erased : goal.returns-clause-erased
returns-clause-erased c = erased_word

pub returns-clause-program_or_none : goal.returns-clause-program_or_none
returns-clause-program_or_none c = programmed_or_none

pub returns-clause-program_unspoiled : goal.returns-clause-program_unspoiled
returns-clause-program_unspoiled c = programmed_unspoiled

pub returns-clause-erase_or_none : goal.returns-clause-erase_or_none
returns-clause-erase_or_none c = erased_or_none

pub returns-clause-erase_unspoiled : goal.returns-clause-erase_unspoiled
returns-clause-erase_unspoiled c = erased_unspoiled
