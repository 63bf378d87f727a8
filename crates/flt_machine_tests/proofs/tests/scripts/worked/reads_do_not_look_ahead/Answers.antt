use Rattle.flt_machine_tests.proofs.tests.scripts.worked.reads_do_not_look_ahead.Goals as goal

pub returns : goal.returns
returns c = λ first job got. got
