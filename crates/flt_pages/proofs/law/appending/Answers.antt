use Rattle.flt_pages.proofs.WordPages.{opened, completed, valid_gates}
use Rattle.flt_pages.proofs.law.appending.Goals as goal

pub returns-clause-record_is_read_back : goal.returns-clause-record_is_read_back
returns-clause-record_is_read_back c = λ used page block size valid numbers pages place. record {
  opened = opened used page block size valid numbers pages place;
  completed = completed used page block size valid numbers pages place;
}

pub returns-clause-gates_are_read_back : goal.returns-clause-gates_are_read_back
returns-clause-gates_are_read_back c = λ used sequence pages fits number both. valid_gates used sequence pages fits number both.start both.active
