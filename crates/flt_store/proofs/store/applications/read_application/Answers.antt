use Rattle.flt_store.proofs.TableUse.{application_index, application_alone}
use Rattle.flt_store.proofs.Running.{ok_map}
use Rattle.flt_store.proofs.store.applications.read_application.Goals as goal

pub read-requires : goal.read-requires
read-requires g c = application_index _ c.requires.table _ c.get.ensures.below

pub returns-clause-got : goal.returns-clause-got
returns-clause-got g c =
    rw (← c.get.ensures.number) (ok_map c.read.result (λ got fact. application_alone _ c.requires.table _ c.get.ensures.below _ _ fact) c.read.ensures.got)
