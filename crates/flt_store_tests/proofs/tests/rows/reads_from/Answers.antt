use Rattle.flt_store.proofs.TableUse.{commit_index}
use Rattle.flt_store_tests.proofs.tests.rows.reads_from.Goals as goal

pub read-requires : goal.read-requires
read-requires g c = commit_index _ c.requires
