use Rattle.flt_store.proofs.TableUse.{commit_twice}
use Rattle.flt_store_tests.proofs.tests.rows.read_and_repair.Goals as goal

pub read_copy-requires-clause-redundant : goal.read_copy-requires-clause-redundant
read_copy-requires-clause-redundant g c = commit_twice _ c.requires
