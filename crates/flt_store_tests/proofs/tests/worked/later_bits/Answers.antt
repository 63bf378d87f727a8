use Rattle.std.proofs.Common.{refl}
use Rattle.flt_store_model.specs.Form.{commit_bytes, commit_bytes_1}
use Rattle.flt_store_model.specs.Reading.{commit_from_1, commit_from, is_commit, commit_in}
use Rattle.flt_store_tests.proofs.tests.worked.later_bits.Goals as goal

pub returns : goal.returns
unfolding commit_bytes commit_bytes_1 commit_from_1 commit_from is_commit commit_in
returns c = record { written = refl; read = refl; refused = refl }
