use Rattle.std.proofs.Common.{sym, arith}
use Rattle.flt_store_model.proofs.Commits.{none_by_size}
use Rattle.flt_image.proofs.commit.get_commit_2.Goals as goal

pub returns-then-bytes-ne-COMMIT_LENGTH_2 : goal.returns-then-bytes-ne-COMMIT_LENGTH_2
returns-then-bytes-ne-COMMIT_LENGTH_2 c = sym (none_by_size c.args.config.now c.args.bytes.now (λ is. omega (arith, is, c.if-bytes-ne-COMMIT_LENGTH_2.true)))
