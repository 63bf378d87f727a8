use Rattle.std.proofs.Common.{sym, arith}
use Rattle.flt_store_model.proofs.Commits.{none_by_size_1}
use Rattle.flt_image.proofs.commit.get_commit_1.Goals as goal

pub returns-then-bytes-ne-COMMIT_LENGTH : goal.returns-then-bytes-ne-COMMIT_LENGTH
returns-then-bytes-ne-COMMIT_LENGTH c = sym (none_by_size_1 c.args.config.now c.args.bytes.now (λ is. omega (arith, is, c.if-bytes-ne-COMMIT_LENGTH.true)))
