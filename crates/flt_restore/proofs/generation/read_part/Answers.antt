use Rattle.std.proofs.Common.{sym, subst}
use Rattle.flt_restore.specs.Found.{IsSingle}
use Rattle.flt_restore.proofs.Rows.{named_is_single}
use Rattle.flt_restore.proofs.generation.read_part.Goals as goal

pub read_content-requires-clause-single : goal.read_content-requires-clause-single
read_content-requires-clause-single g c =
    subst (IsSingle c.args.id) (sym c.index_of.ensures)
    (named_is_single c.args.config.now c.args.commit.now c.requires.part.form c.args.id c.requires.part.first c.requires.part.end (sym c.if-not-is_used.ensures))
