use Rattle.std.proofs.Common.{arith}
use Rattle.flt_nvm.specs.Driver.{driver_of}
use Rattle.flt_restore.proofs.Blocks.{excess_is}
use Rattle.flt_restore.proofs.Rows.{mark_is_single, single_has_place, commit_has_place}
use Rattle.flt_restore.proofs.lengths.excess.Goals as goal

pub pages_beyond-mark-requires-clause-place : goal.pages_beyond-mark-requires-clause-place
pages_beyond-mark-requires-clause-place g c = single_has_place 1 0 mark_is_single

pub pages_beyond-requires-clause-place : goal.pages_beyond-requires-clause-place
pages_beyond-requires-clause-place g c = commit_has_place 0 (omega arith)

pub pages_beyond-requires-2-clause-place : goal.pages_beyond-requires-2-clause-place
pages_beyond-requires-2-clause-place g c = commit_has_place 1 (omega arith)

pub returns-clause-pages : goal.returns-clause-pages
returns-clause-pages g c =
    omega (
      arith,
      excess_is c.args.config.now (driver_of c.args.nvm.now).value,
      c.pages_beyond-mark.ensures.pages,
      c.pages_beyond.ensures.pages,
      c.pages_beyond-2.ensures.pages,
      c.pages_beyond_of_parts-parts.ensures.pages,
      c.pages_beyond_of_applications.ensures.pages,
    )
