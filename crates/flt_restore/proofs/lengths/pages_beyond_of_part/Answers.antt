use Rattle.std.proofs.Common.{arith}
use Rattle.flt_restore.proofs.Rows.{part_is_single, single_has_place}
use Rattle.flt_restore.proofs.lengths.pages_beyond_of_part.Goals as goal

pub pages_beyond-requires-clause-place : goal.pages_beyond-requires-clause-place
pages_beyond-requires-clause-place g c = single_has_place c.args.id 0 (part_is_single c.args.id 0 c.requires.first c.requires.end (omega arith))

pub pages_beyond-requires-2-clause-place : goal.pages_beyond-requires-2-clause-place
pages_beyond-requires-2-clause-place g c = single_has_place c.args.id 1 (part_is_single c.args.id 1 c.requires.first c.requires.end (omega arith))
