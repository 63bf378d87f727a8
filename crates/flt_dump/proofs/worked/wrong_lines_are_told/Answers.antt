use Rattle.std.proofs.Common.{refl}
use Rattle.hex.specs.Hex.{decode_pairs}
use Rattle.flt_dump.specs.Dump.{pages_spelled}
use Rattle.flt_dump.proofs.worked.wrong_lines_are_told.Goals as goal

pub returns : goal.returns
unfolding pages_spelled decode_pairs
returns c = record { two = refl; missing = refl; wrong = refl; many = refl }
