use Rattle.std.proofs.Common.{refl}
use Rattle.flt_embed.proofs.worked.operations_are_carried_out.Goals as goal

pub returns : goal.returns
returns c = record {
  none = refl;
  page_first = refl;
  page_last = refl;
  sector = refl;
  order = refl;
  outside = refl;
}
