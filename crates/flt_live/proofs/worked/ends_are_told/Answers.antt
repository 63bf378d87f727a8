use Rattle.std.proofs.Common.{refl}
use Rattle.flt_live.proofs.worked.ends_are_told.Goals as goal

pub returns : goal.returns
returns c = record {
  unreadable = refl;
  other = refl;
  size = refl;
  in_use = refl;
  memory = refl;
  no_file = refl;
  read_only = refl;
  unread = refl;
  started = λ state. refl;
  dark = refl;
  spent = refl;
}
