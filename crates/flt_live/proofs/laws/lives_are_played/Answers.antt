use Rattle.flt_live.proofs.Played.{are_played}
use Rattle.flt_live.proofs.laws.lives_are_played.Goals as goal

pub returns : goal.returns
returns c = are_played
