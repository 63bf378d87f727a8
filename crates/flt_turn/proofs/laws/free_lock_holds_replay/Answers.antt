use Rattle.flt_turn.proofs.Free.{holds_replay}
use Rattle.flt_turn.proofs.laws.free_lock_holds_replay.Goals as goal

pub returns : goal.returns
returns g c = λ start room s h free. holds_replay _ start room s h free
