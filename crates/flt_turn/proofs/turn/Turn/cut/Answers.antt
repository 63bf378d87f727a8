use Rattle.std.proofs.Common.{sym, ◌∙◌, arith}
use Rattle.flt_turn.proofs.Splits.{splits}
use Rattle.flt_turn.proofs.turn.Turn.cut.Goals as goal

pub split_seat-requires : goal.split_seat-requires
split_seat-requires g c =
    let asked = c.requires.main in
    let words = c.self.invariant.0 in
    (c.requires.lock ∙ sym c.self.view_is, omega arith, splits _ _ _ _ g.J.Share.calls c.requires.idle.0 asked.0 (rw c.requires.share asked.1))
