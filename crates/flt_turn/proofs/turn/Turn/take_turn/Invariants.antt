use Rattle.std.proofs.Common.{◌≡◌}
use Rattle.flt_turn.proofs.turn.Turn.take_turn.Given as goal

-- A look before the turn leaves the seat as it was.
abbrev pub invariant-loop : goal.invariant-loop
invariant-loop g l = (l.token.table_id ≡ l.initial.token.table_id) × (l.token.id ≡ l.initial.token.id) × (l.token.me ≡ l.initial.token.me)
