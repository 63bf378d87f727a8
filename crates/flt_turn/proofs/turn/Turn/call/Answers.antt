use Rattle.std.proofs.Common.{sym, ap, ◌∙◌, subst, arith, rules, ◌++◌, ◌∷◌, []}
use Rattle.flt_turn.specs.Journal.{entry}
use Rattle.flt_turn.specs.Seats.{Seated}
use Rattle.flt_turn.proofs.Calls.{has_turn, fits_after, called}
use Rattle.flt_turn.proofs.turn.Turn.call.Goals as goal

pub end_turn-requires-clause-turn : goal.end_turn-requires-clause-turn
end_turn-requires-clause-turn g c =
    let took = c.take_turn-place in
    let applied = c.apply-reply.ensures.takes in
    let longer = applied.journal ∙ ap (λ n. took.result.1.journal.items ++ entry n c.args.op ∷ []) (sym c.seat.invariant.number_is) in
    let allowed = subst (λ (x : Seated g.row.M-Start.Denot g.row.M-Op.Denot). g.M.Machine.admits x.start c.args.op) (sym c.seat.view_is) c.requires.admitted in
    has_turn took.result.0 c.seat.inside.token.me.0 took.new.token.me.0 took.result.1 c.apply-reply.new.self c.args.op (ap (λ me. me.0) took.ensures.turn) took.ensures.found longer applied.start applied.room allowed

pub invariant_of-seat : goal.invariant_of-seat
invariant_of-seat g c =
    let took = c.take_turn-place in
    let nonzero = c.if-seat-eq0.false in
    let left = c.seat.invariant.left_is in
    let told = called _ _ _ c.seat.inside.token.me.0 took.new.token.me.0 c.end_turn.new.token.me took.result.1 c.apply-reply.new.self c.args.op took.result.0 _ c.seat.view_is c.seat.invariant.number_is (omega arith)
    (ap (λ me. me.0) took.ensures.turn) took.ensures.found c.apply-reply.ensures.takes.journal c.requires.admitted (c.end_turn.ensures.done c.args.op) (c.end_turn.ensures.lock.0 ∙ took.ensures.lock.0) in
    fits_after told c.seat.invariant

pub returns-clause-call : goal.returns-clause-call
returns-clause-call g c =
    let took = c.take_turn-place in
    let nonzero = c.if-seat-eq0.false in
    let left = c.seat.invariant.left_is in
    let told = called _ _ _ c.seat.inside.token.me.0 took.new.token.me.0 c.end_turn.new.token.me took.result.1 c.apply-reply.new.self c.args.op took.result.0 _ c.seat.view_is c.seat.invariant.number_is (omega arith)
    (ap (λ me. me.0) took.ensures.turn) took.ensures.found c.apply-reply.ensures.takes.journal c.requires.admitted (c.end_turn.ensures.done c.args.op) (c.end_turn.ensures.lock.0 ∙ took.ensures.lock.0) in
    record {
      full = search rules;
      refused = search rules;
      call = record {
        place = told.extends;
        reply = c.apply-reply.ensures.answer ∙ (λ i. g.M.Stepper.answer (told.start_is i) (told.before i) c.args.op);
        admitted = told.admitted;
      };
    }
