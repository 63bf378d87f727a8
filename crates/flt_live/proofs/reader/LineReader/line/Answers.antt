use Rattle.std.proofs.Common.{◌≢◌, ◌∙◌, ◌∷◌, ◌++◌, [], Some, ap, subst, arith}
use Rattle.std.proofs.lemmas.List.Elements.{All-append}
use Rattle.flt_live.specs.Ahead.{ahead_of, TakesByte}
use Rattle.flt_live.proofs.Taking.{then_takes, no_feed}
use Rattle.flt_live.proofs.reader.LineReader.line.Goals as goal

pub returns-in-Some-eq10-clause-line : goal.returns-in-Some-eq10-clause-line
returns-in-Some-eq10-clause-line g c =
    let so_far = c.loop.invariant.so_far in
    let next = subst (TakesByte (ahead_of (g.S.Source.left c.loop.source) c.loop.self) (ahead_of (g.S.Source.left c.next-in-loop.new.source) c.next-in-loop.new.self))
    (c.in-Some-eq10.is ∙ ap Some c.in-Some-eq10.field-0-test) (c.in_ok-next.ensures.taken) in
    record { whole = so_far.whole; one = so_far.one; is = so_far.is; taken = then_takes _ _ _ so_far.whole (10 ∷ []) so_far.taken next; end = tt }

pub loop-preserved : goal.loop-preserved
loop-preserved g c =
    let so_far = c.loop.invariant.so_far in
    let next = subst (TakesByte (ahead_of (g.S.Source.left c.loop.source) c.loop.self) (ahead_of (g.S.Source.left c.next-in-loop.new.source) c.next-in-loop.new.self))
    c.in-Some-2.is (c.in_ok-next.ensures.taken) in
    let later = c.next-in-loop.ensures.cause.later in
    let was = c.loop.invariant.later in
    record {
      so_far = record {
        whole = so_far.whole ++ c.in-Some-2.byte ∷ [];
        one = All-append (λ byte. byte ≢ 10) so_far.whole (c.in-Some-2.byte ∷ []) so_far.one (no_feed c.in-Some-2.byte c.in-Some-2.byte-test.1);
        is = c.keep.ensures.kept so_far.whole so_far.is;
        taken = then_takes _ _ _ so_far.whole (c.in-Some-2.byte ∷ []) so_far.taken next;
      };
      room = c.keep.ensures.room ∙ c.loop.invariant.room;
      later = omega (arith, was, later);
    }
