use Rattle.std.proofs.Common.{sym, ◌∙◌}
use Rattle.flt_script.proofs.ReadBytes.{starts, goes_on, stops, full, ends, empty}
use Rattle.flt_script.proofs.bytes.read_bytes.Goals as goal

pub loop-word-init : goal.loop-word-init
loop-word-init g c = rw (c.into_iter-word-iterator.ensures.into_iter_gives, c.new-bytes.ensures) (starts _ _)

pub returns-then-is_full : goal.returns-then-is_full
returns-then-is_full g c =
    let on = rw c.in-Some.ensures.steps at c.loop-word.invariant in
    sym (full _ _ _ _ _ on (sym c.is_full.ensures.value ∙ c.if-is_full.true))

pub returns-in_err-read_hexadecimal : goal.returns-in_err-read_hexadecimal
returns-in_err-read_hexadecimal g c =
    let on = rw c.in-Some.ensures.steps at c.loop-word.invariant in
    rw c.from_residual.ensures (sym (stops _ _ _ _ _ on (sym c.read_hexadecimal.ensures.value ∙ c.in_err-read_hexadecimal.was)))

pub loop-word-preserved : goal.loop-word-preserved
loop-word-preserved g c =
    let on = rw c.in-Some.ensures.steps at c.loop-word.invariant in
    rw c.push.ensures.items
    (goes_on _ _ _ _ _ on _ (sym c.is_full.ensures.value ∙ c.if-is_full.false) (sym c.read_hexadecimal.ensures.value ∙ c.in_ok-read_hexadecimal.was))

pub returns-then-is_empty : goal.returns-then-is_empty
returns-then-is_empty g c =
    let on = rw c.in-None.ensures.steps.0 at c.loop-word.invariant in
    sym (empty _ _ _ on (sym c.is_empty.ensures ∙ c.if-is_empty.true))

pub returns : goal.returns
returns g c =
    let on = rw c.in-None.ensures.steps.0 at c.loop-word.invariant in
    sym (ends _ _ _ on (sym c.is_empty.ensures ∙ c.if-is_empty.false))
