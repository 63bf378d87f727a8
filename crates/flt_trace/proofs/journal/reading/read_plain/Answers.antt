use Rattle.std.proofs.Common.{◌≡◌, ◌≢◌, ◌^◌, ◌<◌, ℕ, None, length, get_or, sym, subst, arith}
use Rattle.std.specs.Prelude.{MatchOption}
use Rattle.std.specs.Fmt.{decimal}
use Rattle.flt_trace.proofs.Numbers.{no_zero_leads, spells_none, spells_this, zero_leads}
use Rattle.flt_trace.proofs.journal.reading.read_plain.Goals as goal
use Rattle.flt_trace.proofs.journal.reading.read_plain.Goals.{else-word-gt1-via-then-word-gt1+else-word-eq48, else-word-gt1-via-else-word-gt1}

pub returns-in_err-value : goal.returns-in_err-value
returns-in_err-value c =
    let word = c.args.word.now in
    let gone : c.from_residual.result ≡ None = grind arith in
    subst (λ o. MatchOption o ((n : ℕ) → n < 2 ^ 32 → word ≢ decimal n) (λ n. (n < 2 ^ 32) × (word ≡ decimal n))) (sym gone)
    (λ n small is. spells_none word c.in_err-value.ensures.value n small is)

pub returns-then-value-from : goal.returns-then-value-from
returns-then-value-from c =
    λ n small is.
    let same = spells_this c.args.word.now c.in_ok-value.value c.in_ok-value.ensures.value n small is in
    absurd (omega (arith, same, small, c.if-value-from.true, c.from.ensures))

pub returns-then-word-eq48 : goal.returns-then-word-eq48
returns-then-word-eq48 c = λ n small is. zero_leads c.args.word.now n small (omega (arith, c.if-word-gt1.true)) (omega (arith, c.if-word-eq48.true)) is

pub returns : goal.returns
returns c =
    let word = c.args.word.now in
    let small : c.in_ok-value.value < 2 ^ 32 = omega (arith, c.if-value-from.false, c.from.ensures) in
    let lead : 1 < length word → get_or word 0 0 ≡ 48 → ⊥ =
    elim c.else-word-gt1.branch [
      | else-word-gt1-via-then-word-gt1+else-word-eq48 w ↦ λ long first. absurd (omega (arith, w.if-word-eq48.false, first))
      | else-word-gt1-via-else-word-gt1 w ↦ λ long first. absurd (omega (arith, w.if-word-gt1.false, long))
    ] in
    (small, no_zero_leads word c.in_ok-value.value (sym c.in_ok-value.ensures.value) small lead)
