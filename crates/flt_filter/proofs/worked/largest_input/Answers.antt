use Rattle.std.proofs.Common.{◌≡◌, refl, sym, ap, arith, length, append-nil, ◌∙◌}
use Rattle.flt_filter.proofs.worked.largest_input.Goals as goal

pub returns : goal.returns
returns c = record {
  most_is_taken = λ bytes many. (omega (arith, many), sym (append-nil bytes), refl);
  most_is_not_large = λ bytes many large.
      (let same : length bytes ≡ length large.0 = ap length (large.2 ∙ append-nil large.0) in
      let more = large.1 in omega (arith, many, same, more));
  one_more_is_large = λ bytes many. (bytes, omega (arith, many), sym (append-nil bytes));
  one_more_is_not_taken = λ bytes many taken. (let most = taken.0 in omega (arith, many, most));
}
