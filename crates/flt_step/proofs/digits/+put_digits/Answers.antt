use Rattle.std.proofs.Common.{◌+◌, ◌∷◌, [], ◌/◌, ◌%◌, append_assoc, arith}
use Rattle.std.specs.Fmt.{decimal}
use Rattle.flt_step.proofs.Decimals.{more_digits}
use Rattle.flt_step.proofs.digits.+put_digits.Goals as goal

pub returns-else-number-lt100-clause-items : goal.returns-else-number-lt100-clause-items
returns-else-number-lt100-clause-items t c =
    let n = c.args.number in
    let digits = more_digits n (omega arith) (omega arith) in
    let joined = append_assoc c.args.out.now.items (decimal (n / 10)) ((48 + n % 10) ∷ []) in
    cc (digits, joined, c.put_digits.ensures.items, c.push_reserved-else-number-lt100.ensures.items)
