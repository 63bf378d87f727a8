use Rattle.std.proofs.Common.{◌+◌, ◌∷◌, [], ◌/◌, ◌%◌, append_assoc}
use Rattle.flt_step.proofs.Decimals.{two_digits}
use Rattle.flt_step.proofs.digits.put_two_digits.Goals as goal

pub returns-clause-items : goal.returns-clause-items
returns-clause-items c =
    let n = c.args.number in
    let digits = two_digits n c.requires.least c.requires.most in
    let joined = append_assoc c.args.out.now.items ((48 + n / 10) ∷ []) ((48 + n % 10) ∷ []) in
    cc (digits, joined, c.push_reserved.ensures.items, c.push_reserved-2.ensures.items)
