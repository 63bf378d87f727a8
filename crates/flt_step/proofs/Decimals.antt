-- The digits of a number below 2^32.
use Rattle.std.proofs.Common.{◌≡◌, ℕ, ◌+◌, ◌^◌, ◌/◌, ◌%◌, ◌<◌, ◌≤◌, [], ◌∷◌, ◌++◌, length, ap, ◌∙◌, arith, length-append}
use Rattle.std.specs.Fmt.{decimal}
use Rattle.std.proofs.lemmas.Fmt.{decimal_digit, decimal_step, length-decimal-le}

pub one_digit : (n : ℕ) → n < 10 → decimal n ≡ (48 + n) ∷ []
one_digit n small = decimal_digit n small

pub count_one : (n : ℕ) → n < 10 → length (decimal n) ≡ 1
count_one n small = ap length (decimal_digit n small)

pub more_digits : (n : ℕ) → 10 ≤ n → n < 2 ^ 32 → decimal n ≡ decimal (n / 10) ++ (48 + n % 10) ∷ []
more_digits n some small = decimal_step n some (omega arith)

pub count_more : (n : ℕ) → 10 ≤ n → n < 2 ^ 32 → length (decimal n) ≡ length (decimal (n / 10)) + 1
count_more n some small = ap length (more_digits n some small) ∙ length-append (decimal (n / 10)) ((48 + n % 10) ∷ [])

pub two_digits : (n : ℕ) → 10 ≤ n → n < 100 → decimal n ≡ (48 + n / 10) ∷ (48 + n % 10) ∷ []
two_digits n some few = more_digits n some (omega (arith, few)) ∙ ap (λ front. front ++ (48 + n % 10) ∷ []) (one_digit (n / 10) (omega (arith, few)))

pub count_two : (n : ℕ) → 10 ≤ n → n < 100 → length (decimal n) ≡ 2
count_two n some few = ap length (two_digits n some few)

pub ruleset digits = (one_digit, more_digits, count_one, count_two, count_more)

pub at_most_ten : (n : ℕ) → n < 2 ^ 32 → length (decimal n) ≤ 10
at_most_ten n small = length-decimal-le 10 n (omega arith) (omega arith) (omega arith)
