-- The bits of a byte that is a sum of bits.
use Rattle.std.proofs.Common.{◌≡◌, ◌∙◌, ℕ, ◌*◌, ◌^◌, not, refl, ap, arith, ⊎_elim}
use Rattle.std.proofs.lemmas.Bool.{ne_eqb, eq-eqb, cases_eq}
use Rattle.std.proofs.lemmas.Nat.Bits.{and_pow}
use Rattle.std.proofs.lemmas.Nat.{pow_pos}
use Rattle.std.specs.Prelude.{bit_and, nat_eq}
use Rattle.std.specs.Int.{bit_at}
use Rattle.flt_model.specs.Byte.{byte_of, status_of, is_bit_set}
use Rattle.flt_model.specs.declared.status.Status.{Status}
use Rattle.flt_model.proofs.StatusLaws.{byte_tells_bits}

-- A bit is tested by the byte that has it alone.
test_of_bit : (n k : ℕ) → not (nat_eq (bit_and n (2 ^ k)) 0) ≡ is_bit_set n k
test_of_bit n k =
    ⊎_elim (λ one. rw (and_pow, one) (rw (ne_eqb (1 * 2 ^ k) 0 (omega (arith, pow_pos k))) refl))
    (λ ne. let zero : bit_at n k ≡ 0 = omega arith in rw (and_pow, zero) (rw (eq-eqb (0 * 2 ^ k) 0 (omega arith)) refl))
    (cases_eq (bit_at n k) 1)

-- The tests of the bits of a byte.
abbrev pub tests_of : ℕ → Status
tests_of n = record {
  test_failed = not (nat_eq (bit_and n 1) 0);
  failed_this_cycle = not (nat_eq (bit_and n 2) 0);
  pending = not (nat_eq (bit_and n 4) 0);
  confirmed = not (nat_eq (bit_and n 8) 0);
  not_completed_since_clear = not (nat_eq (bit_and n 16) 0);
  failed_since_clear = not (nat_eq (bit_and n 32) 0);
  not_completed_this_cycle = not (nat_eq (bit_and n 64) 0);
  indicator_requested = not (nat_eq (bit_and n 128) 0);
}

pub tests_are : (n : ℕ) → tests_of n ≡ status_of n
tests_are n =
    let t0 = test_of_bit n 0 in
    let t1 = test_of_bit n 1 in
    let t2 = test_of_bit n 2 in
    let t3 = test_of_bit n 3 in
    let t4 = test_of_bit n 4 in
    let t5 = test_of_bit n 5 in
    let t6 = test_of_bit n 6 in
    let t7 = test_of_bit n 7 in
    λ i. record {
      test_failed = t0 i;
      failed_this_cycle = t1 i;
      pending = t2 i;
      confirmed = t3 i;
      not_completed_since_clear = t4 i;
      failed_since_clear = t5 i;
      not_completed_this_cycle = t6 i;
      indicator_requested = t7 i;
    }

-- The bits that are read from a byte, where it was made of bits.
pub bits_told : (byte : ℕ) (s : Status) → byte ≡ byte_of s → status_of byte ≡ s
bits_told byte s e = ap status_of e ∙ byte_tells_bits s

pub tests_of_byte : (s : Status) → tests_of (byte_of s) ≡ s
tests_of_byte s = tests_are (byte_of s) ∙ byte_tells_bits s
