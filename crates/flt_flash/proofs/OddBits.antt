-- The byte whose odd bits are those of one byte and whose even bits are those of another.
use Rattle.std.proofs.Common.{◌≡◌, ◌⊎◌, inl, inr, ℕ, zero, suc, ◌%◌, ◌<◌, min, max, refl, ◌∙◌, arith}
use Rattle.std.specs.Prelude.{if◌then◌else◌, ◌==◌, bit_or, bit_and}
use Rattle.std.specs.Int.{bit_at}
use Rattle.std.proofs.lemmas.Bool.{cases_lt}
use Rattle.std.proofs.lemmas.Bool.Decides.{nat_tests}
use Rattle.std.proofs.lemmas.Nat.Bits.{bit_at_or, bit_at_and, bit_at-lt, bit_at_above}

record IsOdd (bit : ℕ) : Type 0 where
  odd : bit % 2 ≡ 1
  low : bit_at 85 bit ≡ 0
  high : bit_at 170 bit ≡ 1

record IsEven (bit : ℕ) : Type 0 where
  even : bit % 2 ≡ 0
  low : bit_at 85 bit ≡ 1
  high : bit_at 170 bit ≡ 0

masks : (bit : ℕ) → bit < 8 → IsOdd bit ⊎ IsEven bit
masks zero lt = inr record { even = refl; low = refl; high = refl }
masks (suc zero) lt = inl record { odd = refl; low = refl; high = refl }
masks (suc (suc zero)) lt = inr record { even = refl; low = refl; high = refl }
masks (suc (suc (suc zero))) lt = inl record { odd = refl; low = refl; high = refl }
masks (suc (suc (suc (suc zero)))) lt = inr record { even = refl; low = refl; high = refl }
masks (suc (suc (suc (suc (suc zero))))) lt = inl record { odd = refl; low = refl; high = refl }
masks (suc (suc (suc (suc (suc (suc zero)))))) lt = inr record { even = refl; low = refl; high = refl }
masks (suc (suc (suc (suc (suc (suc (suc zero))))))) lt = inl record { odd = refl; low = refl; high = refl }
masks (suc (suc (suc (suc (suc (suc (suc (suc bit)))))))) lt = absurd (omega arith)

spread : (before after bit : ℕ) → bit_at (bit_or (bit_and before 85) (bit_and after 170)) bit ≡ max (min (bit_at before bit) (bit_at 85 bit)) (min (bit_at after bit) (bit_at 170 bit))
spread before after bit =
    bit_at_or (bit_and before 85) (bit_and after 170) bit
    ∙ (λ i. max (bit_at_and before 85 bit i) (bit_at_and after 170 bit i))

chosen : (x y m n b : ℕ) → x < 2 → y < 2 → ((b ≡ 1) × (m ≡ 0) × (n ≡ 1)) ⊎ ((b ≡ 0) × (m ≡ 1) × (n ≡ 0)) → max (min x m) (min y n) ≡ (if b == 1 then y else x)
chosen x y m n b below_x below_y (inl odd) = rw (odd.0, odd.1, odd.2) (omega arith)
chosen x y m n b below_x below_y (inr even) = rw (even.0, even.1, even.2) (omega arith)

nothing : (x y m n : ℕ) (b : ℕ) → x ≡ 0 → y ≡ 0 → max (min x m) (min y n) ≡ (if b == 1 then y else x)
nothing x y m n b no_x no_y = grind (arith, nat_tests)

pub odd_bits : (before after : ℕ) → before < 256 → after < 256 → (bit : ℕ) → bit_at (bit_or (bit_and before 85) (bit_and after 170)) bit ≡ (if bit % 2 == 1 then bit_at after bit else bit_at before bit)
odd_bits before after before_fits after_fits bit =
    spread before after bit ∙ elim (cases_lt bit 8) [
      | inl within ↦ elim (masks bit within) [
        | inl odd ↦ chosen (bit_at before bit) (bit_at after bit) _ _ (bit % 2) (bit_at-lt before bit) (bit_at-lt after bit) (inl (odd.odd, odd.low, odd.high))
        | inr even ↦ chosen (bit_at before bit) (bit_at after bit) _ _ (bit % 2) (bit_at-lt before bit) (bit_at-lt after bit) (inr (even.even, even.low, even.high))
      ]
      | inr past ↦ nothing (bit_at before bit) (bit_at after bit) _ _ (bit % 2) (bit_at_above before 8 bit before_fits past) (bit_at_above after 8 bit after_fits past)
    ]
