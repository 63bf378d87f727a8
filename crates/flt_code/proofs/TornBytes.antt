-- Bytes that are torn between blank and another byte, and pages that are unsealed.
use Rattle.std.proofs.Common.{◌≡◌, ◌⊎◌, Bool, true, false, take, inl, inr, ⊎_elim, ℕ, ◌<◌, ◌≤◌, min, List, length, get_or, refl, sym, ◌∙◌, subst, arith}
use Rattle.std.specs.Prelude.{bit_and, ◌==◌, ◌&&◌}
use Rattle.std.specs.Str.{bytes_eq}
use Rattle.std.proofs.lemmas.Slice.Eq.{bytes_eq-Decides}
use Rattle.std.proofs.lemmas.Bool.{eqb-true}
use Rattle.std.specs.Int.{bit_at}
use Rattle.std.proofs.lemmas.Bool.{cases_lt}
use Rattle.std.proofs.lemmas.List.{get_or-replicate}
use Rattle.std.proofs.lemmas.Nat.{and_le_r}
use Rattle.std.proofs.lemmas.Nat.Bits.{bit_at_and, bit_at-lt, bit_at_above, bit_at_ones, same_from_bits}
use Rattle.flt_flash.specs.Image.{blank_page}
use Rattle.flt_flash.specs.Tearing.{IsTornByte}
use Rattle.flt_code.specs.Seal.{sealed}

-- A number all of whose ones another number has is no greater.
pub le_from_bits : (a b : ℕ) → ((bit : ℕ) → bit_at a bit ≤ bit_at b bit) → a ≤ b
le_from_bits a b ones =
    let same : bit_and a b ≡ a = same_from_bits (bit_and a b) a (λ bit. bit_at_and a b bit ∙ smaller (ones bit)) in
    subst (λ n. n ≤ b) same (and_le_r a b)
  where
    smaller : {m n : ℕ} → m ≤ n → min m n ≡ m
    smaller le = omega arith

-- A byte torn between blank and another byte has all the ones of that byte.
pub le_torn : (byte torn : ℕ) → byte < 256 → ((bit : ℕ) → (bit_at torn bit ≡ bit_at 255 bit) ⊎ (bit_at torn bit ≡ bit_at byte bit)) → byte ≤ torn
le_torn byte torn fits bits = le_from_bits byte torn (λ bit. ⊎_elim (λ blank. of_blank bit blank) (λ same. omega (arith, same)) (bits bit))
  where
    of_blank : (bit : ℕ) → bit_at torn bit ≡ bit_at 255 bit → bit_at byte bit ≤ bit_at torn bit
    of_blank bit blank = elim (cases_lt bit 8) [
      | inl low ↦ omega (arith, blank, bit_at_ones 8 bit low, bit_at-lt byte bit)
      | inr high ↦ omega (arith, bit_at_above byte 8 bit fits high)
    ]

pub length-blank : length blank_page ≡ 32
unfolding blank_page
length-blank = refl

pub blank_at : (k : ℕ) → k < 32 → get_or blank_page k 0 ≡ 255
unfolding blank_page
blank_at k lt = get_or-replicate 32 k 255 0 lt

pub swap : {A B : Type 0} → A ⊎ B → B ⊎ A
swap (inl a) = inr a
swap (inr b) = inl b

-- A number with no bit from the eighth on is a byte.
pub byte_from_bits : (n : ℕ) → ((bit : ℕ) → 8 ≤ bit → bit_at n bit ≡ 0) → n < 256
byte_from_bits n above =
    let same : bit_and n 255 ≡ n = same_from_bits (bit_and n 255) n (λ bit. bit_at_and n 255 bit ∙ elim (cases_lt bit 8) [
      | inl low ↦ (let one : bit_at 255 bit ≡ 1 = bit_at_ones 8 bit low in omega (arith, one, bit_at-lt n bit))
      | inr high ↦ (let none : bit_at n bit ≡ 0 = above bit high in omega (arith, none))
    ]) in
    omega (arith, subst (λ m. m ≤ 255) same (and_le_r n 255))

pub torn_byte_fits : (byte torn : ℕ) → byte < 256 → IsTornByte 255 byte torn → torn < 256
torn_byte_fits byte torn fits bits = byte_from_bits torn (λ bit high. ⊎_elim (λ blank. blank ∙ bit_at_above 255 8 bit (omega arith) high) (λ same. same ∙ bit_at_above byte 8 bit fits high) (bits bit))

-- What a page that is unsealed was sealed from.
pub sealed_from_unsealed : (page : List ℕ) (test : Bool) → test ≡ ((length page == 32) && bytes_eq page (sealed (take 16 page))) → test ≡ true → (length page ≡ 32) × (page ≡ sealed (take 16 page))
sealed_from_unsealed page test is holds =
    let both = and_both (length page == 32) (bytes_eq page (sealed (take 16 page))) (sym is ∙ holds) in
    (eqb-true (length page) 32 both.0, (bytes_eq-Decides page (sealed (take 16 page))).0 both.1)
  where
    and_both : (a b : Bool) → (a && b) ≡ true → (a ≡ true) × (b ≡ true)
    and_both true b is = (refl, is)
    and_both false b is = absurd (cc is)
