-- Small lemmas that the proofs of several crates want.
use Rattle.std.proofs.Common.{◌≡◌, ◌≢◌, ◌∙◌, ℕ, zero, suc, ◌<◌, ◌*◌, ◌^◌, List, [], ◌∷◌, length, get_or, Some, arith, refl, ap, ⊎_elim, eq-eqb, eqb-true}
use Rattle.std.specs.Prelude.{Bool, true, false, ◌≤◌, slice_get, slice_set, IsBitSet}
use Rattle.std.specs.Int.{bit_at}
use Rattle.std.specs.List.{refill}
use Rattle.std.proofs.lemmas.Bool.{cases_eq}
use Rattle.std.proofs.lemmas.Grind.{common_steps}
use Rattle.std.proofs.lemmas.List.{length-append, get_or_append_left, get_or_push}
use Rattle.std.proofs.lemmas.Nat.{pow_pos}
use Rattle.std.proofs.lemmas.Nat.Bits.{and_pow}
use mir.Val.{bool_byte}
use Rattle.flt_model.specs.Byte.{value_of, is_bit_set}
use Rattle.flt_model.specs.Durable.{below}

-- What is looked up after a write there.
pub slice_get-set_same : {X : Type 0} (xs : List X) (i : ℕ) (x : X) → i < length xs → slice_get (slice_set xs i x) i ≡ Some x
slice_get-set_same [] i x h = absurd (omega arith)
slice_get-set_same (first ∷ xs) zero x h = refl
slice_get-set_same (first ∷ xs) (suc i) x h = slice_get-set_same xs i x (omega arith)

-- And elsewhere.
pub slice_get-set_other : {X : Type 0} (xs : List X) (i j : ℕ) (x : X) → i ≢ j → slice_get (slice_set xs i x) j ≡ slice_get xs j
slice_get-set_other [] i j x ne = refl
slice_get-set_other (first ∷ xs) zero zero x ne = absurd (ne refl)
slice_get-set_other (first ∷ xs) zero (suc j) x ne = refl
slice_get-set_other (first ∷ xs) (suc i) zero x ne = refl
slice_get-set_other (first ∷ xs) (suc i) (suc j) x ne = slice_get-set_other xs i j x (λ e. ne (ap suc e))

-- A whole list written over another of its length.
pub refill-whole : {X : Type 0} (old new : List X) → length new ≡ length old → refill (length old) old new ≡ new
refill-whole old new e = grind (arith, common_steps, e)

-- A bool as a byte.
pub bool_byte_value : (bit : Bool) → bool_byte bit ≡ value_of bit
bool_byte_value true = refl
bool_byte_value false = refl

pub value_of-le : (bit : Bool) → value_of bit ≤ 1
value_of-le true = omega arith
value_of-le false = omega arith

-- The test of a bit, as a fact.
pub bit_is_set : (byte k : ℕ) → is_bit_set byte k ≡ true → IsBitSet byte k
bit_is_set byte k e = rw (and_pow byte k, eqb-true (bit_at byte k) 1 e) (λ zero. omega (arith, pow_pos k, zero))

pub set_bit_is : (byte k : ℕ) → IsBitSet byte k → is_bit_set byte k ≡ true
set_bit_is byte k set =
    ⊎_elim (λ e. eq-eqb (bit_at byte k) 1 e)
    (λ ne. let zero : bit_at byte k ≡ 0 = omega arith in absurd (set (and_pow byte k ∙ ap (λ b. b * 2 ^ k) zero ∙ omega arith)))
    (cases_eq (bit_at byte k) 1)

-- The numbers below one: how many there are, and where each is.
pub length_below : (n : ℕ) → length (below n) ≡ n
length_below zero = refl
length_below (suc n) = let before = length_below n in let more = length-append (below n) (n ∷ []) in omega (arith, before, more)

pub at_below : (n k d : ℕ) → k < n → get_or (below n) k d ≡ k
at_below zero k d h = absurd (omega (arith, h))
at_below (suc n) k d h =
    ⊎_elim
    (λ same. rw same (get_or_push (below n) n d n (length_below n)))
    (λ ne.
    let within : k < length (below n) = let size = length_below n in omega (arith, h, ne, size) in
    get_or_append_left (below n) (n ∷ []) d k within ∙ at_below n k d (omega (arith, h, ne)))
    (cases_eq k n)
