-- Pages that are not spoiled, and what an erase leaves of them.
use Rattle.std.proofs.Common.{◌≡◌, ◌≢◌, ◌⊎◌, Bool, true, false, not, Some, None, take, inl, inr, ⊎_elim, ℕ, ◌+◌, ◌-◌, ◌<◌, ◌≤◌, List, length, get_or, refl, sym, ◌∙◌, ap, subst, arith}
use Rattle.std.specs.Prelude.{bit_or, ◌==◌, ◌&&◌, if◌then◌else◌}
use Rattle.std.specs.List.{list_any, range_with_len}
use Rattle.std.specs.Str.{bytes_eq}
use Rattle.std.specs.Int.{bit_at, w8}
use Rattle.std.specs.Int.Bits.{or_add_and}
use Rattle.std.proofs.lemmas.Bool.{cases_lt, eqb-true, eq-eqb}
use Rattle.std.proofs.lemmas.List.{ext_get_or, get_or-take, get_or_past, length-take, length-take-le}
use Rattle.std.proofs.lemmas.List.Folds.{list_any_at, list_any_none}
use Rattle.std.proofs.lemmas.List.FromFn.{get_or-range_with_len, length-range_with_len}
use Rattle.std.proofs.lemmas.Nat.{le_or_l, le_or_r}
use Rattle.std.proofs.lemmas.Nat.Bits.{bit_at_or, bit_at-lt, bit_at_above, bit_at_ones, bit_at_not, same_from_bits}
use Rattle.flt_flash.specs.Image.{blank_page}
use Rattle.flt_flash.specs.Tearing.{IsTornByte, IsTornPage}
use Rattle.flt_code.specs.Seal.{sealed, unsealed, IsCodeWordOf}
use Rattle.flt_code.specs.Spoiled.{is_spoiled_at, is_spoiled}
use Rattle.flt_code.proofs.Sealed.{sealed_low, sealed_high, length-sealed}
use Rattle.flt_code.proofs.TornBytes.{blank_at, length-blank, le_torn, torn_byte_fits, swap, sealed_from_unsealed}

module _ (page : List ℕ) where
  pub unspoiled_at : is_spoiled page ≡ false → (k : ℕ) → k < 16 → bit_or (get_or page k 0) (get_or page (16 + k) 0) ≡ 255
  unfolding is_spoiled
  unspoiled_at unspoiled k lt = by_test (bit_or (get_or page k 0) (get_or page (16 + k) 0) == 255) refl
    where
      place : get_or (range_with_len 0 16) k 0 ≡ k
      place = get_or-range_with_len 0 16 k 0 lt ∙ (let e : 0 + k ≡ k = omega arith in e)

      by_test : (test : Bool) → test ≡ (bit_or (get_or page k 0) (get_or page (16 + k) 0) == 255) → bit_or (get_or page k 0) (get_or page (16 + k) 0) ≡ 255
      by_test true is = eqb-true _ _ (sym is)
      by_test false is =
          let found : list_any (is_spoiled_at page) (range_with_len 0 16) ≡ true =
          list_any_at (is_spoiled_at page) (range_with_len 0 16) k 0 (omega (arith, length-range_with_len 0 16)) (ap (is_spoiled_at page) place ∙ ap not (sym is)) in
          absurd (cc (found, unspoiled))

  pub unspoiled_from : ((k : ℕ) → k < 16 → bit_or (get_or page k 0) (get_or page (16 + k) 0) ≡ 255) → is_spoiled page ≡ false
  unfolding is_spoiled
  unspoiled_from all = list_any_none (is_spoiled_at page) (range_with_len 0 16) (λ k d lt. spoiled_not (get_or (range_with_len 0 16) k d)
      (subst (λ n. n < 16) (sym (place k d (omega (arith, lt, length-range_with_len 0 16)))) (omega (arith, lt, length-range_with_len 0 16))))
    where
      place : (k d : ℕ) → k < 16 → get_or (range_with_len 0 16) k d ≡ k
      place k d lt = get_or-range_with_len 0 16 k d lt ∙ (let e : 0 + k ≡ k = omega arith in e)

      spoiled_not : (k : ℕ) → k < 16 → is_spoiled_at page k ≡ false
      spoiled_not k lt = ap not (eq-eqb _ 255 (all k lt))

  pub spoiled_by : (k : ℕ) → k < 16 → bit_or (get_or page k 0) (get_or page (16 + k) 0) ≢ 255 → is_spoiled page ≡ true
  spoiled_by k lt apart = by_test (is_spoiled page) refl
    where
      by_test : (test : Bool) → test ≡ is_spoiled page → is_spoiled page ≡ true
      by_test true is = sym is
      by_test false is = absurd (apart (unspoiled_at (sym is) k lt))

-- Two bytes that have each bit in one of them.
or_from_bits : (a b : ℕ) → a < 256 → b < 256 → ((bit : ℕ) → bit < 8 → 1 ≤ bit_at a bit + bit_at b bit) → bit_or a b ≡ 255
or_from_bits a b low_fits high_fits one = same_from_bits (bit_or a b) 255 (λ bit. elim (cases_lt bit 8) [
  | inl low ↦ (
      let ones : bit_at 255 bit ≡ 1 = bit_at_ones 8 bit low in
      omega (arith, bit_at_or a b bit, one bit low, bit_at-lt a bit, bit_at-lt b bit, ones))
  | inr high ↦ (
      let none : bit_at 255 bit ≡ 0 = bit_at_above 255 8 bit (omega arith) high in
      omega (arith, bit_at_or a b bit, bit_at_above a 8 bit low_fits high, bit_at_above b 8 bit high_fits high, none))
])

or_complement : (byte : ℕ) → byte < 256 → bit_or byte (255 - byte) ≡ 255
or_complement byte fits = or_from_bits byte (255 - byte) fits (omega arith) (λ bit low.
    let other : bit_at (255 - byte) bit ≡ 1 - bit_at byte bit = bit_at_not w8 byte bit fits low in
    omega (arith, other, bit_at-lt byte bit))

pub unspoiled_word : (bytes page : List ℕ) → IsCodeWordOf bytes page → is_spoiled page ≡ false
unspoiled_word bytes page word = unspoiled_from page (λ k lt.
    let low : get_or page k 0 ≡ get_or bytes k 0 = ap (λ (l : List ℕ). get_or l k 0) word.is ∙ sealed_low bytes word.size k lt in
    let high : get_or page (16 + k) 0 ≡ 255 - get_or bytes k 0 = ap (λ (l : List ℕ). get_or l (16 + k) 0) word.is ∙ sealed_high bytes word.size k lt in
    rw (low, high) (or_complement (get_or bytes k 0) (word.range k)))

-- A page that is no code word, or a code word for which this holds.
pub none_or : {A : Type 0} (page : List ℕ) → ((k : ℕ) → k < 32 → get_or page k 0 < 256) → ((found : List ℕ) → IsCodeWordOf found page → A) → A ⊎ (unsealed page ≡ None)
unfolding unsealed
none_or {A} page fits holds = by_test ((length page == 32) && bytes_eq page (sealed (take 16 page))) refl
  where
    range : length page ≡ 32 → (k : ℕ) → get_or (take 16 page) k 0 < 256
    range whole k = elim (cases_lt k 16) [
      | inl low ↦ rw (get_or-take 16 page k 0 low) (fits k (omega arith))
      | inr high ↦ rw (get_or_past (take 16 page) k 0 (omega (arith, length-take 16 page))) (omega arith)
    ]

    by_test : (test : Bool) → test ≡ ((length page == 32) && bytes_eq page (sealed (take 16 page))) → A ⊎ ((if test then Some (take 16 page) else None) ≡ None)
    by_test false is = inr refl
    by_test true is =
        let found = sealed_from_unsealed page true is refl in
        inl (holds (take 16 page) record { size = length-take-le 16 page (omega (arith, found.0)); range = range found.0; is = found.1 })

-- The erase of a page that is not spoiled.
module _ (page torn : List ℕ) (unspoiled : is_spoiled page ≡ false) (tears : IsTornPage page blank_page torn) where
  fits : (k : ℕ) → k < 32 → get_or page k 0 < 256
  fits k lt = elim (cases_lt k 16) [
    | inl low ↦ omega (arith, unspoiled_at page unspoiled k low, le_or_l (get_or page k 0) (get_or page (16 + k) 0))
    | inr high ↦ (
        let place : k ≡ 16 + (k - 16) = omega arith in
        rw place (omega (arith, unspoiled_at page unspoiled (k - 16) (omega arith), le_or_r (get_or page (k - 16) 0) (get_or page (16 + (k - 16)) 0))))
  ]

  -- Past the page both are 0.
  byte_torn : (k : ℕ) → k < 32 → (get_or torn k 0 ≡ get_or page k 0) ⊎ IsTornByte 255 (get_or page k 0) (get_or torn k 0)
  byte_torn k lt = elim (cases_lt k (length page)) [
    | inl within ↦ inr (λ bit. swap (rw (blank_at k lt) at (tears.bytes k within bit)))
    | inr past ↦ inl (get_or_past torn k 0 (omega (arith, tears.size)) ∙ sym (get_or_past page k 0 past))
  ]

  torn_fits : (k : ℕ) → k < 32 → get_or torn k 0 < 256
  torn_fits k lt = ⊎_elim (λ same. rw same (fits k lt)) (λ bits. torn_byte_fits (get_or page k 0) (get_or torn k 0) (fits k lt) bits) (byte_torn k lt)

  kept : (k : ℕ) → k < 32 → (bit : ℕ) → bit < 8 → bit_at (get_or page k 0) bit ≤ bit_at (get_or torn k 0) bit
  kept k lt bit low = ⊎_elim (λ same. omega (arith, ap (λ n. bit_at n bit) same)) (λ bits. ⊎_elim
      (λ blank. let ones : bit_at 255 bit ≡ 1 = bit_at_ones 8 bit low in omega (arith, blank, ones, bit_at-lt (get_or page k 0) bit))
      (λ stood. omega (arith, stood)) (bits bit)) (byte_torn k lt)

  le_kept : (k : ℕ) → k < 32 → get_or page k 0 ≤ get_or torn k 0
  le_kept k lt = ⊎_elim (λ same. omega (arith, same)) (λ bits. le_torn (get_or page k 0) (get_or torn k 0) (fits k lt) bits) (byte_torn k lt)

  pub erased_unspoiled : is_spoiled torn ≡ false
  erased_unspoiled = unspoiled_from torn (λ k lt. or_from_bits (get_or torn k 0) (get_or torn (16 + k) 0) (torn_fits k (omega arith)) (torn_fits (16 + k) (omega arith)) (λ bit low.
      let ones : bit_at 255 bit ≡ 1 = bit_at_ones 8 bit low in
      let both : bit_at (bit_or (get_or page k 0) (get_or page (16 + k) 0)) bit ≡ bit_at 255 bit = ap (λ n. bit_at n bit) (unspoiled_at page unspoiled k lt) in
      omega (arith, ones, both, bit_at_or (get_or page k 0) (get_or page (16 + k) 0) bit, kept k (omega arith) bit low, kept (16 + k) (omega arith) bit low)))

  erased_word_at : (found : List ℕ) → IsCodeWordOf found torn → (k : ℕ) → k < 16 → (get_or torn k 0 ≡ get_or page k 0) × (get_or torn (16 + k) 0 ≡ get_or page (16 + k) 0)
  erased_word_at found word k lt =
      let low : get_or torn k 0 ≡ get_or found k 0 = ap (λ (l : List ℕ). get_or l k 0) word.is ∙ sealed_low found word.size k lt in
      let high : get_or torn (16 + k) 0 ≡ 255 - get_or found k 0 = ap (λ (l : List ℕ). get_or l (16 + k) 0) word.is ∙ sealed_high found word.size k lt in
      let sum : 255 ≤ get_or page k 0 + get_or page (16 + k) 0 = omega (arith, unspoiled_at page unspoiled k lt, or_add_and (get_or page k 0) (get_or page (16 + k) 0)) in
      let a = le_kept k (omega arith) in
      let b = le_kept (16 + k) (omega arith) in
      let c = word.range k in
      (omega arith, omega arith)

  pub erased_same : (found : List ℕ) → IsCodeWordOf found torn → torn ≡ page
  erased_same found word = ext_get_or 0 torn page tears.size (λ k lt.
      let whole : length torn ≡ 32 = ap length word.is ∙ length-sealed found word.size in
      elim (cases_lt k 16) [
        | inl low ↦ (erased_word_at found word k low).0
        | inr high ↦ (
            let place : k ≡ 16 + (k - 16) = omega arith in
            rw place (erased_word_at found word (k - 16) (omega arith)).1)
      ])

  pub erased_or_none : (torn ≡ page) ⊎ (unsealed torn ≡ None)
  erased_or_none = none_or torn torn_fits erased_same

-- The program of a code word.
module _ (asked page torn : List ℕ) (word : IsCodeWordOf asked page) (tears : IsTornPage blank_page page torn) where
  turned : IsTornPage page blank_page torn
  turned =
      let whole : length page ≡ 32 = ap length word.is ∙ length-sealed asked word.size in
      record {
        size = tears.size ∙ length-blank ∙ sym whole;
        bytes = λ k lt bit. swap (tears.bytes k (omega (arith, length-blank)) bit);
      }

  pub programmed_or_none : (torn ≡ page) ⊎ (unsealed torn ≡ None)
  programmed_or_none = erased_or_none page torn (unspoiled_word asked page word) turned

  pub programmed_unspoiled : is_spoiled torn ≡ false
  programmed_unspoiled = erased_unspoiled page torn (unspoiled_word asked page word) turned
