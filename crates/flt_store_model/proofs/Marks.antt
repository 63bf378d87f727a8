-- The bytes of a mark are read as that mark, in either version, and no others are read.
use Rattle.std.proofs.Common.{◌≡◌, inl, inr, ⊎_elim, ℕ, ◌<◌, List, length, refl, sym, ◌∙◌, ap, subst, Some, None, arith, true, false}
use Rattle.std.specs.Prelude.{bytes_eq, nat_lt, slice_index}
use Rattle.std.specs.Int.{from_be_bytes, to_be_bytes, w16}
use Rattle.std.proofs.lemmas.Nat.{from_be_bytes-to_be_bytes_2}
use Rattle.std.proofs.lemmas.Bool.{and_parts, and_from, and_left, or_cases, or_left, or_right, ltb-true, lt-ltb, false_from_ne_true}
use Rattle.std.proofs.lemmas.Slice.Eq.{bytes_eq-Decides}
use Rattle.flt_store_model.specs.declared.mark.Mark.{Mark}
use Rattle.flt_store_model.specs.Form.{mark_bytes, mark_bytes_1, IsMark, IsBytesOfMark}
use Rattle.flt_store_model.specs.Reading.{mark_from, are_bytes_of_mark, mark_in}
use Rattle.flt_store_model.proofs.Choices.{chosen, not_chosen, some_chosen}

pub mark_size : (mark : Mark) → length (mark_bytes mark) ≡ 8
unfolding mark_bytes
mark_size mark = refl

pub mark_size_1 : (mark : Mark) → length (mark_bytes_1 mark) ≡ 8
unfolding mark_bytes_1
mark_size_1 mark = refl

mark_from-mark_bytes : (mark : Mark) → IsMark mark → mark_from (mark_bytes mark) ≡ mark
unfolding mark_from mark_bytes
mark_from-mark_bytes mark is = λ i. record {
  id = from_be_bytes-to_be_bytes_2 mark.id is.id i;
  events = from_be_bytes-to_be_bytes_2 mark.events is.events i;
  entries = mark.entries;
}

mark_from-mark_bytes_1 : (mark : Mark) → IsMark mark → mark_from (mark_bytes_1 mark) ≡ mark
unfolding mark_from mark_bytes_1
mark_from-mark_bytes_1 mark is = λ i. record {
  id = from_be_bytes-to_be_bytes_2 mark.id is.id i;
  events = from_be_bytes-to_be_bytes_2 mark.events is.events i;
  entries = mark.entries;
}

-- What two bytes hold is below 2 ^ 16.
word_below : (n : ℕ) → from_be_bytes w16 (to_be_bytes w16 n) < 65536
word_below n = omega arith

abbrev AreFieldsBelow : Mark → Type 0
AreFieldsBelow mark = (mark.id < 65536) × (mark.events < 65536)

fields_below : (mark : Mark) → AreFieldsBelow (mark_from (mark_bytes mark))
unfolding mark_from mark_bytes
fields_below mark = (word_below mark.id, word_below mark.events)

fields_below_1 : (mark : Mark) → AreFieldsBelow (mark_from (mark_bytes_1 mark))
unfolding mark_from mark_bytes_1
fields_below_1 mark = (word_below mark.id, word_below mark.events)

-- The test of bytes, and what it says.
bytes_by_test : (held : List ℕ) (mark : Mark) → are_bytes_of_mark held mark ≡ true → IsBytesOfMark mark held
bytes_by_test held mark are = ⊎_elim
    (λ new. inl ((bytes_eq-Decides held (mark_bytes mark)).0 new))
    (λ old. inr ((bytes_eq-Decides held (mark_bytes_1 mark)).0 old))
    (or_cases (bytes_eq held (mark_bytes mark)) (bytes_eq held (mark_bytes_1 mark)) are)

test_of_bytes : (held : List ℕ) (mark : Mark) → IsBytesOfMark mark held → are_bytes_of_mark held mark ≡ true
test_of_bytes held mark = ⊎_elim
    (λ new. or_left (bytes_eq held (mark_bytes mark)) (bytes_eq held (mark_bytes_1 mark)) ((bytes_eq-Decides held (mark_bytes mark)).1 new))
    (λ old. or_right (bytes_eq held (mark_bytes mark)) (bytes_eq held (mark_bytes_1 mark)) ((bytes_eq-Decides held (mark_bytes_1 mark)).1 old))

from_bytes : (held : List ℕ) (mark : Mark) → IsMark mark → IsBytesOfMark mark held → mark_from held ≡ mark
from_bytes held mark is = ⊎_elim (λ new. ap mark_from new ∙ mark_from-mark_bytes mark is) (λ old. ap mark_from old ∙ mark_from-mark_bytes_1 mark is)

short_by_bytes : (held : List ℕ) → IsBytesOfMark (mark_from held) held → AreFieldsBelow (mark_from held)
short_by_bytes held = ⊎_elim
    (λ new. subst (λ (h : List ℕ). AreFieldsBelow (mark_from h)) (sym new) (fields_below (mark_from held)))
    (λ old. subst (λ (h : List ℕ). AreFieldsBelow (mark_from h)) (sym old) (fields_below_1 (mark_from held)))

-- Bytes of a mark are eight.
pub bytes_of_mark_size : (held : List ℕ) (mark : Mark) → IsBytesOfMark mark held → length held ≡ 8
bytes_of_mark_size held mark = ⊎_elim (λ new. ap length new ∙ mark_size mark) (λ old. ap length old ∙ mark_size_1 mark)

-- What is read is a mark of these bytes.
pub read_mark : (held : List ℕ) (mark : Mark) → mark_in held ≡ Some mark → IsMark mark × IsBytesOfMark mark held
unfolding mark_in
read_mark held mark is =
    let by = some_chosen _ (mark_from held) mark is in
    let parts = and_parts (are_bytes_of_mark held (mark_from held)) (nat_lt (mark_from held).entries 256) by.0 in
    let bytes = bytes_by_test held (mark_from held) parts.0 in
    let below = short_by_bytes held bytes in
    subst (λ (m : Mark). IsMark m × IsBytesOfMark m held) by.1
    (record { id = omega (arith, below.0); events = omega (arith, below.1); entries = omega (arith, ltb-true (mark_from held).entries 256 parts.1) }, bytes)

-- The bytes of a mark are read.
pub mark_read : (held : List ℕ) (mark : Mark) → IsMark mark → IsBytesOfMark mark held → mark_in held ≡ Some mark
unfolding mark_in
mark_read held mark is bytes =
    let found : mark_from held ≡ mark = from_bytes held mark is bytes in
    chosen _ (Some (mark_from held)) None
    (and_from (are_bytes_of_mark held (mark_from held)) (nat_lt (mark_from held).entries 256)
    (test_of_bytes held (mark_from held) (subst (λ (m : Mark). IsBytesOfMark m held) (sym found) bytes))
    (lt-ltb (mark_from held).entries 256 (subst (λ (m : Mark). m.entries < 256) (sym found) (omega (arith, is.entries)))))
    ∙ ap Some found

-- Bytes that are not those of what they would be give none.
pub no_mark : (held : List ℕ) → are_bytes_of_mark held (mark_from held) ≡ false → mark_in held ≡ None
unfolding mark_in
no_mark held differ = not_chosen _ (Some (mark_from held)) None (and_left (are_bytes_of_mark held (mark_from held)) (nat_lt (mark_from held).entries 256) differ)

-- Bytes of another length give none.
pub no_mark_by_size : (held : List ℕ) → (length held ≡ 8 → ⊥) → mark_in held ≡ None
no_mark_by_size held other = no_mark held (false_from_ne_true (are_bytes_of_mark held (mark_from held)) (λ yes. other (bytes_of_mark_size held (mark_from held) (bytes_by_test held (mark_from held) yes))))

-- Bytes that are those of what they would be are read.
pub tested_mark : (held : List ℕ) → are_bytes_of_mark held (mark_from held) ≡ true → slice_index held 5 < 256 → mark_in held ≡ Some (mark_from held)
unfolding mark_in mark_from
tested_mark held same below =
    chosen _ (Some (mark_from held)) None (and_from (are_bytes_of_mark held (mark_from held)) (nat_lt (slice_index held 5) 256) same (lt-ltb (slice_index held 5) 256 below))
