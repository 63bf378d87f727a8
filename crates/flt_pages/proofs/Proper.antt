-- The head of a record says a length of its kind and one of the block numbers.
use Rattle.std.proofs.Common.{◌≡◌, ◌+◌, ℕ, Bool, true, false, List, [], get_or, Option, Some, None, Ok, Err, refl, sym, ◌∙◌}
use Rattle.std.specs.Prelude.{if◌then◌else◌, ◌==◌, ◌&&◌, nat_le, slice_index, slice_range}
use Rattle.std.specs.Int.{from_be_bytes, w16, w32}
use Rattle.std.specs.List.{list_any}
use Rattle.std.specs.Str.{bytes_eq}
use Rattle.flt_flash.specs.Blocks.{byte_pages}
use Rattle.flt_code.specs.Seal.{unsealed}
use Rattle.flt_code.specs.Word.{is_length, word_bytes, candidate, checked, word_of}
use Rattle.flt_code.specs.declared.words.Word.{Word}
use Rattle.flt_code.specs.declared.words.Word.TheVariants.{Start, Active, Head, Gate}
use Rattle.flt_sector_model.specs.Page.{is_blank}
use Rattle.flt_sector_model.specs.Log.{is_gate_of, item_by_gate, item_by_head, item_by_code, item_at}
use Rattle.flt_sector_model.specs.declared.log.Item.TheVariants.{End, Kept}

checked_is : (found : Option Word) (bytes : List ℕ) (word : Word) → checked found bytes ≡ Some word → found ≡ Some word
checked_is None bytes word is = absurd (cc is)
checked_is (Some w) bytes word is = by_test (bytes_eq (word_bytes w) bytes) is
  where
    by_test : (test : Bool) → (if test then Some w else None) ≡ Some word → Some w ≡ Some word
    by_test true told = told
    by_test false told = absurd (cc told)

candidate_length : (bytes : List ℕ) (block length page : ℕ) (valid : Bool) → candidate bytes ≡ Some (Head block length valid page) → is_length valid length ≡ true
unfolding candidate
candidate_length bytes block length page valid is =
    by_tests (slice_index bytes 0 == 0x53) (slice_index bytes 0 == 0x41) (slice_index bytes 0 == 0x48) (slice_index bytes 0 == 0x47)
    (is_length (slice_index bytes 1 == 1) (from_be_bytes w16 (slice_range bytes 4 6))) refl is
  where
    by_tests : (s a h g fits : Bool) → fits ≡ is_length (slice_index bytes 1 == 1) (from_be_bytes w16 (slice_range bytes 4 6))
        → (if s then Some (Start (from_be_bytes w32 (slice_range bytes 2 6)) (from_be_bytes w16 (slice_range bytes 6 8)))
        else if a then Some (Active (from_be_bytes w32 (slice_range bytes 2 6)))
        else if h then (if fits then Some (Head (from_be_bytes w16 (slice_range bytes 2 4)) (from_be_bytes w16 (slice_range bytes 4 6)) (slice_index bytes 1 == 1) (from_be_bytes w16 (slice_range bytes 6 8))) else None)
        else if g then Some (Gate (from_be_bytes w16 (slice_range bytes 2 4)) (from_be_bytes w16 (slice_range bytes 4 6)))
        else None) ≡ Some (Head block length valid page) → is_length valid length ≡ true
    by_tests true a h g fits fine told = absurd (cc told)
    by_tests false true h g fits fine told = absurd (cc told)
    by_tests false false true g false fine told = absurd (cc told)
    by_tests false false true g true fine told =
        let kind : valid ≡ (slice_index bytes 1 == 1) = sym (cc told) in
        let number : length ≡ from_be_bytes w16 (slice_range bytes 4 6) = sym (cc told) in
        (λ i. is_length (kind i) (number i)) ∙ sym fine
    by_tests false false false true fits fine told = absurd (cc told)
    by_tests false false false false fits fine told = absurd (cc told)

head_length : (bytes : List ℕ) (block length page : ℕ) (valid : Bool) → word_of bytes ≡ Some (Head block length valid page) → is_length valid length ≡ true
unfolding word_of
head_length bytes block length page valid is = candidate_length bytes block length page valid (checked_is (candidate bytes) bytes (Head block length valid page) is)

-- A record's block is among the numbers, and its length is of its kind.
pub record IsProper (numbers : List ℕ) (block length : ℕ) (valid : Bool) : Type 0 where
  pub among : list_any (λ number. number == block) numbers ≡ true
  pub kind : is_length valid length ≡ true

module _ (used : ℕ) (numbers : List ℕ) (pages : List (List ℕ)) (page block size : ℕ) (valid complete : Bool) where
  by_gate : (b l : ℕ) (v : Bool) (head gate : ℕ) (code : Option (List ℕ)) → item_by_gate b l v head gate code ≡ Ok (Kept block size valid complete) → (b ≡ block) × (l ≡ size) × (v ≡ valid)
  by_gate b l v head gate None is = (cc is, cc is, cc is)
  by_gate b l v head gate (Some code) is = by_test (is_gate_of b head (word_of code)) is
    where
      by_test : (test : Bool) → (if test then Ok (Kept b l v true) else Err gate) ≡ Ok (Kept block size valid complete) → (b ≡ block) × (l ≡ size) × (v ≡ valid)
      by_test true told = (cc told, cc told, cc told)
      by_test false told = absurd (cc told)

  by_head : (word : Option Word) → ((b l p : ℕ) (v : Bool) → word ≡ Some (Head b l v p) → is_length v l ≡ true) → item_by_head used numbers pages page word ≡ Ok (Kept block size valid complete) → IsProper numbers block size valid
  by_head None fits is = absurd (cc is)
  by_head (Some (Start s p)) fits is = absurd (cc is)
  by_head (Some (Active s)) fits is = absurd (cc is)
  by_head (Some (Gate b h)) fits is = absurd (cc is)
  by_head (Some (Head b l v own)) fits is =
      by_tests (own == page) (list_any (λ number. number == b) numbers) (nat_le (page + 2 + byte_pages l) used) refl is
    where
      by_tests : (a m c : Bool) → m ≡ list_any (λ number. number == b) numbers
          → (if a && m && c then item_by_gate b l v page (page + 1 + byte_pages l) (unsealed (get_or pages (page + 1 + byte_pages l) [])) else Err page) ≡ Ok (Kept block size valid complete)
          → IsProper numbers block size valid
      by_tests false m c found told = absurd (cc told)
      by_tests true false c found told = absurd (cc told)
      by_tests true true false found told = absurd (cc told)
      by_tests true true true found told =
          let same = by_gate b l v page (page + 1 + byte_pages l) (unsealed (get_or pages (page + 1 + byte_pages l) [])) told in
          record {
            among = (λ i. list_any (λ number. number == sym same.0 i) numbers) ∙ sym found;
            kind = (λ i. is_length (sym same.2 i) (sym same.1 i)) ∙ fits b l own v refl;
          }

  by_code : (code : Option (List ℕ)) → item_by_code used numbers pages page code ≡ Ok (Kept block size valid complete) → IsProper numbers block size valid
  by_code None is = absurd (cc is)
  by_code (Some code) is = by_head (word_of code) (λ b l p v word. head_length code b l p v word) is

  pub proper_item : item_at used numbers pages page ≡ Ok (Kept block size valid complete) → IsProper numbers block size valid
  proper_item is = by_tests (page == used) (is_blank (get_or pages page [])) is
    where
      by_tests : (at_end blank : Bool) → (if at_end then Ok End else if blank then Ok End else item_by_code used numbers pages page (unsealed (get_or pages page []))) ≡ Ok (Kept block size valid complete)
          → IsProper numbers block size valid
      by_tests true blank told = absurd (cc told)
      by_tests false true told = absurd (cc told)
      by_tests false false told = by_code (unsealed (get_or pages page [])) told
