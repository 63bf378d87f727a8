-- The item at a page, by the facts about that page.
use Rattle.std.proofs.Common.{◌≡◌, ◌⊎◌, ◌+◌, ◌<◌, ◌≤◌, ℕ, Bool, true, false, List, [], get_or, Option, Some, None, Result, Ok, Err, inl, inr, refl, ◌∙◌, ap, subst, arith}
use Rattle.std.specs.Prelude.{if◌then◌else◌, ◌==◌, ◌&&◌, nat_le, Contains}
use Rattle.std.specs.List.{list_any}
use Rattle.std.proofs.lemmas.Bool.{eqb-true, eqb-false, eq-eqb, leb-true, le-leb, and_parts, and_from}
use Rattle.std.proofs.lemmas.List.Folds.{Any-from_list_any, list_any_at}
use Rattle.std.proofs.lemmas.Slice.Eq.{bytes_eq-Decides}
use Rattle.flt_flash.specs.Blocks.{byte_pages}
use Rattle.flt_flash.specs.Image.{blank_page}
use Rattle.flt_code.specs.Seal.{unsealed}
use Rattle.flt_code.specs.Word.{word_of}
use Rattle.flt_code.specs.declared.words.Word.{Word}
use Rattle.flt_code.specs.declared.words.Word.TheVariants.{Start, Active, Head, Gate}
use Rattle.flt_code.proofs.WordCode.{unsealed_blank}
use Rattle.flt_sector_model.specs.Page.{is_blank}
use Rattle.flt_sector_model.specs.Log.{is_gate_of, item_by_gate, item_by_head, item_by_code, item_at}
use Rattle.flt_sector_model.specs.declared.log.Item.{Item}
use Rattle.flt_sector_model.specs.declared.log.Item.TheVariants.{End, Torn, Kept}
use Rattle.flt_sector_model.specs.Says.{Says, IsNoCode}
use Rattle.flt_sector_model.specs.Reached.{IsTornHead, IsHead, IsRecord, gate_page}
use Rattle.flt_sector_model.specs.Damage.{BeginsNothing, HasOtherGate}

-- A page says one thing.
pub says_one : {first second : Word} {page : List ℕ} → Says first page → Says second page → first ≡ second
says_one first second = let one = first.is_code in let two = second.is_code in let a = first.says in let b = second.says in cc

pub is_among : (numbers : List ℕ) (block : ℕ) → Contains numbers block → list_any (λ number. number == block) numbers ≡ true
is_among numbers block found = list_any_at (λ number. number == block) numbers found.0 block found.1 (eq-eqb (get_or numbers found.0 block) block found.2)

among : (numbers : List ℕ) (block : ℕ) → list_any (λ number. number == block) numbers ≡ true → Contains numbers block
among numbers block is =
    let found = Any-from_list_any (λ number. number == block) numbers is in
    let same : found.1 ≡ block = eqb-true found.1 block found.4 in
    (found.0, found.2, subst (λ (d : ℕ). get_or numbers found.0 d ≡ d) same found.3)

-- A blank page is no code word.
pub blank_no_code : (page : List ℕ) → is_blank page ≡ true → IsNoCode page
blank_no_code page blank = ap unsealed ((bytes_eq-Decides page blank_page).0 blank) ∙ unsealed_blank

-- The gate of a head, or another word.
gate_found : (block head : ℕ) (word : Option Word) → is_gate_of block head word ≡ true → word ≡ Some (Gate block head)
gate_found block head None is = absurd (cc is)
gate_found block head (Some (Start s p)) is = absurd (cc is)
gate_found block head (Some (Active s)) is = absurd (cc is)
gate_found block head (Some (Head b l v p)) is = absurd (cc is)
gate_found block head (Some (Gate b h)) is =
    let both = and_parts (b == block) (h == head) is in
    let same_block : b ≡ block = eqb-true b block both.0 in
    let same_head : h ≡ head = eqb-true h head both.1 in
    cc

module _ (used : ℕ) (numbers : List ℕ) (pages : List (List ℕ)) (page : ℕ) where
  -- The facts about a page that the log has reached, and the item that it is.
  pub data Stands (item : Result Item ℕ) : Type 0 where
    ends : (page ≡ used) ⊎ (is_blank (get_or pages page []) ≡ true) → item ≡ Ok End → Stands item
    torn : IsTornHead used numbers pages page → item ≡ Ok Torn → Stands item
    kept : (block length : ℕ) (valid complete : Bool) → IsRecord used numbers pages page block length valid complete → item ≡ Ok (Kept block length valid complete) → Stands item
    nothing : BeginsNothing used numbers pages page → item ≡ Err page → Stands item
    other : (block length : ℕ) (valid : Bool) → HasOtherGate used numbers pages page block length valid → item ≡ Err (page + 1 + byte_pages length) → Stands item

  -- The record of a head.
  by_gate : (block size : ℕ) (valid : Bool) → IsHead used numbers pages page block size valid → (found : Option (List ℕ)) → unsealed (gate_page pages page size) ≡ found
      → Stands (item_by_gate block size valid page (page + 1 + byte_pages size) found)
  by_gate block size valid head None is = kept block size valid false (record { head = head; gate = is }) refl
  by_gate block size valid head (Some code) is = by_test (is_gate_of block page (word_of code)) refl
    where
      by_test : (test : Bool) → is_gate_of block page (word_of code) ≡ test → Stands (if test then Ok (Kept block size valid true) else Err (page + 1 + byte_pages size))
      by_test true own = kept block size valid true (record { head = head; gate = record { code = code; is_code = is; says = gate_found block page (word_of code) own } }) refl
      by_test false apart = other block size valid
          (record { head = head; other = record { code = code; is_code = is; other = λ word says same. no_gate word says same } }) refl
        where
          no_gate : (word : Word) → word_of code ≡ Some word → word ≡ Gate block page → ⊥
          no_gate word says same =
              let own : is_gate_of block page (Some (Gate block page)) ≡ true = and_from (block == block) (page == page) (eq-eqb block block refl) (eq-eqb page page refl) in
              let found : is_gate_of block page (word_of code) ≡ true = ap (is_gate_of block page) (says ∙ ap Some same) ∙ own in
              cc

  module _ (code : List ℕ) (below : page < used) (is_code : unsealed (get_or pages page []) ≡ Some code) where
    -- A word that is no head.
    none : ((block size : ℕ) (valid : Bool) → IsHead used numbers pages page block size valid → ⊥) → Stands (Err page)
    none no_head = nothing (record { within = below; code = code; is_code = is_code; no_head = no_head }) refl

    no_head_by : (found : Option Word) → word_of code ≡ found → ((block size : ℕ) (valid : Bool) → found ≡ Some (Head block size valid page) → ⊥)
        → (block size : ℕ) (valid : Bool) → IsHead used numbers pages page block size valid → ⊥
    no_head_by found is apart block size valid head =
        let same = head.says.is_code in
        let says = head.says.says in
        let found_head : found ≡ Some (Head block size valid page) = cc in
        apart block size valid found_head

    by_head : (block size : ℕ) (valid : Bool) (own : ℕ) → word_of code ≡ Some (Head block size valid own)
        → (test : Bool) → ((own == page) && list_any (λ number. number == block) numbers && nat_le (page + 2 + byte_pages size) used) ≡ test
        → Stands (if test then item_by_gate block size valid page (page + 1 + byte_pages size) (unsealed (gate_page pages page size)) else Err page)
    by_head block size valid own says true passed =
        let parts = and_parts ((own == page) && list_any (λ number. number == block) numbers) (nat_le (page + 2 + byte_pages size) used) passed in
        let both = and_parts (own == page) (list_any (λ number. number == block) numbers) parts.0 in
        let here : own ≡ page = eqb-true own page both.0 in
        let fits : page + 2 + byte_pages size ≤ used = leb-true (page + 2 + byte_pages size) used parts.1 in
        by_gate block size valid
        (record {
          says = record { code = code; is_code = is_code; says = says ∙ ap (λ (n : ℕ). Some (Head block size valid n)) here };
          known = among numbers block both.1;
          within = omega (arith, fits);
        })
        (unsealed (gate_page pages page size)) refl
    by_head block size valid own says false failed = none (λ other_block other_size other_valid head.
        let same = head.says.is_code in
        let also = head.says.says in
        let equal : Head block size valid own ≡ Head other_block other_size other_valid page = cc in
        let own_page : own ≡ page = cc in
        let own_block : other_block ≡ block = cc in
        let own_size : other_size ≡ size = cc in
        let fits = head.within in
        let passes : ((own == page) && list_any (λ number. number == block) numbers && nat_le (page + 2 + byte_pages size) used) ≡ true =
        and_from _ _ (and_from _ _ (eq-eqb own page own_page) (is_among numbers block (subst (Contains numbers) own_block head.known)))
        (le-leb (page + 2 + byte_pages size) used (omega (arith, fits, ap byte_pages own_size))) in
        cc)

    by_word : (found : Option Word) → word_of code ≡ found → Stands (item_by_head used numbers pages page found)
    by_word None is = none (no_head_by None is (λ b l v no. cc no))
    by_word (Some (Start sequence pages)) is = none (no_head_by (Some (Start sequence pages)) is (λ b l v no. cc no))
    by_word (Some (Active sequence)) is = none (no_head_by (Some (Active sequence)) is (λ b l v no. cc no))
    by_word (Some (Gate block head)) is = none (no_head_by (Some (Gate block head)) is (λ b l v no. cc no))
    by_word (Some (Head block size valid own)) is =
        by_head block size valid own is ((own == page) && list_any (λ number. number == block) numbers && nat_le (page + 2 + byte_pages size) used) refl

  by_code : page < used → is_blank (get_or pages page []) ≡ false → (found : Option (List ℕ)) → unsealed (get_or pages page []) ≡ found → Stands (item_by_code used numbers pages page found)
  by_code below written None is = torn (record { within = below; written = written; no_code = is }) refl
  by_code below written (Some code) is = by_word code below is (word_of code) refl

  pub stands : page ≤ used → Stands (item_at used numbers pages page)
  stands below = by_tests (page == used) refl (is_blank (get_or pages page [])) refl
    where
      by_tests : (at_end : Bool) → (page == used) ≡ at_end → (blank : Bool) → is_blank (get_or pages page []) ≡ blank
          → Stands (if at_end then Ok End else if blank then Ok End else item_by_code used numbers pages page (unsealed (get_or pages page [])))
      by_tests true end blank is = ends (inl (eqb-true page used end)) refl
      by_tests false apart true is = ends (inr is) refl
      by_tests false apart false is =
          let other_page = eqb-false page used apart in
          by_code (omega (arith, below, other_page)) is (unsealed (get_or pages page [])) refl
