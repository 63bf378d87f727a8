-- An item depends only on its own pages.
use Rattle.std.proofs.Common.{◌≡◌, ◌≢◌, ◌+◌, ◌<◌, ◌≤◌, ℕ, Bool, true, false, List, [], ◌∷◌, get_or, Option, Some, None, Result, Ok, Err, refl, sym, ◌∙◌, ap, arith}
use Rattle.std.specs.Prelude.{if◌then◌else◌, ◌==◌, ◌&&◌, nat_le}
use Rattle.std.specs.List.{list_any}
use Rattle.std.proofs.lemmas.Bool.{eqb-false, leb-true}
use Rattle.flt_code.specs.Seal.{unsealed}
use Rattle.flt_code.specs.Word.{word_of}
use Rattle.flt_code.specs.declared.words.Word.{Word}
use Rattle.flt_code.specs.declared.words.Word.TheVariants.{Start, Active, Head, Gate}
use Rattle.flt_sector_model.specs.Page.{is_blank}
use Rattle.flt_flash.specs.Blocks.{byte_pages}
use Rattle.flt_sector_model.specs.Log.{Entry, is_gate_of, item_by_gate, item_by_head, item_by_code, item_at}
use Rattle.flt_sector_model.specs.declared.log.Item.{Item}
use Rattle.flt_sector_model.specs.declared.log.Item.TheVariants.{End, Torn, Kept}

-- The pages that an item takes.
abbrev pub item_pages : Item → ℕ
item_pages End = 0
item_pages Torn = 1
item_pages (Kept block length valid complete) = 2 + byte_pages length

-- The record that an item is.
abbrev pub entry_of : ℕ → Item → List Entry
entry_of page End = []
entry_of page Torn = []
entry_of page (Kept block length valid complete) = record { page = page; block = block; length = length; valid = valid; complete = complete } ∷ []

-- Each record is in the log and ends below a page.
abbrev pub AllBelow : ℕ → List Entry → Type 0
AllBelow bound [] = Unit {0}
AllBelow bound (entry ∷ rest) = (2 ≤ entry.page) × (entry.page + 2 + byte_pages entry.length ≤ bound) × AllBelow bound rest

-- An item of a record takes the record's pages.
gated_pages : (block length : ℕ) (valid : Bool) (head gate : ℕ) (code : Option (List ℕ)) (item : Item) → item_by_gate block length valid head gate code ≡ Ok item → item_pages item ≡ 2 + byte_pages length
gated_pages block length valid head gate None item is = sym (ap pages is)
  where
    pages : Result Item ℕ → ℕ
    pages (Ok i) = item_pages i
    pages (Err e) = 0
gated_pages block length valid head gate (Some code) item is = by_test (is_gate_of block head (word_of code)) is
  where
    pages : Result Item ℕ → ℕ
    pages (Ok i) = item_pages i
    pages (Err e) = 0

    by_test : (test : Bool) → (if test then Ok (Kept block length valid true) else Err gate) ≡ Ok item → item_pages item ≡ 2 + byte_pages length
    by_test true told = sym (ap pages told)
    by_test false told = absurd (cc told)

module _ (used : ℕ) (numbers : List ℕ) (pages after : List (List ℕ)) (page bound : ℕ) (agree : (k : ℕ) → page ≤ k → k < bound → get_or after k [] ≡ get_or pages k []) (item : Item) where
  headed_same : (word : Option Word) → page + item_pages item ≤ bound → item_by_head used numbers pages page word ≡ Ok item → item_by_head used numbers after page word ≡ Ok item
  headed_same None within is = absurd (cc is)
  headed_same (Some (Start sequence own)) within is = absurd (cc is)
  headed_same (Some (Active sequence)) within is = absurd (cc is)
  headed_same (Some (Gate block head)) within is = absurd (cc is)
  headed_same (Some (Head block length valid own)) within is = by_test ((own == page) && list_any (λ number. number == block) numbers && nat_le (page + 2 + byte_pages length) used) is
    where
      gate : ℕ
      gate = page + 1 + byte_pages length

      by_test : (test : Bool)
          → (if test then item_by_gate block length valid page (page + 1 + byte_pages length) (unsealed (get_or pages (page + 1 + byte_pages length) [])) else Err page) ≡ Ok item
          → (if test then item_by_gate block length valid page (page + 1 + byte_pages length) (unsealed (get_or after (page + 1 + byte_pages length) [])) else Err page) ≡ Ok item
      by_test false told = told
      by_test true told =
          let takes = gated_pages block length valid page (page + 1 + byte_pages length) (unsealed (get_or pages (page + 1 + byte_pages length) [])) item told in
          ap (λ (l : List ℕ). item_by_gate block length valid page (page + 1 + byte_pages length) (unsealed l)) (agree (page + 1 + byte_pages length) (omega arith) (omega (arith, takes, within))) ∙ told

  coded_same : (code : Option (List ℕ)) → page + item_pages item ≤ bound → item_by_code used numbers pages page code ≡ Ok item → item_by_code used numbers after page code ≡ Ok item
  coded_same None within is = is
  coded_same (Some code) within is = headed_same (word_of code) within is

  pub same_item : page < bound → page + item_pages item ≤ bound → item_at used numbers pages page ≡ Ok item → item_at used numbers after page ≡ Ok item
  same_item here within is =
      ap (λ (l : List ℕ). if page == used then Ok End else if is_blank l then Ok End else item_by_code used numbers after page (unsealed l)) (agree page (omega arith) here)
      ∙ by_tests (page == used) (is_blank (get_or pages page [])) is
    where
      by_tests : (at_end blank : Bool) → (if at_end then Ok End else if blank then Ok End else item_by_code used numbers pages page (unsealed (get_or pages page []))) ≡ Ok item
          → (if at_end then Ok End else if blank then Ok End else item_by_code used numbers after page (unsealed (get_or pages page []))) ≡ Ok item
      by_tests true blank told = told
      by_tests false true told = told
      by_tests false false told = coded_same (unsealed (get_or pages page [])) within told

-- An item that is not the end lies within the used pages.
module _ (used : ℕ) (numbers : List ℕ) (pages : List (List ℕ)) (page : ℕ) (item : Item) (goes_on : item ≢ End) (below : page ≤ used) where
  headed_within : (word : Option Word) → item_by_head used numbers pages page word ≡ Ok item → page + item_pages item ≤ used
  headed_within None is = absurd (cc is)
  headed_within (Some (Start sequence own)) is = absurd (cc is)
  headed_within (Some (Active sequence)) is = absurd (cc is)
  headed_within (Some (Gate block head)) is = absurd (cc is)
  headed_within (Some (Head block length valid own)) is =
      by_tests (own == page) (list_any (λ number. number == block) numbers) (nat_le (page + 2 + byte_pages length) used) refl is
    where
      by_tests : (a b c : Bool) → c ≡ nat_le (page + 2 + byte_pages length) used
          → (if a && b && c then item_by_gate block length valid page (page + 1 + byte_pages length) (unsealed (get_or pages (page + 1 + byte_pages length) [])) else Err page) ≡ Ok item
          → page + item_pages item ≤ used
      by_tests false b c fits told = absurd (cc told)
      by_tests true false c fits told = absurd (cc told)
      by_tests true true false fits told = absurd (cc told)
      by_tests true true true fits told =
          let takes = gated_pages block length valid page (page + 1 + byte_pages length) (unsealed (get_or pages (page + 1 + byte_pages length) [])) item told in
          let le = leb-true (page + 2 + byte_pages length) used (sym fits) in
          omega (arith, takes, le)

  coded_within : page < used → (code : Option (List ℕ)) → item_by_code used numbers pages page code ≡ Ok item → page + item_pages item ≤ used
  coded_within lt None is = torn_within item is
    where
      torn_within : (i : Item) → item_by_code used numbers pages page None ≡ Ok i → page + item_pages i ≤ used
      torn_within Torn told = omega arith
      torn_within End told = absurd (cc told)
      torn_within (Kept b l v c) told = absurd (cc told)
  coded_within lt (Some code) is = headed_within (word_of code) is

  pub item_within : item_at used numbers pages page ≡ Ok item → page + item_pages item ≤ used
  item_within is = by_tests (page == used) (is_blank (get_or pages page [])) refl is
    where
      by_tests : (at_end blank : Bool) → at_end ≡ (page == used)
          → (if at_end then Ok End else if blank then Ok End else item_by_code used numbers pages page (unsealed (get_or pages page []))) ≡ Ok item → page + item_pages item ≤ used
      by_tests true blank ends told = absurd (goes_on (sym (cc told)))
      by_tests false true ends told = absurd (goes_on (sym (cc told)))
      by_tests false false ends told = coded_within (lt ends) (unsealed (get_or pages page [])) told
        where
          lt : false ≡ (page == used) → page < used
          lt apart = (let other : page ≢ used = eqb-false page used (sym apart) in omega arith)
