-- The item at the end of a log, once something is programmed there.
use Rattle.std.proofs.Common.{◌≡◌, ◌+◌, ◌<◌, ◌≤◌, ℕ, Bool, true, false, List, [], get_or, Some, None, Ok, Err, refl, ◌∙◌, ap, arith}
use Rattle.std.specs.Prelude.{if◌then◌else◌, ◌==◌, ◌&&◌}
use Rattle.std.specs.List.{list_any}
use Rattle.std.proofs.lemmas.Bool.{eq-eqb, ne_eqb, le-leb, false_from_ne_true}
use Rattle.flt_code.specs.Seal.{sealed, unsealed}
use Rattle.flt_code.specs.Word.{word_bytes, IsWord}
use Rattle.flt_code.specs.declared.words.Word.TheVariants.{Head, Gate}
use Rattle.flt_code.proofs.WordBytes.{word_of-word_bytes}
use Rattle.flt_code.proofs.WordCode.{word_page, unsealed_blank}
use Rattle.flt_sector_model.specs.Page.{is_blank}
use Rattle.flt_flash.specs.Blocks.{byte_pages}
use Rattle.flt_sector_model.specs.Log.{is_gate_of, item_by_gate, item_by_head, item_by_code, item_at}
use Rattle.flt_sector_model.specs.declared.log.Item.TheVariants.{End, Torn, Kept}
use Rattle.flt_pages.proofs.BlankPages.{blank_from_test}

module _ (used : ℕ) (numbers : List ℕ) (pages : List (List ℕ)) (page : ℕ) (below : page < used) where
  -- A page that is not blank.
  written : is_blank (get_or pages page []) ≡ false → item_at used numbers pages page ≡ item_by_code used numbers pages page (unsealed (get_or pages page []))
  written not_blank =
      ap (λ b. if b then Ok End else if is_blank (get_or pages page []) then Ok End else item_by_code used numbers pages page (unsealed (get_or pages page []))) (ne_eqb page used (λ e. omega arith))
      ∙ ap (λ b. if b then Ok End else item_by_code used numbers pages page (unsealed (get_or pages page []))) not_blank

  pub torn_item : is_blank (get_or pages page []) ≡ false → unsealed (get_or pages page []) ≡ None → item_at used numbers pages page ≡ Ok Torn
  torn_item not_blank none = written not_blank ∙ ap (item_by_code used numbers pages page) none

  module _ (block length : ℕ) (valid : Bool) (proper : IsWord (Head block length valid page)) (among : list_any (λ number. number == block) numbers ≡ true) (within : page + 2 + byte_pages length ≤ used)
      (head : get_or pages page [] ≡ sealed (word_bytes (Head block length valid page))) where
    code : unsealed (get_or pages page []) ≡ Some (word_bytes (Head block length valid page))
    code = ap unsealed head ∙ word_page (Head block length valid page)

    not_blank : is_blank (get_or pages page []) ≡ false
    not_blank = false_from_ne_true _ (λ is. (let none : unsealed (get_or pages page []) ≡ None = ap unsealed (blank_from_test (get_or pages page []) is) ∙ unsealed_blank in absurd (cc (code, none))))

    headed_item : item_at used numbers pages page ≡ item_by_gate block length valid page (page + 1 + byte_pages length) (unsealed (get_or pages (page + 1 + byte_pages length) []))
    headed_item =
        written not_blank
        ∙ ap (item_by_code used numbers pages page) code
        ∙ ap (item_by_head used numbers pages page) (word_of-word_bytes (Head block length valid page) proper)
        ∙ (λ i. if eq-eqb page page refl i && among i && le-leb (page + 2 + byte_pages length) used within i
        then item_by_gate block length valid page (page + 1 + byte_pages length) (unsealed (get_or pages (page + 1 + byte_pages length) [])) else Err page)

    pub open_item : unsealed (get_or pages (page + 1 + byte_pages length) []) ≡ None → item_at used numbers pages page ≡ Ok (Kept block length valid false)
    open_item none = headed_item ∙ ap (item_by_gate block length valid page (page + 1 + byte_pages length)) none

    pub whole_item : IsWord (Gate block page) → get_or pages (page + 1 + byte_pages length) [] ≡ sealed (word_bytes (Gate block page)) → item_at used numbers pages page ≡ Ok (Kept block length valid true)
    whole_item gate_proper gate =
        headed_item
        ∙ ap (item_by_gate block length valid page (page + 1 + byte_pages length)) (ap unsealed gate ∙ word_page (Gate block page))
        ∙ ap (λ w. if is_gate_of block page w then Ok (Kept block length valid true) else Err (page + 1 + byte_pages length)) (word_of-word_bytes (Gate block page) gate_proper)
        ∙ (λ i. if eq-eqb block block refl i && eq-eqb page page refl i then Ok (Kept block length valid true) else Err (page + 1 + byte_pages length))
