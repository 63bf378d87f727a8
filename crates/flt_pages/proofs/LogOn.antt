-- A log that continues after its end.
use Rattle.std.proofs.Common.{◌≡◌, ◌≢◌, ◌+◌, ◌-◌, ◌<◌, ◌≤◌, ℕ, zero, suc, List, [], ◌++◌, get_or, Option, None, Result, Ok, Err, inl, inr, append-nil, refl, sym, ◌∙◌, ap, subst, arith}
use Rattle.std.specs.Prelude.{if◌then◌else◌}
use Rattle.std.proofs.lemmas.Bool.{cases_eq, eq-eqb, ne_eqb}
use Rattle.flt_code.specs.Seal.{unsealed}
use Rattle.flt_sector_model.specs.Page.{is_blank}
use Rattle.flt_pages.specs.Blank.{AreBlank}
use Rattle.flt_flash.specs.Blocks.{byte_pages}
use Rattle.flt_sector_model.specs.Log.{item_by_code, Entry, LogFrom, item_at, first_written, with_entry, log_after, log_from, log}
use Rattle.flt_sector_model.specs.declared.log.Item.{Item}
use Rattle.flt_sector_model.specs.declared.log.Item.TheVariants.{End, Torn, Kept}
use Rattle.flt_pages.proofs.ItemPages.{item_pages, entry_of, same_item, item_within, AllBelow}
use Rattle.flt_pages.proofs.BlankPages.{none_written, all_blank, is_blank-blank}

-- A log without a fault.
abbrev pub sound : List Entry → ℕ → LogFrom
sound entries end = record { entries = entries; end = end; fault = None }

abbrev pub with_entries : List Entry → LogFrom → LogFrom
with_entries entries rest = record { entries = entries ++ rest.entries; end = rest.end; fault = rest.fault }

-- The log of other pages that agree from page 2 to its end goes on from there.
record Resumes (used : ℕ) (numbers : List ℕ) (pages after : List (List ℕ)) (page left : ℕ) (entries : List Entry) (end : ℕ) : Type 0 where
  pub rest : ℕ
  pub enough : used < end + rest
  pub is : log_from used numbers after page left ≡ with_entries entries (log_from used numbers after end rest)
  pub least : page ≤ end
  pub most : end ≤ used
  pub blank : AreBlank pages end used
  pub below : AllBelow end entries

module _ (used : ℕ) (numbers : List ℕ) (pages after : List (List ℕ)) where
  -- After an item that is not the end.
  behind : (left page : ℕ) (entries : List Entry) (end : ℕ) (item : Item) → page < end → page + item_pages item ≤ end → ((k : ℕ) → page ≤ k → k < end → get_or after k [] ≡ get_or pages k [])
      → item_at used numbers pages page ≡ Ok item → log_from used numbers after page (suc left) ≡ log_after used after page (λ next. log_from used numbers after next left) (Ok item)
  unfolding log_from
  behind left page entries end item here within agree is = ap (log_after used after page (λ next. log_from used numbers after next left)) (same_item used numbers pages after page end agree item here within is)

  resumes : (left page : ℕ) (entries : List Entry) (end : ℕ) → used < page + left → page ≤ used → 2 ≤ page → ((k : ℕ) → 2 ≤ k → k < end → get_or after k [] ≡ get_or pages k [])
      → log_from used numbers pages page left ≡ sound entries end → Resumes used numbers pages after page left entries end
  unfolding log_from
  resumes zero page entries end enough below in_log agree is = absurd (omega arith)
  resumes (suc left) page entries end enough below in_log agree is =
      by_item (λ next more later enough below is. resumes left next more end enough below (omega arith) agree is) (item_at used numbers pages page) refl is
    where
      by_item : ((next : ℕ) (more : List Entry) → page ≤ next → used < next + left → next ≤ used → log_from used numbers pages next left ≡ sound more end → Resumes used numbers pages after next left more end)
          → (item : Result Item ℕ) → item ≡ item_at used numbers pages page → log_after used pages page (λ next. log_from used numbers pages next left) item ≡ sound entries end
          → Resumes used numbers pages after page (suc left) entries end
      by_item onward (Err fault) here told = absurd (cc (ap (λ (l : LogFrom). l.fault) told))
      by_item onward (Ok End) here told =
          let ends : page ≡ end = ap (λ (l : LogFrom). l.end) told in
          let none : first_written pages page (used - page) ≡ None = ap (λ (l : LogFrom). l.fault) told in
          let no_entries : [] ≡ entries = ap (λ (l : LogFrom). l.entries) told in
          record {
            rest = suc left;
            enough = omega arith;
            is = λ i. with_entries (no_entries i) (log_from used numbers after (ends i) (suc left));
            least = omega arith;
            most = omega arith;
            blank = λ k low high. all_blank pages (used - page) page used (omega arith) none k (omega arith) high;
            below = subst (AllBelow end) no_entries tt;
          }
      by_item onward (Ok Torn) here told =
          let fits = item_within used numbers pages page Torn (λ e. cc e) below (sym here) in
          let on = onward (page + 1) entries (omega arith) (omega arith) (omega (arith, fits)) told in
          record {
            rest = on.rest;
            enough = on.enough;
            is = behind left page entries end Torn (omega (arith, on.least)) (omega (arith, on.least)) (λ k low lt. agree k (omega arith) lt) (sym here) ∙ on.is;
            least = omega (arith, on.least);
            most = on.most;
            blank = on.blank;
            below = on.below;
          }
      by_item onward (Ok (Kept block length valid complete)) here told =
          let next : ℕ = page + 2 + byte_pages length in
          let fits = item_within used numbers pages page (Kept block length valid complete) (λ e. cc e) below (sym here) in
          let rest : LogFrom = log_from used numbers pages next left in
          let same : rest ≡ sound rest.entries end = λ i. record { entries = rest.entries; end = ap (λ (l : LogFrom). l.end) told i; fault = ap (λ (l : LogFrom). l.fault) told i } in
          let on = onward next rest.entries (omega arith) (omega arith) (omega (arith, fits)) same in
          let entry : Entry = record { page = page; block = block; length = length; valid = valid; complete = complete } in
          record {
            rest = on.rest;
            enough = on.enough;
            is = behind left page entries end (Kept block length valid complete) (omega (arith, on.least)) (omega (arith, on.least)) (λ k low lt. agree k (omega arith) lt) (sym here)
                ∙ ap (with_entry entry) on.is
                ∙ ap (λ (es : List Entry). with_entries es (log_from used numbers after end on.rest)) (ap (λ (l : LogFrom). l.entries) told);
            least = omega (arith, on.least);
            most = on.most;
            blank = on.blank;
            below = subst (AllBelow end) (ap (λ (l : LogFrom). l.entries) told) (in_log, omega (arith, on.least), on.below);
          }

-- A log that ends at a page.
module _ (used : ℕ) (numbers : List ℕ) (after : List (List ℕ)) where
  pub end_here : (page : ℕ) → page ≤ used → AreBlank after page used → item_at used numbers after page ≡ Ok End
  end_here page below blank = elim (cases_eq page used) [
    | inl last ↦ ap (λ b. if b then Ok End else if is_blank (get_or after page []) then Ok End else item_by_code used numbers after page (unsealed (get_or after page []))) (eq-eqb page used last)
    | inr other ↦
        ap (λ b. if b then Ok End else if is_blank (get_or after page []) then Ok End else item_by_code used numbers after page (unsealed (get_or after page []))) (ne_eqb page used other)
        ∙ ap (λ b. if b then Ok End else item_by_code used numbers after page (unsealed (get_or after page []))) (is_blank-blank (get_or after page []) (blank page (omega arith) (omega arith)))
  ]

  pub ended : (left page : ℕ) → used < page + left → page ≤ used → AreBlank after page used → log_from used numbers after page left ≡ sound [] page
  unfolding log_from
  ended zero page enough below blank = absurd (omega arith)
  ended (suc left) page enough below blank =
      ap (log_after used after page (λ next. log_from used numbers after next left)) (end_here page below blank)
      ∙ ap (λ (fault : Option ℕ). record { entries = []; end = page; fault = fault }) (none_written after (used - page) page used (omega arith) blank)

-- One item more.
module _ (used : ℕ) (numbers : List ℕ) (pages after : List (List ℕ)) (entries : List Entry) (end : ℕ) (begins : 2 ≤ used) (is : log used numbers pages ≡ sound entries end)
    (agree : (k : ℕ) → 2 ≤ k → k < end → get_or after k [] ≡ get_or pages k []) where
  whole : Resumes used numbers pages after 2 (used + 1) entries end
  whole = resumes used numbers pages after (used + 1) 2 entries end (omega arith) begins (omega arith) agree is

  pub end_least : 2 ≤ end
  end_least = whole.least

  pub end_most : end ≤ used
  end_most = whole.most

  pub blank_behind : AreBlank pages end used
  blank_behind = whole.blank

  pub all_below : AllBelow end entries
  all_below = whole.below

  pub log_same : AreBlank after end used → log used numbers after ≡ sound entries end
  log_same blank = whole.is ∙ ap (with_entries entries) (ended used numbers after whole.rest end whole.enough whole.most blank) ∙ ap (λ (es : List Entry). sound es end) (append-nil entries)

  one_more : (left : ℕ) (item : Item) → used < end + left → item ≢ End → item_at used numbers after end ≡ Ok item → AreBlank after (end + item_pages item) used
      → log_from used numbers after end left ≡ sound (entry_of end item) (end + item_pages item)
  unfolding log_from
  one_more zero item enough goes_on at_end blank = absurd (omega (arith, whole.most))
  one_more (suc left) End enough goes_on at_end blank = absurd (goes_on refl)
  one_more (suc left) Torn enough goes_on at_end blank =
      let fits = item_within used numbers after end Torn goes_on whole.most at_end in
      ap (log_after used after end (λ next. log_from used numbers after next left)) at_end ∙ ended used numbers after left (end + 1) (omega arith) (omega (arith, fits)) blank
  one_more (suc left) (Kept block length valid complete) enough goes_on at_end blank =
      let fits = item_within used numbers after end (Kept block length valid complete) goes_on whole.most at_end in
      let next : end + 2 + byte_pages length ≡ end + (2 + byte_pages length) = omega arith in
      let entry : Entry = record { page = end; block = block; length = length; valid = valid; complete = complete } in
      ap (log_after used after end (λ next. log_from used numbers after next left)) at_end
      ∙ ap (λ n. with_entry entry (log_from used numbers after n left)) next
      ∙ ap (with_entry entry) (ended used numbers after left (end + (2 + byte_pages length)) (omega arith) (omega (arith, fits)) blank)

  pub log_more : (item : Item) → item ≢ End → item_at used numbers after end ≡ Ok item → AreBlank after (end + item_pages item) used
      → log used numbers after ≡ sound (entries ++ entry_of end item) (end + item_pages item)
  log_more item goes_on at_end blank = whole.is ∙ ap (with_entries entries) (one_more whole.rest item whole.enough goes_on at_end blank)
