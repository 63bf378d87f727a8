-- The lines of a log from a page on, while they are put.
use Rattle.std.proofs.Common.{◌≡◌, ◌≢◌, ⊎_elim, ◌+◌, ◌-◌, ◌≤◌, ℕ, zero, suc, Bool, true, false, List, [], ◌∷◌, ◌++◌, Option, Some, None, Result, Ok, Err, refl, sym, ◌∙◌, ap, subst, arith, append_assoc}
use Rattle.std.proofs.lemmas.List.{append-nil}
use Rattle.flt_flash.specs.Blocks.{byte_pages, record_pages}
use Rattle.flt_sector_model.specs.Log.{Entry, LogFrom, item_at, first_written, log_after, log_from, log}
use Rattle.flt_sector_model.specs.declared.log.Item.{Item}
use Rattle.flt_sector_model.specs.declared.log.Item.TheVariants.{End, Torn, Kept}
use Rattle.flt_sector_model.proofs.Logged.{log_on, log_step}
use Rattle.flt_pages.proofs.ItemPages.{item_within}
use Rattle.std.specs.Result.{is_ok}
use Rattle.flt_pages.specs.declared.fault.PageFault.{PageFault}
use Rattle.flt_pages.specs.declared.fault.PageFault.TheVariants.{Flash}
use Rattle.flt_pages.specs.Told.{told, told_fault, TellsOrFails}
use Rattle.flt_dump.specs.Listing.{log_text, record_line, torn_line, torn_lines}
use Rattle.flt_dump.specs.Listed.{IsListed}

abbrev pub entry_at : ℕ → ℕ → ℕ → Bool → Bool → Entry
entry_at page block length valid complete = record { page = page; block = block; length = length; valid = valid; complete = complete }

-- The records begin at this page or after it, and so does the end where there is none.
abbrev Begins : ℕ → List Entry → ℕ → Type 0
Begins page [] end = page ≤ end
Begins page (entry ∷ entries) end = page ≤ entry.page

begins_later : (page : ℕ) (entries : List Entry) (end : ℕ) → Begins (page + 1) entries end → Begins page entries end
begins_later page [] end begins = omega arith
begins_later page (entry ∷ entries) end begins = omega arith

torn_more : (page left : ℕ) → torn_lines page (suc left) ≡ torn_line page ++ torn_lines (page + 1) left
unfolding torn_lines
torn_more page left = refl

torn_none : (page : ℕ) → torn_lines page 0 ≡ []
unfolding torn_lines
torn_none page = refl

-- A torn head has its line before the others.
torn_text : (page : ℕ) (entries : List Entry) (end : ℕ) → Begins (page + 1) entries end → log_text page entries end ≡ torn_line page ++ log_text (page + 1) entries end
unfolding log_text
torn_text page [] end begins =
    let more : end - page ≡ suc (end - (page + 1)) = omega arith in
    ap (torn_lines page) more ∙ torn_more page (end - (page + 1))
torn_text page (entry ∷ entries) end begins =
    let more : entry.page - page ≡ suc (entry.page - (page + 1)) = omega arith in
    let rest = log_text (entry.page + record_pages entry.length) entries end in
    ap (λ (l : List ℕ). l ++ record_line entry ++ rest) (ap (torn_lines page) more ∙ torn_more page (entry.page - (page + 1)))
    ∙ simp append_assoc

-- A record has its line before the others.
record_text : (entry : Entry) (entries : List Entry) (end : ℕ) → log_text entry.page (entry ∷ entries) end ≡ record_line entry ++ log_text (entry.page + record_pages entry.length) entries end
unfolding log_text
record_text entry entries end =
    let same : entry.page - entry.page ≡ 0 = omega arith in
    ap (λ (l : List ℕ). l ++ record_line entry ++ log_text (entry.page + record_pages entry.length) entries end) (ap (torn_lines entry.page) same ∙ torn_none entry.page)

end_text : (page : ℕ) → log_text page [] page ≡ []
unfolding log_text
end_text page =
    let same : page - page ≡ 0 = omega arith in
    ap (torn_lines page) same ∙ torn_none page

module _ (used : ℕ) (numbers : List ℕ) (pages : List (List ℕ)) where
  begins_there : (left page : ℕ) → Begins page (log_from used numbers pages page left).entries (log_from used numbers pages page left).end
  unfolding log_from
  begins_there zero page = omega arith
  begins_there (suc left) page = by_item (λ next. begins_there left next) (item_at used numbers pages page)
    where
      by_item : ((next : ℕ) → Begins next (log_from used numbers pages next left).entries (log_from used numbers pages next left).end) → (item : Result Item ℕ)
          → Begins page (log_after used pages page (λ next. log_from used numbers pages next left) item).entries (log_after used pages page (λ next. log_from used numbers pages next left) item).end
      by_item later (Ok End) = omega arith
      by_item later (Ok Torn) = begins_later page _ _ (later (page + 1))
      by_item later (Ok (Kept block length valid complete)) = omega arith
      by_item later (Err fault) = omega arith

  -- What was put so far and what is to be put from this page on are the lines of the log after what was there before.
  pub record Puts (old now : List ℕ) (page : ℕ) : Type 0 where
    pub below : page ≤ used
    pub fault : (log used numbers pages).fault ≡ (log_on used numbers pages page).fault
    pub text : now ++ log_text page (log_on used numbers pages page).entries (log_on used numbers pages page).end
        ≡ old ++ log_text 2 (log used numbers pages).entries (log used numbers pages).end

  pub puts_none : (old : List ℕ) → 2 ≤ used → Puts old old 2
  puts_none old least = record { below = least; fault = refl; text = refl }

  module _ (old now : List ℕ) (page : ℕ) (puts : Puts old now page) where
    abbrev TextOf : LogFrom → Type 0
    TextOf from = now ++ log_text page from.entries from.end ≡ old ++ log_text 2 (log used numbers pages).entries (log used numbers pages).end

    pub puts_torn : item_at used numbers pages page ≡ Ok Torn → Puts old (now ++ torn_line page) (page + 1)
    puts_torn found =
        let step = log_step used numbers pages page (Ok Torn) puts.below found in
        let next = log_on used numbers pages (page + 1) in
        record {
          below = item_within used numbers pages page Torn (λ e. cc e) puts.below found;
          fault = puts.fault ∙ ap (λ (l : LogFrom). l.fault) step;
          text = append_assoc now (torn_line page) _ ∙ ap (λ (l : List ℕ). now ++ l) (sym (torn_text page next.entries next.end (begins_there (used + 1) (page + 1)))) ∙ subst TextOf step puts.text;
        }

    pub puts_record : (block length : ℕ) (valid complete : Bool) → item_at used numbers pages page ≡ Ok (Kept block length valid complete)
        → Puts old (now ++ record_line (entry_at page block length valid complete)) (page + 2 + byte_pages length)
    puts_record block length valid complete found =
        let step = log_step used numbers pages page (Ok (Kept block length valid complete)) puts.below found in
        let next = log_on used numbers pages (page + 2 + byte_pages length) in
        let place : page + record_pages length ≡ page + 2 + byte_pages length = omega arith in
        record {
          below = omega (arith, item_within used numbers pages page (Kept block length valid complete) (λ e. cc e) puts.below found);
          fault = puts.fault ∙ ap (λ (l : LogFrom). l.fault) step;
          text = append_assoc now (record_line (entry_at page block length valid complete)) _
              ∙ ap (λ (l : List ℕ). now ++ l) (ap (λ (n : ℕ). record_line (entry_at page block length valid complete) ++ log_text n next.entries next.end) (sym place) ∙ sym (record_text (entry_at page block length valid complete) next.entries next.end))
              ∙ subst TextOf step puts.text;
        }

    at_end : item_at used numbers pages page ≡ Ok End
        → ((log used numbers pages).fault ≡ first_written pages page (used - page)) × (now ≡ old ++ log_text 2 (log used numbers pages).entries (log used numbers pages).end)
    at_end found =
        let step = log_step used numbers pages page (Ok End) puts.below found in
        (puts.fault ∙ ap (λ (l : LogFrom). l.fault) step, sym (append-nil now) ∙ ap (λ (l : List ℕ). now ++ l) (sym (end_text page)) ∙ subst TextOf step puts.text)

    -- All was put, or a page after the end is written.
    pub puts_all : (whole : Bool) → item_at used numbers pages page ≡ Ok End → (whole ≡ true → first_written pages page (used - page) ≡ None)
        → (whole ≡ false → first_written pages page (used - page) ≢ None) → IsListed whole (log used numbers pages) old now
    puts_all true found none written = ((at_end found).0 ∙ none refl, (at_end found).1)
    puts_all false found none written = λ fine. written refl (sym (at_end found).0 ∙ fine)

    -- An item at fault is one of the log.
    pub puts_fault : (at : ℕ) → item_at used numbers pages page ≡ Err at → IsListed false (log used numbers pages) old now
    puts_fault at found = λ fine.
        let no : Some at ≡ None = sym (puts.fault ∙ ap (λ (l : LogFrom). l.fault) (log_step used numbers pages page (Err at) puts.below found)) ∙ fine in absurd (cc no)

-- An item that was not returned is at fault, where no read failed.
pub fault_told : (sector : ℕ) (at : Result Item ℕ) (fault : PageFault) → TellsOrFails {T = Item} (Err fault) (told sector at) → fault ≢ Flash → (page : ℕ) × (at ≡ Err page)
fault_told sector (Ok item) fault tells other = ⊎_elim (λ same. absurd (other (cc same))) (λ no. absurd (cc no)) tells
fault_told sector (Err page) fault tells other = (page, refl)

-- Whether the pages after the end are blank, where no read failed.
pub blank_told : (sector : ℕ) (written : Option ℕ) (r : Result (Unit {0}) PageFault) → TellsOrFails r (told_fault sector written) → r ≢ Err Flash → (blank : Bool) → blank ≡ is_ok r
    → (blank ≡ true → written ≡ None) × (blank ≡ false → written ≢ None)
blank_told sector None (Ok done) tells other blank is = (λ e. refl, λ e. absurd (let no : true ≡ false = sym is ∙ e in cc no))
blank_told sector None (Err fault) tells other blank is = absurd (⊎_elim other (λ no. cc no) tells)
blank_told sector (Some page) (Ok done) tells other blank is = absurd (⊎_elim other (λ no. cc no) tells)
blank_told sector (Some page) (Err fault) tells other blank is = (λ e. absurd (let no : false ≡ true = sym is ∙ e in cc no), λ e. λ none. absurd (cc none))
