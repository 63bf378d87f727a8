-- The log from a page on: that its fuel suffices, where it ends, and that it goes on from each page that it reaches.
use Rattle.std.proofs.Common.{◌≡◌, ◌+◌, ◌-◌, ◌<◌, ◌≤◌, ℕ, zero, suc, Bool, true, false, List, [], ◌∷◌, ◌++◌, get_or, Option, Some, None, Result, Ok, Err, inl, inr, append_assoc, refl, sym, ◌∙◌, ap, subst, arith}
use Rattle.std.specs.Prelude.{IfSome, if◌then◌else◌}
use Rattle.std.proofs.lemmas.Bool.{cases_eq}
use Rattle.flt_flash.specs.Blocks.{byte_pages, record_pages}
use Rattle.flt_sector_model.specs.Page.{is_blank}
use Rattle.flt_sector_model.specs.Log.{Entry, LogFrom, item_at, first_written, with_entry, log_after, log_from, log}
use Rattle.flt_sector_model.specs.declared.log.Item.{Item}
use Rattle.flt_sector_model.specs.declared.log.Item.TheVariants.{End, Torn, Kept}
use Rattle.flt_sector_model.specs.Reached.{IsReached, begins, behind_torn, behind_record}
use Rattle.flt_sector_model.specs.Laws.{EndsWithin}
use Rattle.flt_sector_model.proofs.Items.{ends, torn, kept, nothing, other, stands}
use Rattle.flt_sector_model.proofs.Told.{at_torn, at_record}

module _ (used : ℕ) (numbers : List ℕ) (pages : List (List ℕ)) where
  -- The log with as many items as there are used pages.
  abbrev pub log_on : ℕ → LogFrom
  log_on page = log_from used numbers pages page (used + 1)

  -- An item and the log after it, where two logs after it are equal.
  after_same : (page : ℕ) (first second : ℕ → LogFrom) → page ≤ used → ((next : ℕ) → page < next → next ≤ used → first next ≡ second next)
      → log_after used pages page first (item_at used numbers pages page) ≡ log_after used pages page second (item_at used numbers pages page)
  after_same page first second below same = elim (stands used numbers pages page below) [
    | ends how told ↦ by (Ok End) told refl
    | torn is told ↦ by (Ok Torn) told (same (page + 1) (omega arith) (omega (arith, is.within)))
    | kept block size valid complete is told ↦
        by (Ok (Kept block size valid complete)) told
        (ap (with_entry (record { page = page; block = block; length = size; valid = valid; complete = complete })) (same (page + 2 + byte_pages size) (omega arith) (omega (arith, is.head.within))))
    | nothing is told ↦ by (Err page) told refl
    | other block size valid is told ↦ by (Err (page + 1 + byte_pages size)) told refl
  ]
    where
      by : (item : Result Item ℕ) → item_at used numbers pages page ≡ item → log_after used pages page first item ≡ log_after used pages page second item
          → log_after used pages page first (item_at used numbers pages page) ≡ log_after used pages page second (item_at used numbers pages page)
      by item told is = ap (log_after used pages page first) told ∙ is ∙ sym (ap (log_after used pages page second) told)

  -- More fuel than there are used pages changes nothing.
  pub enough : (left more page : ℕ) → page ≤ used → used < page + left → log_from used numbers pages page (left + more) ≡ log_from used numbers pages page left
  unfolding log_from
  enough zero more page below fuel = absurd (omega (arith, below, fuel))
  enough (suc left) more page below fuel =
      let count : suc left + more ≡ suc (left + more) = omega arith in
      ap (log_from used numbers pages page) count
      ∙ after_same page (λ next. log_from used numbers pages next (left + more)) (λ next. log_from used numbers pages next left) below (λ next past within. enough left more next within (omega (arith, past, fuel)))

  -- The log continues after each item.
  pub log_step : (page : ℕ) (item : Result Item ℕ) → page ≤ used → item_at used numbers pages page ≡ item → log_on page ≡ log_after used pages page log_on item
  unfolding log_from
  log_step page item below told =
      let count : used + 1 ≡ suc used = omega arith in
      ap (log_from used numbers pages page) count
      ∙ after_same page (λ next. log_from used numbers pages next used) log_on below (λ next past within. sym (enough used 1 next within (omega (arith, past))))
      ∙ ap (log_after used pages page log_on) told

  pub whole : (left : ℕ) → 2 ≤ used → used < 2 + left → log_from used numbers pages 2 left ≡ log used numbers pages
  whole left least fuel =
      let count : left + (used + 1) ≡ used + 1 + left = omega arith in
      sym (enough left (used + 1) 2 least fuel) ∙ ap (log_from used numbers pages 2) count ∙ enough (used + 1) left 2 least (omega arith)

  -- ---- the pages after the end
  pub record IsFirstWritten (page to written : ℕ) : Type 0 where
    pub from : page ≤ written
    pub below : written < to
    pub blank : (k : ℕ) → page ≤ k → k < written → is_blank (get_or pages k []) ≡ true
    pub is : is_blank (get_or pages written []) ≡ false

  pub written_found : (left page to written : ℕ) → page + left ≡ to → first_written pages page left ≡ Some written → IsFirstWritten page to written
  written_found zero page to written at found = absurd (cc found)
  written_found (suc left) page to written at found = by_test (written_found left (page + 1) to written (omega (arith, at))) (is_blank (get_or pages page [])) refl found
    where
      by_test : (first_written pages (page + 1) left ≡ Some written → IsFirstWritten (page + 1) to written) → (test : Bool) → is_blank (get_or pages page []) ≡ test → (if test then first_written pages (page + 1) left else Some page) ≡ Some written → IsFirstWritten page to written
      by_test onward false is told =
          let here : page ≡ written = cc in
          subst (IsFirstWritten page to) here (record { from = omega arith; below = omega (arith, at); blank = λ k low high. absurd (omega (arith, low, high)); is = is })
      by_test onward true is told =
          let rest = onward told in
          record {
            from = omega (arith, rest.from);
            below = rest.below;
            blank = λ k low high. elim (cases_eq k page) [ inl here ↦ ap (λ (n : ℕ). is_blank (get_or pages n [])) here ∙ is | inr later ↦ rest.blank k (omega (arith, low, later)) high ];
            is = rest.is;
          }

  pub found_written : (left page to written : ℕ) → page + left ≡ to → IsFirstWritten page to written → first_written pages page left ≡ Some written
  found_written zero page to written at is = absurd (omega (arith, at, is.from, is.below))
  found_written (suc left) page to written at is = elim (cases_eq page written) [
    | inl here ↦ ap (λ (b : Bool). if b then first_written pages (page + 1) left else Some page) (ap (λ (n : ℕ). is_blank (get_or pages n [])) here ∙ is.is) ∙ ap Some here
    | inr earlier ↦
        ap (λ (b : Bool). if b then first_written pages (page + 1) left else Some page) (is.blank page (omega arith) (omega (arith, is.from, earlier)))
        ∙ found_written left (page + 1) to written (omega (arith, at))
        (record { from = omega (arith, is.from, earlier); below = is.below; blank = λ k low high. is.blank k (omega (arith, low)) high; is = is.is })
  ]

  -- ---- where the log ends
  record Between (from : ℕ) (l : LogFrom) : Type 0 where
    least : from ≤ l.end
    most : l.end ≤ used
    there : IfSome l.fault (λ page. (from ≤ page) × (page < used))

  between : (left page : ℕ) → page ≤ used → Between page (log_from used numbers pages page left)
  unfolding log_from
  between zero page below = record { least = omega arith; most = below; there = tt }
  between (suc left) page below = elim (stands used numbers pages page below) [
    | ends how told ↦ by (Ok End) told (record { least = omega arith; most = below; there = behind (first_written pages page (used - page)) refl })
    | torn is told ↦ by (Ok Torn) told (further (page + 1) (omega arith) (between left (page + 1) (omega (arith, is.within))))
    | kept block size valid complete is told ↦ by (Ok (Kept block size valid complete)) told
        (let rest = further (page + 2 + byte_pages size) (omega arith) (between left (page + 2 + byte_pages size) (omega (arith, is.head.within))) in
        record { least = rest.least; most = rest.most; there = rest.there })
    | nothing is told ↦ by (Err page) told (record { least = omega arith; most = below; there = (omega arith, is.within) })
    | other block size valid is told ↦ by (Err (page + 1 + byte_pages size)) told (record { least = omega arith; most = below; there = (omega arith, omega (arith, is.head.within)) })
  ]
    where
      by : (item : Result Item ℕ) → item_at used numbers pages page ≡ item → Between page (log_after used pages page (λ next. log_from used numbers pages next left) item)
          → Between page (log_after used pages page (λ next. log_from used numbers pages next left) (item_at used numbers pages page))
      by item told is = subst (λ (i : Result Item ℕ). Between page (log_after used pages page (λ next. log_from used numbers pages next left) i)) (sym told) is

      there_from : (next : ℕ) (fault : Option ℕ) → page ≤ next → IfSome fault (λ p. (next ≤ p) × (p < used)) → IfSome fault (λ p. (page ≤ p) × (p < used))
      there_from next None past is = tt
      there_from next (Some p) past is = (omega (arith, past, is.0), is.1)

      further : (next : ℕ) → page ≤ next → {l : LogFrom} → Between next l → Between page l
      further next past {l} is = record { least = omega (arith, past, is.least); most = is.most; there = there_from next l.fault past is.there }

      behind : (fault : Option ℕ) → first_written pages page (used - page) ≡ fault → IfSome fault (λ p. (page ≤ p) × (p < used))
      behind None is = tt
      behind (Some p) is = let found = written_found (used - page) page used p (omega (arith, below)) is in (found.from, found.below)

  pub ends_within : 2 ≤ used → EndsWithin used (log used numbers pages).end (log used numbers pages).fault
  ends_within least = let is = between (used + 1) 2 least in record { least = is.least; most = is.most; there = is.there }

  -- ---- the log goes on from each page that it reaches
  pub record GoesOn (page : ℕ) : Type 0 where
    pub least : 2 ≤ page
    pub below : page ≤ used
    pub before : List Entry
    pub entries : (log used numbers pages).entries ≡ before ++ (log_on page).entries
    pub end : (log used numbers pages).end ≡ (log_on page).end
    pub fault : (log used numbers pages).fault ≡ (log_on page).fault

  pub goes_on : (page : ℕ) → 2 ≤ used → IsReached used numbers pages page → GoesOn page
  goes_on _ least begins = record { least = omega arith; below = least; before = []; entries = refl; end = refl; fault = refl }
  goes_on _ least (behind_torn {page} reached is) =
      let was = goes_on page least reached in
      let step : log_on page ≡ log_on (page + 1) = log_step page (Ok Torn) was.below (at_torn used numbers pages page is) in
      record {
        least = omega (arith, was.least);
        below = omega (arith, is.within);
        before = was.before;
        entries = was.entries ∙ ap (λ (l : LogFrom). was.before ++ l.entries) step;
        end = was.end ∙ ap (λ (l : LogFrom). l.end) step;
        fault = was.fault ∙ ap (λ (l : LogFrom). l.fault) step;
      }
  goes_on _ least (behind_record {page} {block} {length = size} {valid} {complete} reached is) =
      let was = goes_on page least reached in
      let entry : Entry = record { page = page; block = block; length = size; valid = valid; complete = complete } in
      let next : page + 2 + byte_pages size ≡ page + record_pages size = omega arith in
      let step : log_on page ≡ with_entry entry (log_on (page + record_pages size)) =
      log_step page (Ok (Kept block size valid complete)) was.below (at_record used numbers pages page block size valid complete is) ∙ ap (λ (n : ℕ). with_entry entry (log_on n)) next in
      record {
        least = omega (arith, was.least);
        below = is.head.within;
        before = was.before ++ entry ∷ [];
        entries = was.entries ∙ ap (λ (l : LogFrom). was.before ++ l.entries) step ∙ sym (append_assoc was.before (entry ∷ []) (log_on (page + record_pages size)).entries);
        end = was.end ∙ ap (λ (l : LogFrom). l.end) step;
        fault = was.fault ∙ ap (λ (l : LogFrom). l.fault) step;
      }
