-- The pages of the records of a log, and of the current ones among them.
use Rattle.std.proofs.Common.{◌≡◌, ◌≢◌, ◌+◌, ◌<◌, ◌≤◌, ℕ, zero, suc, Bool, true, false, List, [], ◌∷◌, get_or, length, length-take, Option, Some, None, Result, Ok, Err, refl, sym, ◌∙◌, ap, arith}
use Rattle.std.specs.Prelude.{if◌then◌else◌, ◌==◌, ◌&&◌, sum_by, slice_range}
use Rattle.std.specs.List.{list_any, AllPairs, flat_map}
use Rattle.std.proofs.lemmas.Bool.{eqb-true}
use Rattle.std.proofs.lemmas.List.Sums.{sum_by-cons}
use Rattle.flt_flash.specs.Content.{invalid, bytes}
use Rattle.flt_flash.specs.Blocks.{byte_pages, record_pages, pages_of}
use Rattle.flt_sector_model.specs.Log.{Entry, LogFrom, item_at, log_after, log_from, log}
use Rattle.flt_sector_model.specs.Blocks.{or_earlier, last_complete, bytes_behind, content_of}
use Rattle.flt_sector_model.specs.declared.log.Item.{Item}
use Rattle.flt_sector_model.specs.declared.log.Item.TheVariants.{End, Torn, Kept}
use Rattle.flt_pages.proofs.ItemPages.{item_within}
use Rattle.flt_pages.specs.Live.{held_in, current_pages}
use Rattle.flt_pages.proofs.LogOn.{end_most}
use Rattle.flt_pages.proofs.Proper.{proper_item}

-- The pages of a record.
abbrev pub entry_pages : Entry → ℕ
entry_pages entry = record_pages entry.length

-- Each record is of one of the numbers.
abbrev pub AllAmong : List ℕ → List Entry → Type 0
AllAmong numbers [] = Unit {0}
AllAmong numbers (entry ∷ rest) = (list_any (λ number. number == entry.block) numbers ≡ true) × AllAmong numbers rest

-- The records from a page on take no more pages than there are up to the end, and are of the numbers.
pub record Counted (numbers : List ℕ) (page : ℕ) (rest : LogFrom) : Type 0 where
  pub total : page + sum_by entry_pages rest.entries ≤ rest.end
  pub among : AllAmong numbers rest.entries

module _ (used : ℕ) (numbers : List ℕ) (pages : List (List ℕ)) where
  pub counted : (left page : ℕ) → used < page + left → page ≤ used → (log_from used numbers pages page left).fault ≡ None → Counted numbers page (log_from used numbers pages page left)
  unfolding log_from
  counted zero page enough below fine = absurd (omega arith)
  counted (suc left) page enough below fine =
      by_item (λ next more onto. counted left next more onto) (item_at used numbers pages page) refl fine
    where
      by_item : ((next : ℕ) → used < next + left → next ≤ used → (log_from used numbers pages next left).fault ≡ None → Counted numbers next (log_from used numbers pages next left))
          → (item : Result Item ℕ) → item ≡ item_at used numbers pages page → (log_after used pages page (λ next. log_from used numbers pages next left) item).fault ≡ None
          → Counted numbers page (log_after used pages page (λ next. log_from used numbers pages next left) item)
      by_item onward (Err fault) here told = absurd (cc told)
      by_item onward (Ok End) here told = record { total = omega arith; among = tt }
      by_item onward (Ok Torn) here told =
          let fits = item_within used numbers pages page Torn (λ e. cc e) below (sym here) in
          let on = onward (page + 1) (omega arith) (omega (arith, fits)) told in
          record { total = omega (arith, on.total); among = on.among }
      by_item onward (Ok (Kept block size valid complete)) here told =
          let fits = item_within used numbers pages page (Kept block size valid complete) (λ e. cc e) below (sym here) in
          let on = onward (page + 2 + byte_pages size) (omega arith) (omega (arith, fits)) told in
          let entry : Entry = record { page = page; block = block; length = size; valid = valid; complete = complete } in
          record {
            total = omega (arith, on.total, sum_by-cons entry_pages entry (log_from used numbers pages (page + 2 + byte_pages size) left).entries);
            among = ((proper_item used numbers pages page block size valid complete (sym here)).among, on.among);
          }

-- A number that no record is of has no last one.
no_last : (numbers : List ℕ) (block : ℕ) (entries : List Entry) → list_any (λ number. number == block) numbers ≡ false → AllAmong numbers entries → last_complete block entries ≡ None
no_last numbers block [] apart among = refl
no_last numbers block (entry ∷ rest) apart among =
    ap (λ later. or_earlier later entry block) (no_last numbers block rest apart among.1) ∙ by_tests entry.complete (entry.block == block) refl
  where
    by_tests : (complete same : Bool) → same ≡ (entry.block == block) → (if complete && same then Some entry else None) ≡ None
    by_tests false same is = refl
    by_tests true false is = refl
    by_tests true true is =
        let one : entry.block ≡ block = eqb-true entry.block block (sym is) in
        absurd (cc (ap (λ b. list_any (λ number. number == b) numbers) one, among.0, apart))

pub unnumbered : (used : ℕ) (numbers : List ℕ) (pages : List (List ℕ)) (block : ℕ) → 2 ≤ used → (log used numbers pages).fault ≡ None → list_any (λ number. number == block) numbers ≡ false
    → last_complete block (log used numbers pages).entries ≡ None
unnumbered used numbers pages block least fine apart =
    no_last numbers block (log used numbers pages).entries apart (counted used numbers pages (used + 1) 2 (omega arith) least fine).among

-- Sums over the numbers.
sum_most : (f g h : ℕ → ℕ) → ((x : ℕ) → f x ≤ g x + h x) → (xs : List ℕ) → sum_by f xs ≤ sum_by g xs + sum_by h xs
sum_most f g h most [] = omega arith
sum_most f g h most (x ∷ xs) = omega (arith, sum_by-cons f x xs, sum_by-cons g x xs, sum_by-cons h x xs, most x, sum_most f g h most xs)

abbrev share : ℕ → ℕ → ℕ → ℕ
share block pages number = if block == number then pages else 0

later_distinct : (x : ℕ) (xs : List ℕ) → AllPairs (λ a b. a ≢ b) (x ∷ xs) → AllPairs (λ a b. a ≢ b) xs
later_distinct x xs distinct i j d below within = distinct (suc i) (suc j) d (omega arith) (omega arith)

no_share : (block pages : ℕ) (xs : List ℕ) → ((k : ℕ) → k < length xs → block ≢ get_or xs k 0) → sum_by (share block pages) xs ≡ 0
no_share block pages [] apart = refl
no_share block pages (x ∷ xs) apart =
    sum_by-cons (share block pages) x xs ∙ by_test (no_share block pages xs (λ k within. apart (suc k) (omega arith))) (block == x) refl
  where
    by_test : sum_by (share block pages) xs ≡ 0 → (test : Bool) → test ≡ (block == x) → (if test then pages else 0) + sum_by (share block pages) xs ≡ 0
    by_test none true is = absurd (apart 0 (omega arith) (eqb-true block x (sym is)))
    by_test none false is = omega (arith, none)

one_share : (block pages : ℕ) (xs : List ℕ) → AllPairs (λ a b. a ≢ b) xs → sum_by (share block pages) xs ≤ pages
one_share block pages [] distinct = omega arith
one_share block pages (x ∷ xs) distinct = omega (arith, sum_by-cons (share block pages) x xs, by_test (one_share block pages xs (later_distinct x xs distinct)) (block == x) refl)
  where
    by_test : sum_by (share block pages) xs ≤ pages → (test : Bool) → test ≡ (block == x) → (if test then pages else 0) + sum_by (share block pages) xs ≤ pages
    by_test most true is =
        let here : block ≡ x = eqb-true block x (sym is) in
        omega (arith, no_share block pages xs (λ k within same. distinct 0 (suc k) 0 (omega arith) (omega arith) (sym here ∙ same)))
    by_test most false is = omega (arith, most)

-- The pages of the current record of a block.
abbrev pub cost : Option Entry → ℕ
cost None = 0
cost (Some entry) = entry_pages entry

cost_more : (entry : Entry) (rest : List Entry) (number : ℕ) → cost (last_complete number (entry ∷ rest)) ≤ cost (last_complete number rest) + share entry.block (entry_pages entry) number
cost_more entry rest number = by_later (last_complete number rest)
  where
    by_tests : (complete same : Bool) → cost (if complete && same then Some entry else None) ≤ 0 + (if same then entry_pages entry else 0)
    by_tests true true = omega arith
    by_tests true false = omega arith
    by_tests false same = omega arith

    by_later : (later : Option Entry) → cost (or_earlier later entry number) ≤ cost later + share entry.block (entry_pages entry) number
    by_later (Some e) = omega arith
    by_later None = by_tests entry.complete (entry.block == number)

costs : (numbers : List ℕ) → AllPairs (λ a b. a ≢ b) numbers → (entries : List Entry) → sum_by (λ number. cost (last_complete number entries)) numbers ≤ sum_by entry_pages entries
costs numbers distinct [] = omega (arith, nothing numbers)
  where
    nothing : (xs : List ℕ) → sum_by (λ number. cost (last_complete number [])) xs ≡ 0
    nothing [] = refl
    nothing (x ∷ xs) = omega (arith, sum_by-cons (λ number. cost (last_complete number [])) x xs, nothing xs)
costs numbers distinct (entry ∷ rest) = omega (
  arith,
  sum_by-cons entry_pages entry rest,
  one_share entry.block (entry_pages entry) numbers distinct,
  sum_most (λ number. cost (last_complete number (entry ∷ rest))) (λ number. cost (last_complete number rest)) (share entry.block (entry_pages entry)) (cost_more entry rest) numbers,
  costs numbers distinct rest,
)

-- The current records lie within the log.
pub current_at_most : (used : ℕ) (numbers : List ℕ) (pages : List (List ℕ)) → 2 ≤ used → AllPairs (λ a b. a ≢ b) numbers → (log used numbers pages).fault ≡ None
    → 2 + sum_by (λ number. cost (last_complete number (log used numbers pages).entries)) numbers ≤ (log used numbers pages).end
current_at_most used numbers pages least distinct fine =
    omega (arith, costs numbers distinct (log used numbers pages).entries, (counted used numbers pages (used + 1) 2 (omega arith) least fine).total)

sum_less : (f g : ℕ → ℕ) → ((x : ℕ) → f x ≤ g x) → (xs : List ℕ) → sum_by f xs ≤ sum_by g xs
sum_less f g less [] = omega arith
sum_less f g less (x ∷ xs) = omega (arith, sum_by-cons f x xs, sum_by-cons g x xs, less x, sum_less f g less xs)

-- What a record holds takes no more pages than the record.
content_cost : (pages : List (List ℕ)) (found : Option Entry) → pages_of (content_of pages found) ≤ cost found
content_cost pages None = omega arith
content_cost pages (Some entry) = by_valid entry.valid
  where
    by_valid : (valid : Bool) → pages_of (if valid then bytes (bytes_behind pages entry) else invalid) ≤ entry_pages entry
    by_valid true =
        omega (arith, length-take entry.length (flat_map (λ (page : List ℕ). page) (slice_range pages (entry.page + 1) (entry.page + 1 + byte_pages entry.length))))
    by_valid false = omega arith

module _ (used : ℕ) (numbers : List ℕ) (pages : List (List ℕ)) (least : 2 ≤ used) (fine : (log used numbers pages).fault ≡ None) where
  pub log_within : (log used numbers pages).end ≤ used
  log_within = end_most used numbers pages pages (log used numbers pages).entries (log used numbers pages).end least
      (λ i. record { entries = (log used numbers pages).entries; end = (log used numbers pages).end; fault = fine i }) (λ k low lt. refl)

  -- What the blocks hold lies within the log.
  pub live_within : AllPairs (λ a b. a ≢ b) numbers → 2 + current_pages used numbers pages ≤ (log used numbers pages).end
  live_within distinct =
      let records = current_at_most used numbers pages least distinct fine in
      let less = sum_less (λ number. pages_of (held_in used numbers pages number)) (λ number. cost (last_complete number (log used numbers pages).entries))
      (λ number. content_cost pages (last_complete number (log used numbers pages).entries)) numbers in
      omega (arith, records, less)
