-- The last complete record of a block, while a log without a fault is looked at.
use Rattle.std.proofs.Common.{◌≡◌, ◌+◌, ◌≤◌, ℕ, Bool, true, false, List, length, Option, Some, None, Ok, refl, sym, ◌∙◌, ap, arith}
use Rattle.std.specs.Prelude.{if◌then◌else◌, ◌==◌, ◌&&◌, nat_le, IfSome}
use Rattle.std.proofs.lemmas.Bool.{eqb-true, leb-true}
use Rattle.flt_flash.specs.Image.{ArePages}
use Rattle.flt_flash.specs.Blocks.{byte_pages, record_pages, pages_of}
use Rattle.flt_code.specs.Word.{is_length}
use Rattle.flt_sector_model.specs.Log.{Entry, LogFrom, item_at, log}
use Rattle.flt_sector_model.specs.Blocks.{content_of, or_earlier, last_complete}
use Rattle.flt_sector_model.specs.declared.log.Item.TheVariants.{End, Torn, Kept}
use Rattle.flt_pages.specs.Told.{told}
use Rattle.flt_pages.specs.declared.place.RecordPlace.{RecordPlace}
use Rattle.flt_pages.specs.Live.{held_in}
use Rattle.flt_pages.specs.RecordPlace.{record_at, record_found, IsPlaceWithin, IsInLog, IsAt, content_at, pages_found}
use Rattle.flt_sector_model.proofs.Logged.{log_on, log_step}
use Rattle.flt_pages.proofs.ItemPages.{item_within}
use Rattle.flt_pages.proofs.Proper.{proper_item}
use Rattle.flt_pages.proofs.PageBytes.{content_pages}

-- A later record, or else the one found so far.
abbrev pub or_found : Option Entry → Option Entry → Option Entry
or_found (Some later) found = Some later
or_found None found = found

nothing_found : (later : Option Entry) → or_found later None ≡ later
nothing_found (Some later) = refl
nothing_found None = refl

-- A log that goes on.
pub inside_on : (end last : ℕ) → end ≤ last → (found : Option RecordPlace) → IfSome found (λ place. IsInLog end place) → IfSome found (λ place. IsInLog last place)
inside_on end last on None inside = tt
inside_on end last on (Some place) inside = record { begun = inside.begun; within = record { below = omega (arith, inside.within.below); kind = inside.within.kind } }

-- The last record of the block in the log from a page on, or else the one found so far, is that of the whole log.
pub record Seeks (used : ℕ) (numbers : List ℕ) (pages : List (List ℕ)) (block page : ℕ) (found : Option RecordPlace) : Type 0 where
  pub least : 2 ≤ page
  pub below : page ≤ used
  pub last : last_complete block (log used numbers pages).entries ≡ or_found (last_complete block (log_on used numbers pages page).entries) (record_found block found)
  pub inside : IfSome found (λ place. IsInLog page place)

pub length_most : (valid : Bool) (size : ℕ) → is_length valid size ≡ true → size ≤ 128
length_most true size kind = by_tests (nat_le 1 size) (nat_le size 128) refl kind
  where
    by_tests : (a b : Bool) → b ≡ nat_le size 128 → (a && b) ≡ true → size ≤ 128
    by_tests true true is told = leb-true size 128 (sym is)
    by_tests true false is told = absurd (cc told)
    by_tests false b is told = absurd (cc told)
length_most false size kind = omega (arith, eqb-true size 0 kind)

module _ (used : ℕ) (numbers : List ℕ) (pages : List (List ℕ)) (block : ℕ) where
  pub seek : 2 ≤ used → Seeks used numbers pages block 2 None
  seek least = record {
    least = omega arith;
    below = least;
    last = sym (nothing_found (last_complete block (log used numbers pages).entries));
    inside = tt;
  }

  module _ (page : ℕ) (found : Option RecordPlace) (is : Seeks used numbers pages block page found) where
    pub found_last : item_at used numbers pages page ≡ Ok End → last_complete block (log used numbers pages).entries ≡ record_found block found
    found_last here = is.last ∙ ap (λ (l : LogFrom). or_found (last_complete block l.entries) (record_found block found)) (log_step used numbers pages page (Ok End) is.below here)

    -- What the block holds, at the end of the log.
    pub found_at : item_at used numbers pages page ≡ Ok End → IsAt pages page (held_in used numbers pages block) found
    found_at here = record { holds = ap (content_of pages) (found_last here) ∙ content_found found; inside = is.inside }
      where
        content_found : (found : Option RecordPlace) → content_of pages (record_found block found) ≡ content_at pages found
        content_found None = refl
        content_found (Some place) = refl

    pub seek_on : item_at used numbers pages page ≡ Ok Torn → Seeks used numbers pages block (page + 1) found
    seek_on here = record {
      least = omega (arith, is.least);
      below = item_within used numbers pages page Torn (λ e. cc e) is.below here;
      last = is.last ∙ ap (λ (l : LogFrom). or_found (last_complete block l.entries) (record_found block found)) (log_step used numbers pages page (Ok Torn) is.below here);
      inside = inside_on page (page + 1) (omega arith) found is.inside;
    }

    -- A record that is here.
    module _ (of size : ℕ) (valid complete : Bool) (here : item_at used numbers pages page ≡ Ok (Kept of size valid complete)) where
      pub record_room : page + record_pages size ≤ used
      record_room = item_within used numbers pages page (Kept of size valid complete) (λ e. cc e) is.below here

      abbrev place : RecordPlace
      place = record { page = page; length = size; valid = valid }

      joined : (later : Option Entry) → or_found (or_earlier later (record { page = page; block = of; length = size; valid = valid; complete = complete }) block) (record_found block found)
          ≡ or_found later (record_found block (if complete && (of == block) then Some (record { page = page; length = size; valid = valid }) else found))
      joined (Some later) = refl
      joined None = by_tests complete (of == block) refl
        where
          by_tests : (whole same : Bool) → same ≡ (of == block)
              → or_found (if whole && same then Some (record { page = page; block = of; length = size; valid = valid; complete = whole }) else None) (record_found block found)
              ≡ record_found block (if whole && same then Some (record { page = page; length = size; valid = valid }) else found)
          by_tests true true is = (let one : of ≡ block = eqb-true of block (sym is) in λ i. Some (record { page = page; block = one i; length = size; valid = valid; complete = true }))
          by_tests true false is = refl
          by_tests false same is = refl

      now_inside : IfSome (if complete && (of == block) then Some (record { page = page; length = size; valid = valid }) else found) (λ place. IsInLog (page + 2 + byte_pages size) place)
      now_inside = by_test (complete && (of == block))
        where
          by_test : (test : Bool) → IfSome (if test then Some (record { page = page; length = size; valid = valid }) else found) (λ place. IsInLog (page + 2 + byte_pages size) place)
          by_test true = record { begun = is.least; within = record { below = omega arith; kind = (proper_item used numbers pages page of size valid complete here).kind } }
          by_test false = inside_on page (page + 2 + byte_pages size) (omega arith) found is.inside

      pub seek_behind : Seeks used numbers pages block (page + 2 + byte_pages size) (if complete && (of == block) then Some (record { page = page; length = size; valid = valid }) else found)
      seek_behind = record {
        least = omega (arith, is.least);
        below = omega (arith, record_room);
        last = is.last
            ∙ ap (λ (l : LogFrom). or_found (last_complete block l.entries) (record_found block found)) (log_step used numbers pages page (Ok (Kept of size valid complete)) is.below here)
            ∙ joined (last_complete block (log_on used numbers pages (page + 2 + byte_pages size)).entries);
        inside = now_inside;
      }

-- The pages of the record that was found are those of what its block holds.
pub found_pages : (used : ℕ) (pages : List (List ℕ)) (sizes : ArePages pages) → used ≤ length pages → (block : ℕ) (found : Option RecordPlace) → IfSome found (λ place. IsPlaceWithin used place)
    → pages_of (content_of pages (record_found block found)) ≡ pages_found found
found_pages used pages sizes most block None within = refl
found_pages used pages sizes most block (Some place) within = content_pages pages sizes (record_at block place) (omega (arith, within.below)) within.kind
