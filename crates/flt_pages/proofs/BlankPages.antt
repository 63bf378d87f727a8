-- The first written page from a page on, and pages that are blank from one on.
use Rattle.std.proofs.Common.{◌≡◌, ◌+◌, ◌-◌, ◌<◌, ℕ, zero, suc, Bool, true, false, not, List, [], get_or, Some, None, inl, inr, refl, sym, ◌∙◌, ap, arith}
use Rattle.std.specs.Prelude.{if◌then◌else◌}
use Rattle.std.proofs.lemmas.Bool.{cases_eq}
use Rattle.std.proofs.lemmas.Slice.Eq.{bytes_eq-Decides}
use Rattle.flt_flash.specs.Image.{blank_page}
use Rattle.flt_sector_model.specs.Page.{is_blank}
use Rattle.flt_sector_model.specs.Log.{first_written}
use Rattle.flt_pages.specs.Blank.{AreBlank}

module _ (pages : List (List ℕ)) (used page : ℕ) (within : page < used) (bytes : List ℕ) (is : bytes ≡ get_or pages page []) where
  step : (test : Bool) → is_blank bytes ≡ test → first_written pages page (used - page) ≡ (if test then first_written pages (page + 1) (used - (page + 1)) else Some page)
  step test blank =
      let left : used - page ≡ suc (used - (page + 1)) = omega arith in
      ap (first_written pages page) left
      ∙ ap (λ b. if b then first_written pages (page + 1) (used - (page + 1)) else Some page) (ap (λ (l : List ℕ). is_blank l) (sym is) ∙ blank)

  pub blank_here : is_blank bytes ≡ true → first_written pages page (used - page) ≡ first_written pages (page + 1) (used - (page + 1))
  blank_here blank = step true blank

  pub written_here : is_blank bytes ≡ false → first_written pages page (used - page) ≡ Some page
  written_here written = step false written

pub unless : (test : Bool) → true ≡ not test → test ≡ false
unless true is = absurd (cc is)
unless false is = refl

pub lest : (test : Bool) → false ≡ not test → test ≡ true
lest true is = refl
lest false is = absurd (cc is)

pub is_blank-blank : (page : List ℕ) → page ≡ blank_page → is_blank page ≡ true
is_blank-blank page is = (bytes_eq-Decides page blank_page).1 is

pub blank_from_test : (page : List ℕ) → is_blank page ≡ true → page ≡ blank_page
blank_from_test page is = (bytes_eq-Decides page blank_page).0 is

pub none_written : (pages : List (List ℕ)) (left page to : ℕ) → page + left ≡ to → AreBlank pages page to → first_written pages page left ≡ None
none_written pages zero page to sum blank = refl
none_written pages (suc left) page to sum blank =
    ap (λ b. if b then first_written pages (page + 1) left else Some page) (is_blank-blank (get_or pages page []) (blank page (omega arith) (omega arith)))
    ∙ none_written pages left (page + 1) to (omega arith) (λ k low high. blank k (omega arith) high)

pub all_blank : (pages : List (List ℕ)) (left page to : ℕ) → page + left ≡ to → first_written pages page left ≡ None → AreBlank pages page to
all_blank pages zero page to sum none = λ k low high. absurd (omega arith)
all_blank pages (suc left) page to sum none = by_test (λ told. all_blank pages left (page + 1) to (omega arith) told) (is_blank (get_or pages page [])) refl none
  where
    by_test : (first_written pages (page + 1) left ≡ None → AreBlank pages (page + 1) to)
        → (test : Bool) → test ≡ is_blank (get_or pages page []) → (if test then first_written pages (page + 1) left else Some page) ≡ None → AreBlank pages page to
    by_test onward false is told = absurd (cc told)
    by_test onward true is told = λ k low high. elim (cases_eq k page) [
      | inl same ↦ rw same (blank_from_test (get_or pages page []) (sym is))
      | inr other ↦ onward told k (omega arith) high
    ]
