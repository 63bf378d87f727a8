-- The lines of an image, by what its gates were read as.
use Rattle.std.proofs.Common.{◌≡◌, ◌≢◌, ℕ, Bool, true, false, List, [], ◌∷◌, ◌++◌, Option, Some, None, Ok, refl, sym, ◌∙◌, ap, subst}
use Rattle.std.specs.Prelude.{codes}
use Rattle.flt_flash.specs.Image.{sector_at}
use Rattle.flt_sector_model.specs.Log.{LogFrom, log}
use Rattle.flt_sector_model.specs.Blocks.{current}
use Rattle.flt_pages.specs.Told.{current_of}
use Rattle.flt_pages.specs.declared.current.CurrentSector.{CurrentSector}
use Rattle.flt_dump.specs.Listed.{IsListed}
use Rattle.flt_dump.specs.Listing.{listing_by, listing_in, listing_text, sector_line}

module _ (used : ℕ) (numbers : List ℕ) (image : List (List (List ℕ))) where
  pub lists_no_sector : current used image ≡ Ok None → codes "no sector" ++ 10 ∷ [] ≡ listing_text used numbers image
  lists_no_sector none = sym (ap (listing_by used numbers image) none)

  module _ (at : CurrentSector) (here : current used image ≡ Ok (Some (current_of at))) where
    abbrev here_log : LogFrom
    here_log = log used numbers (sector_at image at.sector)

    by_log : listing_text used numbers image ≡ listing_in (current_of at) here_log here_log.fault
    by_log = ap (listing_by used numbers image) here

    pub lists_log : (text : List ℕ) → IsListed true here_log (sector_line (current_of at)) text → text ≡ listing_text used numbers image
    lists_log text listed = listed.1 ∙ sym (ap (listing_in (current_of at) here_log) listed.0) ∙ sym by_log

    faulty : (fault : Option ℕ) → fault ≢ None → listing_in (current_of at) here_log fault ≡ []
    faulty None some = absurd (some refl)
    faulty (Some page) some = refl

    pub lists_no_log : (before text : List ℕ) → IsListed false here_log before text → [] ≡ listing_text used numbers image
    lists_no_log before text listed = sym (by_log ∙ faulty here_log.fault listed)

    -- The lines of a log without a fault, and none of one with a fault.
    pub lists_either : (whole : Bool) (before text : List ℕ) → before ≡ sector_line (current_of at) → IsListed whole here_log before text
        → (whole ≡ true → text ≡ listing_text used numbers image) × (whole ≡ false → [] ≡ listing_text used numbers image)
    lists_either true before text line listed = (
      λ is. lists_log text (subst (λ (l : List ℕ). IsListed true here_log l text) line listed),
      λ is. absurd (let no : true ≡ false = is in cc no),
    )
    lists_either false before text line listed = (
      λ is. absurd (let no : false ≡ true = is in cc no),
      λ is. lists_no_log before text listed,
    )
