-- What a table of places gives, while the log grows and after it moved.
use Rattle.std.proofs.Common.{◌≡◌, ◌+◌, ◌<◌, ◌≤◌, ℕ, suc, Bool, true, false, List, [], ◌∷◌, get_or, length, Option, Some, None, refl, sym, ◌∙◌, ap, subst, arith}
use Rattle.std.specs.Prelude.{◌==◌, ◌&&◌, if◌then◌else◌, IfSome, sum_by}
use Rattle.std.proofs.lemmas.List.Sums.{sum_by-cons}
use Rattle.flt_flash.specs.Image.{ArePages}
use Rattle.flt_flash.specs.Content.{Content, missing}
use Rattle.flt_flash.specs.Blocks.{byte_pages, pages_of}
use Rattle.flt_code.specs.Word.{is_length}
use Rattle.flt_pages.specs.declared.place.RecordPlace.{RecordPlace}
use Rattle.flt_pages.specs.LogHolds.{record_content, given}
use Rattle.flt_pages.specs.RecordPlace.{record_at, IsInLog, IsAt, IsPlaceOf, TellsPlaces, content_at, pages_found}
use Rattle.flt_pages.specs.Record.{IsWhole}
use Rattle.flt_pages.proofs.Finding.{found_pages, inside_on}
use Rattle.flt_pages.proofs.Values.{same_bytes}

-- A log that goes on.
pub farther_at : (pages : List (List ℕ)) (end last : ℕ) → end ≤ last → (content : Content) (found : Option RecordPlace) → IsAt pages end content found → IsAt pages last content found
farther_at pages end last on content found is = record { holds = is.holds; inside = inside_on end last on found is.inside }

-- Pages that agree below the end of the log.
module _ (pages after : List (List ℕ)) (end : ℕ) (size : length after ≡ length pages) (agree : (k : ℕ) → 2 ≤ k → k < end → get_or after k [] ≡ get_or pages k []) where
  same_held : (found : Option RecordPlace) → IfSome found (λ place. IsInLog end place) → content_at after found ≡ content_at pages found
  same_held None inside = refl
  same_held (Some place) inside = ap (record_content place.valid) (same_bytes pages after end size agree (record_at 0 place) inside.begun (omega (arith, inside.within.below)))

  pub still_at : (content : Content) (found : Option RecordPlace) → IsAt pages end content found → IsAt after end content found
  still_at content found is = record { holds = is.holds ∙ sym (same_held found is.inside); inside = is.inside }

  pub still_tells : (numbers : List ℕ) (places : List (Option RecordPlace)) (value : ℕ → Content) → TellsPlaces numbers places pages end value → TellsPlaces numbers places after end value
  still_tells numbers places value tells k within = still_at (value (get_or numbers k 0)) (get_or places k None) (tells k within)

-- A record at the end of the log.
module _ (pages after : List (List ℕ)) (end block : ℕ) (held : List ℕ) (valid : Bool) (begun : 2 ≤ end) (kind : is_length valid (length held) ≡ true) (whole : IsWhole pages after end block held valid) where
  pub new_at : IsAt after (end + (2 + byte_pages (length held))) (record_content valid held) (Some (record { page = end; length = length held; valid = valid }))
  new_at = record { holds = ap (record_content valid) (sym whole.holds); inside = record { begun = begun; within = record { below = omega arith; kind = kind } } }

  pub old_at : (content : Content) (found : Option RecordPlace) → IsAt pages end content found → IsAt after (end + (2 + byte_pages (length held))) content found
  old_at content found is =
      farther_at after end (end + (2 + byte_pages (length held))) (omega arith) content found (still_at pages after end whole.apart.size (λ j low lt. whole.apart.before j lt) content found is)

  -- The table with the record noted.
  module _ (numbers : List ℕ) (places now : List (Option RecordPlace)) (value : ℕ → Content) (tells : TellsPlaces numbers places pages end value) (place : RecordPlace) (here : place ≡ record { page = end; length = length held; valid = valid })
      (noted : (k : ℕ) → k < length numbers → get_or now k None ≡ (if true && (block == get_or numbers k 0) then Some place else get_or places k None)) where
    by_test : (content : Content) (found : Option RecordPlace) (test : Bool) → IsAt after (end + (2 + byte_pages (length held))) content found
        → IsAt after (end + (2 + byte_pages (length held))) (if test then record_content valid held else content) (if test then Some place else found)
    by_test content found true old = subst (λ (p : RecordPlace). IsAt after (end + (2 + byte_pages (length held))) (record_content valid held) (Some p)) (sym here) new_at
    by_test content found false old = old

    pub tells_more : TellsPlaces numbers now after (end + (2 + byte_pages (length held))) (given block (record_content valid held) value)
    tells_more k within =
        subst (λ (found : Option RecordPlace). IsAt after (end + (2 + byte_pages (length held))) (given block (record_content valid held) value (get_or numbers k 0)) found) (sym (noted k within))
        (by_test (value (get_or numbers k 0)) (get_or places k None) (block == get_or numbers k 0) (old_at (value (get_or numbers k 0)) (get_or places k None) (tells k within)))

-- An empty table, of blocks without a record.
pub tells_nothing : (numbers : List ℕ) (places : List (Option RecordPlace)) (pages : List (List ℕ)) (end : ℕ) (value : ℕ → Content) → ((block : ℕ) → value block ≡ missing)
    → ((k : ℕ) → k < length numbers → get_or places k None ≡ None) → TellsPlaces numbers places pages end value
tells_nothing numbers places pages end value nothing none k within =
    subst (λ (found : Option RecordPlace). IsAt pages end (value (get_or numbers k 0)) found) (sym (none k within)) (record { holds = nothing (get_or numbers k 0); inside = tt })

-- The place of a block.
pub told_place : (numbers : List ℕ) (places : List (Option RecordPlace)) (pages : List (List ℕ)) (end : ℕ) (value : ℕ → Content) (block : ℕ) (found : Option RecordPlace) → TellsPlaces numbers places pages end value
    → IsPlaceOf numbers places block found → IsAt pages end (value block) found
told_place numbers places pages end value block found tells is =
    subst (λ (place : Option RecordPlace). IsAt pages end (value block) place) is.place (subst (λ n. IsAt pages end (value n) (get_or places is.index None)) is.number (tells is.index is.within))

-- The pages of the places are those of what the blocks hold.
module _ (pages : List (List ℕ)) (sizes : ArePages pages) (end : ℕ) (most : end ≤ length pages) (value : ℕ → Content) where
  found_is : (content : Content) (found : Option RecordPlace) → IsAt pages end content found → pages_found found ≡ pages_of content
  found_is content None is = sym (ap pages_of is.holds)
  found_is content (Some place) is = sym (ap pages_of is.holds ∙ found_pages end pages sizes most 0 (Some place) is.inside.within)

  pub live_told : (numbers : List ℕ) (places : List (Option RecordPlace)) → length places ≡ length numbers → TellsPlaces numbers places pages end value → sum_by pages_found places ≡ sum_by (λ n. pages_of (value n)) numbers
  live_told [] [] size tells = refl
  live_told [] (place ∷ places) size tells = absurd (omega (arith, size))
  live_told (number ∷ numbers) [] size tells = absurd (omega (arith, size))
  live_told (number ∷ numbers) (place ∷ places) size tells =
      let here : pages_found place ≡ pages_of (value number) = found_is (value number) place (tells 0 (omega arith)) in
      let rest : sum_by pages_found places ≡ sum_by (λ n. pages_of (value n)) numbers = live_told numbers places (omega (arith, size)) (λ k within. tells (suc k) (omega arith)) in
      omega (arith, sum_by-cons pages_found place places, sum_by-cons (λ n. pages_of (value n)) number numbers, here, rest)
