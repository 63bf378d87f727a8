-- Changes of an image, one after the other.
use Rattle.std.proofs.Common.{◌≡◌, ◌≢◌, ℕ, ◌<◌, ◌+◌, List, [], ◌∷◌, ◌++◌, length, set, length-set, get_or, get_or-set_same, get_or-set_other, take, refl, sym, ◌∙◌, ap, arith}
use Rattle.std.proofs.lemmas.List.{take_more}
use Rattle.flt_flash.specs.Changes.{changed_by}
use Rattle.flt_flash.specs.declared.boot.PageChange.{PageChange}

pub changed_more : (image : List (List ℕ)) (changes : List PageChange) (change : PageChange)
    → changed_by image (changes ++ change ∷ []) ≡ set (changed_by image changes) change.page change.bytes
changed_more image [] change = refl
changed_more image (first ∷ later) change = changed_more (set image first.page first.bytes) later change

pub length-changed : (image : List (List ℕ)) (changes : List PageChange) → length (changed_by image changes) ≡ length image
length-changed image [] = refl
length-changed image (first ∷ later) = length-changed (set image first.page first.bytes) later ∙ length-set image first.page first.bytes

-- One change more, as a page sees it.
module _ (image : List (List ℕ)) (changes : List PageChange) (i : ℕ) (change : PageChange) (within : i < length changes) (is : change ≡ get_or changes i change) where
  one_more : changed_by image (take (i + 1) changes) ≡ set (changed_by image (take i changes)) change.page change.bytes
  one_more =
      ap (changed_by image) (take_more changes i change within)
      ∙ ap (λ (last : PageChange). changed_by image (take i changes ++ last ∷ [])) (sym is)
      ∙ changed_more image (take i changes) change

  pub page_changed : (page : ℕ) → page < length image → change.page ≡ page → change.bytes ≡ get_or (changed_by image (take (i + 1) changes)) page []
  page_changed page inside same =
      sym (get_or-set_same (changed_by image (take i changes)) page change.bytes [] (omega (arith, inside, length-changed image (take i changes))))
      ∙ ap (λ at. get_or (set (changed_by image (take i changes)) at change.bytes) page []) (sym same)
      ∙ ap (λ now. get_or now page []) (sym one_more)

  pub page_stays : (page : ℕ) → page ≢ change.page → get_or (changed_by image (take i changes)) page [] ≡ get_or (changed_by image (take (i + 1) changes)) page []
  page_stays page other =
      sym (get_or-set_other (changed_by image (take i changes)) change.page page change.bytes [] other)
      ∙ ap (λ now. get_or now page []) (sym one_more)
