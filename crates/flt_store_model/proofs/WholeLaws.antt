-- The laws of a whole image.
use Rattle.std.proofs.Common.{◌≡◌, ◌↔◌, ℕ, zero, suc, ◌<◌, ◌≤◌, List, refl, sym, ◌∙◌, ap, subst, arith}
use Rattle.std.specs.Prelude.{Option, Some, None, Result, Ok, Err}
use Rattle.flt_flash.specs.Content.{Content, missing}
use Rattle.flt_sector_model.specs.Blocks.{current, value_by}
use Rattle.flt_sector_model.proofs.First as first
use Rattle.flt_sector_model.proofs.Blank.{blank_holds_nothing}
use Rattle.flt_config.specs.declared.config.Config.{Config}
use Rattle.flt_store_model.specs.declared.place.Place.TheVariants.{Page, Block}
use Rattle.flt_store_model.specs.Layout.{numbers}
use Rattle.flt_store_model.specs.Holding.{Generation, Fault, damaged, other, held, spare, held_by}
use Rattle.flt_store_model.specs.Faults.{HasFault, judging_order, HasFirstFault}
use Rattle.flt_store_model.specs.Laws.{IsGiven}
use Rattle.flt_store_model.proofs.ImageLaws as laws
use Rattle.flt_store_model.specs.Whole.{unless_damaged}
use Rattle.flt_store_model.specs.Image.{image_damage, image_blocks}
use Rattle.flt_store_model.specs.WholeLaws.{HasImageFault, HasFirstImageFault, TellsFirstImageFault, HeldStandsInImage, SpareStandsInImage, SoundImageHoldsBoth, HoldsFirst, UnwrittenHoldsFirst, BlankHoldsFirst}

-- A configuration has pages for two gates.
least_of : (c : Config) → IsGiven c → 2 ≤ c.pages
least_of c given = omega (arith, given.valid.pages.0)

-- Each fault of the blocks comes after those of the pages.
behind_pages : (c : Config) (value : ℕ → Content) (commit : Content) (fault : Fault) → HasFault c value commit fault → 0 < judging_order fault
behind_pages c value commit (damaged (Page sector page)) is = absurd is
behind_pages c value commit (damaged (Block zero)) is = omega arith
behind_pages c value commit (damaged (Block (suc k))) is = omega arith
behind_pages c value commit (other mark) is = omega arith

module _ (c : Config) (given : IsGiven c) (image : List (List (List ℕ))) (commit : Content) where
  -- The blocks are at fault.
  of_blocks : (fault : Fault) → HasFault c (image_blocks c image) commit fault → HasImageFault c image commit fault
  of_blocks (damaged (Page sector page)) is = absurd is
  of_blocks (damaged (Block id)) is = is
  of_blocks (other mark) is = is

  to_blocks : image_damage c image ≡ None → (fault : Fault) → HasImageFault c image commit fault → HasFault c (image_blocks c image) commit fault
  to_blocks none (damaged (Page sector page)) is = absurd (let told = first.told_first c.pages numbers image (least_of c given) is.0 is.1 in cc)
  to_blocks none (damaged (Block id)) is = is
  to_blocks none (other mark) is = is

  -- The pages are at fault.
  of_page : (place : ℕ × ℕ) → image_damage c image ≡ Some place → HasImageFault c image commit (damaged (Page place.0 place.1))
  of_page place is = first.where_told c.pages numbers image (least_of c given) place is

  abbrev blocks_judged : Result Generation Fault
  blocks_judged = held_by c (image_blocks c image) commit

  by_page : (place : ℕ × ℕ) → image_damage c image ≡ Some place → (fault : Fault) → (unless_damaged (Some place) blocks_judged ≡ Err fault) ↔ HasFirstImageFault c image commit fault
  by_page place is fault = (first_where, told_where fault)
    where
      first_where : unless_damaged (Some place) blocks_judged ≡ Err fault → HasFirstImageFault c image commit fault
      first_where told =
          let same : damaged (Page place.0 place.1) ≡ fault = cc in
          subst (HasFirstImageFault c image commit) same (record { is = of_page place is; first = λ earlier below _. omega (arith, below) })

      page_told : (fault : Fault) → HasFault c (image_blocks c image) commit fault → HasFirstImageFault c image commit fault → unless_damaged (Some place) blocks_judged ≡ Err fault
      page_told fault blocks found = absurd (found.first (damaged (Page place.0 place.1)) (behind_pages c (image_blocks c image) commit fault blocks) (of_page place is))

      told_where : (fault : Fault) → HasFirstImageFault c image commit fault → unless_damaged (Some place) blocks_judged ≡ Err fault
      told_where (damaged (Page sector page)) found =
          let told = first.told_first c.pages numbers image (least_of c given) found.is.0 found.is.1 in
          let there : Some place ≡ Some (sector, page) = sym is ∙ told ∙ ap Some found.is.2 in
          let same : place ≡ (sector, page) = cc in
          ap (λ (at : ℕ × ℕ). Err (damaged (Page at.0 at.1))) same
      told_where (damaged (Block id)) found = page_told (damaged (Block id)) found.is found
      told_where (other mark) found = page_told (other mark) found.is found

  by_blocks : image_damage c image ≡ None → (fault : Fault) → ((blocks_judged ≡ Err fault) ↔ HasFirstFault c (image_blocks c image) commit fault) → (blocks_judged ≡ Err fault) ↔ HasFirstImageFault c image commit fault
  by_blocks none fault law = (
    λ told. (let found = law.0 told in record { is = of_blocks fault found.is; first = λ earlier below also. found.first earlier below (to_blocks none earlier also) }),
    λ found. law.1 (record { is = to_blocks none fault found.is; first = λ earlier below also. found.first earlier below (of_blocks earlier also) }),
  )

  by_damage : (damage : Option (ℕ × ℕ)) → image_damage c image ≡ damage → (fault : Fault) → ((blocks_judged ≡ Err fault) ↔ HasFirstFault c (image_blocks c image) commit fault)
      → (unless_damaged damage blocks_judged ≡ Err fault) ↔ HasFirstImageFault c image commit fault
  by_damage None is fault law = by_blocks is fault law
  by_damage (Some place) is fault law = by_page place is fault

pub tells_first : (commit_of : (ℕ → Content) → Content) → TellsFirstImageFault (λ c image. unless_damaged (image_damage c image) (held_by c (image_blocks c image) (commit_of (image_blocks c image)))) commit_of
tells_first commit_of c given image fault =
    by_damage c given image (commit_of (image_blocks c image)) (image_damage c image) refl fault (laws.first_fault_is_told commit_of c given (image_blocks c image) fault)

-- A generation is held where no page is at fault.
held_of : (damage : Option (ℕ × ℕ)) (judged : Result Generation Fault) (g : Generation) → (unless_damaged damage judged ≡ Ok g) ↔ ((damage ≡ None) × (judged ≡ Ok g))
held_of None judged g = (λ is. (refl, is), λ is. is.1)
held_of (Some place) judged g = (λ is. absurd (cc is), λ is. absurd (cc is.0))

pub held_stands_in_image : HeldStandsInImage
held_stands_in_image c given image g =
    let law = laws.held_stands c given (image_blocks c image) g in
    let of = held_of (image_damage c image) (held c (image_blocks c image)) g in
    (λ is. (let both = of.0 is in (both.0, law.0 both.1)), λ is. of.1 (is.0, law.1 is.1))

pub spare_stands_in_image : SpareStandsInImage
spare_stands_in_image c given image g =
    let law = laws.spare_stands c given (image_blocks c image) g in
    let of = held_of (image_damage c image) (spare c (image_blocks c image)) g in
    (λ is. (let both = of.0 is in (both.0, law.0 both.1)), λ is. of.1 (is.0, law.1 is.1))

pub sound_image_holds_both : SoundImageHoldsBoth
sound_image_holds_both c given image one two =
    let first_law = held_stands_in_image c given image one in
    let second_law = spare_stands_in_image c given image two in
    let sound_law = laws.sound_is_one_or_next c (image_blocks c image) one two in (
      λ is. (let parts = sound_law.0 is.sound in (first_law.1 (is.undamaged, parts.0), second_law.1 (is.undamaged, parts.1), parts.2)),
      λ is. (let by_first = first_law.0 is.0 in let by_second = second_law.0 is.1 in record { undamaged = by_first.0; sound = sound_law.1 (by_first.1, by_second.1, is.2) }),
    )

-- Where each block is missing.
holds_first : (c : Config) → IsGiven c → (image : List (List (List ℕ))) → image_damage c image ≡ None → ((number : ℕ) → image_blocks c image number ≡ missing) → HoldsFirst c image
holds_first c given image undamaged empty = record { sound = record { undamaged = undamaged; sound = laws.blank_is_sound c given (image_blocks c image) empty }; empty = empty }

pub unwritten_holds_first : UnwrittenHoldsFirst
unwritten_holds_first c given image undamaged no_sector =
    let none : current c.pages image ≡ Ok None = (first.none_is_current c.pages numbers image).1 (λ look _ is. undamaged look is, no_sector) in
    holds_first c given image ((first.no_fault_is_told c.pages numbers image (least_of c given)).1 undamaged) (λ number. ap (value_by c.pages numbers image number) none)

pub blank_holds_first : BlankHoldsFirst
blank_holds_first c given image blank = let nothing = blank_holds_nothing c.pages numbers image (least_of c given) blank in holds_first c given image nothing.0 nothing.1
