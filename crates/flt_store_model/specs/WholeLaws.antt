-- What the definitions of a whole image come to.
use Rattle.std.specs.Prelude.{◌≡◌, ◌↔◌, ◌⊎◌, ℕ, ◌+◌, ◌<◌, List, None, Result, Ok, Err}
use Rattle.flt_flash.specs.Content.{Content, missing}
use Rattle.flt_sector_model.specs.Damage.{HasNoSector, Look, place_of, HasDamage, HasFirstDamage}
use Rattle.flt_sector_model.specs.Laws.{IsBlankImage}
use Rattle.flt_config.specs.declared.config.Config.{Config}
use Rattle.flt_store_model.specs.declared.place.Place.TheVariants.{Page, Block}
use Rattle.flt_store_model.specs.Layout.{numbers, first_commit, second_commit}
use Rattle.flt_store_model.specs.Holding.{Generation, first_generation, Fault, damaged, other, either_copy, only_bytes, IsHeld, IsSpare}
use Rattle.flt_store_model.specs.Faults.{HasFault, judging_order}
use Rattle.flt_store_model.specs.Laws.{IsGiven}
use Rattle.flt_store_model.specs.Image.{image_damage, image_blocks, image_held, image_spare, IsSoundImage}

-- What may be reported of an image with this commit: where a mount first finds its pages damaged, or a fault of its blocks.
abbrev pub HasImageFault : Config → List (List (List ℕ)) → Content → Fault → Type 0
HasImageFault c image commit (damaged (Page sector page)) = (look : Look) × HasFirstDamage c.pages numbers image look × (place_of look ≡ (sector, page))
HasImageFault c image commit (damaged (Block id)) = HasFault c (image_blocks c image) commit (damaged (Block id))
HasImageFault c image commit (other mark) = HasFault c (image_blocks c image) commit (other mark)

-- An image has this fault, and none that is judged before it.
pub record HasFirstImageFault (c : Config) (image : List (List (List ℕ))) (commit : Content) (fault : Fault) : Type 0 where
  pub is : HasImageFault c image commit fault
  pub first : (earlier : Fault) → judging_order earlier < judging_order fault → HasImageFault c image commit earlier → ⊥

-- The fault that is reported is the first: that of the pages, and then those of the blocks in the order of judging.
abbrev pub TellsFirstImageFault : (Config → List (List (List ℕ)) → Result Generation Fault) → ((ℕ → Content) → Content) → Type 0
TellsFirstImageFault judged commit_of = (c : Config) → IsGiven c → (image : List (List (List ℕ))) (fault : Fault)
    → (judged c image ≡ Err fault) ↔ HasFirstImageFault c image (commit_of (image_blocks c image)) fault

abbrev pub HeldTellsFirst : Type 0
HeldTellsFirst = TellsFirstImageFault image_held (λ value. either_copy (value first_commit) (value second_commit))

abbrev pub SpareTellsFirst : Type 0
SpareTellsFirst = TellsFirstImageFault image_spare (λ value. only_bytes (value second_commit))

-- A generation is held exactly where no page is at fault and the generation is in the blocks.
abbrev pub HeldStandsInImage : Type 0
HeldStandsInImage = (c : Config) → IsGiven c → (image : List (List (List ℕ))) (g : Generation)
    → (image_held c image ≡ Ok g) ↔ ((image_damage c image ≡ None) × IsHeld c (image_blocks c image) g)

abbrev pub SpareStandsInImage : Type 0
SpareStandsInImage = (c : Config) → IsGiven c → (image : List (List (List ℕ))) (g : Generation)
    → (image_spare c image ≡ Ok g) ↔ ((image_damage c image ≡ None) × IsSpare c (image_blocks c image) g)

-- An image is sound exactly where it holds two generations that are one, or of which the spare one is followed by the other.
abbrev pub SoundImageHoldsBoth : Type 0
SoundImageHoldsBoth = (c : Config) → IsGiven c → (image : List (List (List ℕ))) (held spare : Generation)
    → IsSoundImage c image held spare
    ↔ ((image_held c image ≡ Ok held) × (image_spare c image ≡ Ok spare) × ((held ≡ spare) ⊎ (held.number ≡ spare.number + 1)))

-- The image is sound, holds the first generation, and has no mark and no application block, nor any other.
pub record HoldsFirst (c : Config) (image : List (List (List ℕ))) : Type 0 where
  pub sound : IsSoundImage c image (first_generation c) (first_generation c)
  pub empty : (number : ℕ) → image_blocks c image number ≡ missing

-- So is each image without a fault of which no sector is valid.
abbrev pub UnwrittenHoldsFirst : Type 0
UnwrittenHoldsFirst = (c : Config) → IsGiven c → (image : List (List (List ℕ))) → ((look : Look) → HasDamage c.pages numbers image look → ⊥)
    → HasNoSector c.pages image → HoldsFirst c image

-- And each image whose used pages are blank.
abbrev pub BlankHoldsFirst : Type 0
BlankHoldsFirst = (c : Config) → IsGiven c → (image : List (List (List ℕ))) → IsBlankImage c.pages image → HoldsFirst c image
