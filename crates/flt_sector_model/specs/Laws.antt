-- What follows from the definitions of an image.
use Rattle.std.specs.Prelude.{◌≡◌, ◌↔◌, ℕ, ◌+◌, ◌≤◌, ◌<◌, Bool, true, false, List, Option, Some, None, Ok, IfSome}
use Rattle.flt_flash.specs.Content.{Content, missing, invalid, bytes}
use Rattle.flt_flash.specs.Image.{sector_at, page_at, blank_page}
use Rattle.flt_sector_model.specs.Log.{log_from, log}
use Rattle.flt_sector_model.specs.Blocks.{Current, current, first_fault, bytes_behind, block_value}
use Rattle.flt_sector_model.specs.Reached.{IsReached, IsRecord}
use Rattle.flt_sector_model.specs.Damage.{Look, place_of, HasDamage, HasFirstDamage, HasSoundGates, HasNoSector, IsCurrent}

-- As many items as there are used pages are enough: a greater bound makes the log no longer.
abbrev pub LogIsWhole : Type 0
LogIsWhole = (used : ℕ) (numbers : List ℕ) (pages : List (List ℕ)) (left : ℕ) → 2 ≤ used → used < 2 + left
    → log_from used numbers pages 2 left ≡ log used numbers pages

-- The log ends after the gates and within the used pages, and a fault of it is reported at one of them.
pub record EndsWithin (used end : ℕ) (fault : Option ℕ) : Type 0 where
  pub least : 2 ≤ end
  pub most : end ≤ used
  pub there : IfSome fault (λ page. (2 ≤ page) × (page < used))

abbrev pub LogEndsWithin : Type 0
LogEndsWithin = (used : ℕ) (numbers : List ℕ) (pages : List (List ℕ)) → 2 ≤ used
    → EndsWithin used (log used numbers pages).end (log used numbers pages).fault

-- The reported fault is the first that a mount finds.
abbrev pub FirstFaultIsTold : Type 0
FirstFaultIsTold = (used : ℕ) (numbers : List ℕ) (image : List (List (List ℕ))) (place : ℕ × ℕ) → 2 ≤ used
    → (first_fault used numbers image ≡ Some place) ↔ ((look : Look) × HasFirstDamage used numbers image look × (place_of look ≡ place))

-- No fault is reported exactly if there is none.
abbrev pub NoFaultIsTold : Type 0
NoFaultIsTold = (used : ℕ) (numbers : List ℕ) (image : List (List (List ℕ))) → 2 ≤ used
    → (first_fault used numbers image ≡ None) ↔ ((look : Look) → HasDamage used numbers image look → ⊥)

-- If the gates are sound, the current sector is the valid one with the greater number.
abbrev pub GreaterIsCurrent : Type 0
GreaterIsCurrent = (used : ℕ) (numbers : List ℕ) (image : List (List (List ℕ))) (at : Current)
    → (current used image ≡ Ok (Some at)) ↔ (HasSoundGates used numbers image × IsCurrent used image at.sector at.sequence)

-- And there is none exactly if no sector is valid.
abbrev pub NoneIsCurrent : Type 0
NoneIsCurrent = (used : ℕ) (numbers : List ℕ) (image : List (List (List ℕ)))
    → (current used image ≡ Ok None) ↔ (HasSoundGates used numbers image × HasNoSector used image)

-- A complete record of a block is at this page of the log.
pub record IsCompleteAt (used : ℕ) (numbers : List ℕ) (pages : List (List ℕ)) (block page length : ℕ) (valid : Bool) : Type 0 where
  pub reached : IsReached used numbers pages page
  pub stands : IsRecord used numbers pages page block length valid true

-- And there is none after it.
pub record IsLastAt (used : ℕ) (numbers : List ℕ) (pages : List (List ℕ)) (block page length : ℕ) (valid : Bool) : Type 0 where
  pub is : IsCompleteAt used numbers pages block page length valid
  pub last : (later size : ℕ) (is_valid : Bool) → page < later → IsCompleteAt used numbers pages block later size is_valid → ⊥

-- What a complete record gives its block: the bytes on the pages after its head, or the mark of an invalid block.
abbrev pub recorded : List (List ℕ) → ℕ → ℕ → ℕ → Bool → Content
recorded pages block page length false = invalid
recorded pages block page length true = bytes (bytes_behind pages (record { page = page; block = block; length = length; valid = true; complete = true }))

-- A block holds what its last complete record in the current sector gives it, and nothing if it has none.
pub record HoldsLast (used : ℕ) (numbers : List ℕ) (image : List (List (List ℕ))) (sector block : ℕ) : Type 0 where
  pub last : (page length : ℕ) (valid : Bool) → IsLastAt used numbers (sector_at image sector) block page length valid
      → block_value used numbers image block ≡ recorded (sector_at image sector) block page length valid
  pub none : ((page length : ℕ) (valid : Bool) → IsCompleteAt used numbers (sector_at image sector) block page length valid → ⊥)
      → block_value used numbers image block ≡ missing

abbrev pub LastRecordCounts : Type 0
LastRecordCounts = (used : ℕ) (numbers : List ℕ) (image : List (List (List ℕ))) (at : Current) (block : ℕ) → 2 ≤ used
    → current used image ≡ Ok (Some at) → HoldsLast used numbers image at.sector block

-- Every used page of both sectors is blank.
abbrev pub IsBlankImage : ℕ → List (List (List ℕ)) → Type 0
IsBlankImage used image = (sector page : ℕ) → sector < 2 → page < used → page_at image sector page ≡ blank_page

-- Such an image has no fault, and no block.
abbrev pub BlankHoldsNothing : Type 0
BlankHoldsNothing = (used : ℕ) (numbers : List ℕ) (image : List (List (List ℕ))) → 2 ≤ used → IsBlankImage used image
    → (first_fault used numbers image ≡ None) × ((block : ℕ) → block_value used numbers image block ≡ missing)
