-- How a worked image is written.
use Rattle.std.specs.Prelude.{◌≡◌, ℕ, ◌-◌, List, [], ◌∷◌, ◌++◌, length, replicate, map, Option}
use Rattle.flt_flash.specs.Image.{blank_page}
use Rattle.flt_code.specs.Seal.{sealed}
use Rattle.flt_code.specs.Word.{word_bytes}
use Rattle.flt_code.specs.declared.words.Word.{Word}
use Rattle.flt_code.specs.declared.words.Word.TheVariants.{Start, Active}
use Rattle.flt_sector_model.specs.Blocks.{first_fault}

-- The page of a word.
abbrev pub says : Word → List ℕ
says word = sealed (word_bytes word)

-- A page of plain bytes, padded with FF.
abbrev pub piece : List ℕ → List ℕ
piece bytes = bytes ++ replicate (32 - length bytes) 0xFF

-- A page whose first two bytes were programmed before the power was cut.
abbrev pub torn : List ℕ
torn = piece (0x48 ∷ 0x01 ∷ [])

-- A page in which a bit and its complement are both 0.
abbrev pub spoiled : List ℕ
spoiled = replicate 32 0

-- A sector of this many pages, with these first ones.
abbrev pub sector_of : ℕ → List (List ℕ) → List (List ℕ)
sector_of used pages = pages ++ replicate (used - length pages) blank_page

-- A valid sector of this many pages, of this number and with this log.
abbrev pub valid_sector : ℕ → ℕ → List (List ℕ) → List (List ℕ)
valid_sector used sequence log = sector_of used (says (Start sequence used) ∷ says (Active sequence) ∷ log)

-- An image of two sectors.
abbrev pub image_of : List (List ℕ) → List (List ℕ) → List (List (List ℕ))
image_of first second = first ∷ second ∷ []

-- An image, and where its first fault is reported.
pub record Faulty : Type 0 where
  pub image : List (List (List ℕ))
  pub place : Option (ℕ × ℕ)

infix 70 ◌⇒◌
-- An image has its first fault here.
abbrev pub ◌⇒◌ : List (List (List ℕ)) → Option (ℕ × ℕ) → Faulty
image ⇒ place = record { image = image; place = place }

-- The faults are reported there.
abbrev pub TellsFaults : ℕ → List ℕ → List Faulty → Type 0
TellsFaults used numbers rows = map (λ row. first_fault used numbers row.image) rows ≡ map (λ row. row.place) rows
