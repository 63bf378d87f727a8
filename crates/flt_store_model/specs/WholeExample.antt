-- How a worked image is written: records of blocks, one after the other, in two sectors of 64 pages.
use Rattle.std.specs.Prelude.{◌≡◌, ℕ, zero, suc, ◌+◌, List, [], ◌∷◌, ◌++◌, length, map, take, drop, true, false, Result}
use Rattle.flt_flash.specs.Blocks.{byte_pages, record_pages}
use Rattle.flt_flash.specs.Content.{Content, missing, invalid, bytes, size_of}
use Rattle.flt_code.specs.declared.words.Word.TheVariants.{Head, Gate}
use Rattle.flt_sector_model.specs.Example.{says, piece}
use Rattle.flt_config.specs.declared.config.Config.{Config}
use Rattle.flt_store_model.specs.Holding.{Generation, Fault}
use Rattle.flt_store_model.specs.Example.{Kept}
use Rattle.flt_store_model.specs.Image.{image_held, image_spare}

-- This many pages of bytes.
abbrev pub pieces : ℕ → List ℕ → List (List ℕ)
pieces zero held = []
pieces (suc left) held = piece (take 32 held) ∷ pieces left (drop 32 held)

-- The record at a page that gives a number this content: a head, the bytes, a gate.
abbrev pub record_pages_at : ℕ → ℕ → Content → List (List ℕ)
record_pages_at page number missing = []
record_pages_at page number invalid = says (Head number 0 false page) ∷ says (Gate number page) ∷ []
record_pages_at page number (bytes held) = says (Head number (length held) true page) ∷ (pieces (byte_pages (length held)) held ++ says (Gate number page) ∷ [])

-- Records one after the other, from a page on.
abbrev pub records : ℕ → List Kept → List (List ℕ)
records page [] = []
records page (kept ∷ rest) = record_pages_at page kept.number kept.content ++ records (page + record_pages (size_of kept.content)) rest

-- An image, and what it holds by either copy of its commit.
pub record Judged : Type 0 where
  pub image : List (List (List ℕ))
  pub held : Result Generation Fault
  pub spare : Result Generation Fault

abbrev pub judged : List (List (List ℕ)) → Result Generation Fault → Result Generation Fault → Judged
judged image by_first by_second = record { image = image; held = by_first; spare = by_second }

-- The images are judged so.
pub record AreJudged (c : Config) (rows : List Judged) : Type 0 where
  pub by_first : map (λ row. image_held c row.image) rows ≡ map (λ row. row.held) rows
  pub by_second : map (λ row. image_spare c row.image) rows ≡ map (λ row. row.spare) rows
