-- The pages of a sector whose log has no fault, and an image of which such a sector is the current one.
use Rattle.std.specs.Prelude.{◌≡◌, ◌==◌, ℕ, Bool, List, Some, None, Ok, if◌then◌else◌}
use Rattle.flt_flash.specs.Image.{sector_at}
use Rattle.flt_flash.specs.Content.{Content, invalid, bytes}
use Rattle.flt_sector_model.specs.Log.{Entry, log}
use Rattle.flt_sector_model.specs.Blocks.{current, content_of, last_complete}

-- The log ends here without a fault, and its records give each block this value.
pub record LogHolds (used : ℕ) (numbers : List ℕ) (pages : List (List ℕ)) (end : ℕ) (value : ℕ → Content) : Type 0 where
  -- The records of the log.
  pub entries : List Entry
  -- The log has them, ends here and has no fault.
  pub is : log used numbers pages ≡ record { entries = entries; end = end; fault = None }
  -- The last complete record of each block gives its value.
  pub gives : (block : ℕ) → content_of pages (last_complete block entries) ≡ value block

-- The image has no fault, this is its current sector with its number, its log ends here and gives each block this value.
pub record StandsAt (used : ℕ) (numbers : List ℕ) (image : List (List (List ℕ))) (sector sequence end : ℕ) (value : ℕ → Content) : Type 0 where
  -- This sector is the current one, with this number.
  pub current : current used image ≡ Ok (Some record { sector = sector; sequence = sequence })
  -- Its log ends here and gives each block its value.
  pub holds : LogHolds used numbers (sector_at image sector) end value

-- What a record of these bytes holds.
abbrev pub record_content : Bool → List ℕ → Content
record_content valid held = if valid then bytes held else invalid

-- One block is given another value.
abbrev pub given : ℕ → Content → (ℕ → Content) → ℕ → Content
given block asked value other = if block == other then asked else value other
