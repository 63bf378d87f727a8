-- What the blocks of one sector hold, and the pages that this takes.
use Rattle.std.specs.Prelude.{ℕ, List, sum_by}
use Rattle.flt_flash.specs.Content.{Content}
use Rattle.flt_flash.specs.Blocks.{pages_of}
use Rattle.flt_sector_model.specs.Log.{log}
use Rattle.flt_sector_model.specs.Blocks.{content_of, last_complete}

-- What a block holds by the log of a sector.
abbrev pub held_in : ℕ → List ℕ → List (List ℕ) → ℕ → Content
held_in used numbers pages block = content_of pages (last_complete block (log used numbers pages).entries)

-- The pages of the current records of all blocks.
abbrev pub current_pages : ℕ → List ℕ → List (List ℕ) → ℕ
current_pages used numbers pages = sum_by (λ number. pages_of (held_in used numbers pages number)) numbers
