-- Pages that nothing was written to.
use Rattle.std.specs.Prelude.{◌≡◌, ◌<◌, ◌≤◌, ℕ, List, [], slice_index_or}
use Rattle.flt_flash.specs.Image.{blank_page}

-- All pages from one page on, below another, are blank.
abbrev pub AreBlank : List (List ℕ) → ℕ → ℕ → Type 0
AreBlank pages from to = (k : ℕ) → from ≤ k → k < to → slice_index_or pages k [] ≡ blank_page
