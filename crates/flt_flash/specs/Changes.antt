-- An image by the changes that lead to it.
use Rattle.std.specs.Prelude.{◌≤◌, ℕ, List, [], ◌∷◌, All, replicate, slice_set}
use Rattle.flt_flash.specs.Image.{blank_page}
use Rattle.flt_flash.specs.declared.boot.BootMark.{BootMark}
use Rattle.flt_flash.specs.declared.boot.PageChange.{PageChange}

-- A blank image of this many pages.
abbrev pub blank_image : ℕ → List (List ℕ)
blank_image pages = replicate pages blank_page

-- An image after these changes of its pages, one after the other.
abbrev pub changed_by : List (List ℕ) → List PageChange → List (List ℕ)
changed_by image [] = image
changed_by image (change ∷ later) = changed_by (slice_set image change.page change.bytes) later

-- Each power-up found an image to which the first changes, of this number, lead.
abbrev pub AreReached : ℕ → List BootMark → Type 0
AreReached changes marks = All (λ mark. mark.changes ≤ changes) marks
