-- What the saved boots of a device in memory are.
use Rattle.std.specs.Prelude.{◌≡◌, ◌+◌, ◌-◌, ℕ, List, [], ◌∷◌, ◌++◌, map, take, drop, length, slice_index_or}
use Rattle.flt_flash.specs.State.{PowerUp}
use Rattle.flt_flash.specs.Changes.{blank_image, changed_by}
use Rattle.flt_flash.specs.declared.boot.BootMark.{BootMark}
use Rattle.flt_flash.specs.declared.boot.Boots.{Boots}

-- The pages of a device of one sector.
abbrev pub one_sector : List (List ℕ) → List (List (List ℕ))
one_sector pages = pages ∷ []

-- The pages of a device of two sectors of this many pages.
abbrev pub two_sectors : ℕ → List (List ℕ) → List (List (List ℕ))
two_sectors many pages = take many pages ∷ drop many pages ∷ []

-- The image that a power-up found: a blank one after the first changes, of this number.
abbrev pub pages_then : Boots → ℕ → List (List ℕ)
pages_then boots changes = changed_by (blank_image (boots.first.count + boots.second.count)) (take changes boots.changes.items)

-- A power-up of a device whose pages are divided so into sectors.
abbrev pub power_up_of : (List (List ℕ) → List (List (List ℕ))) → Boots → BootMark → PowerUp
power_up_of divided boots mark = record { faults = mark.faults; image = divided (pages_then boots mark.changes) }

-- All of them.
abbrev pub boots_of : (List (List ℕ) → List (List (List ℕ))) → Boots → List PowerUp
boots_of divided boots = map (power_up_of divided boots) boots.marks.items

-- How many may still come.
abbrev pub left_of : Boots → ℕ
left_of boots = boots.most - length boots.marks.items

-- One power-up more was saved, at this count of faults and of these pages.
pub record AddsOne (faults : ℕ) (pages : List (List ℕ)) (before after : Boots) : Type 0 where
  pub boots : (divided : List (List ℕ) → List (List (List ℕ)))
      → boots_of divided after ≡ boots_of divided before ++ record { faults = faults; image = divided pages } ∷ []
  pub one_fewer : left_of after ≡ left_of before - 1
  pub first : after.first.count ≡ before.first.count
  pub second : after.second.count ≡ before.second.count

-- No boot: no fault, and an image of no sectors.
abbrev pub no_boot : PowerUp
no_boot = record { faults = 0; image = [] }

-- The boot of this number in a list of boots, from 0.
abbrev pub boot_at : List PowerUp → ℕ → PowerUp
boot_at boots number = slice_index_or boots number no_boot
