-- What a driver knows of its image while it is not stale.
use Rattle.std.specs.Prelude.{◌≡◌, ℕ, Bool, true, false, List, Option, None, length}
use Rattle.flt_flash.specs.Image.{sector_at}
use Rattle.flt_ea.specs.Image.{damage_in}
use Rattle.flt_ea.specs.Scan.{IsTable}
use Rattle.flt_ea.specs.declared.place.Held.{Held}

-- A mount has answered Ok before, the image has no fault since, and the table has each block's current place.
pub record IsMounted (is_stale has_mounted : Bool) (numbers : List ℕ) (image : List (List (List ℕ))) (table : List (Option Held)) : Type 0 where
  pub mounted : is_stale ≡ false → has_mounted ≡ true
  pub undamaged : has_mounted ≡ true → damage_in numbers image ≡ None
  pub places : is_stale ≡ false → IsTable (length numbers) (sector_at image 0) table
