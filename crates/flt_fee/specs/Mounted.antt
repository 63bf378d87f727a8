-- What a driver knows of its image while it is not stale.
use Rattle.std.specs.Prelude.{◌≡◌, ℕ, Bool, true, false, List, Some, None, Ok}
use Rattle.flt_flash.specs.Image.{sector_at}
use Rattle.flt_pages.specs.Told.{current_of}
use Rattle.flt_pages.specs.declared.current.CurrentSector.{CurrentSector}
use Rattle.flt_sector_model.specs.Blocks.{current, first_fault}
use Rattle.flt_sector_model.specs.Log.{log}

-- The current sector is the one that the driver keeps, and its log ends where the driver says, without a fault.
pub record IsMounted (is_stale has_mounted : Bool) (at : CurrentSector) (numbers : List ℕ) (image : List (List (List ℕ))) (end : ℕ) : Type 0 where
  pub mounted : is_stale ≡ false → has_mounted ≡ true
  pub current : is_stale ≡ false → current at.used image ≡ Ok (Some (current_of at))
  pub sound : is_stale ≡ false → (log at.used numbers (sector_at image at.sector)).fault ≡ None
  -- Once a mount has answered Ok, stale or not.
  pub undamaged : has_mounted ≡ true → first_fault at.used numbers image ≡ None
  pub ends : is_stale ≡ false → (log at.used numbers (sector_at image at.sector)).end ≡ end
