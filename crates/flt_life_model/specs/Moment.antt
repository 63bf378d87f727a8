-- What a power-up finds.
use Rattle.std.specs.Prelude.{◌≡◌, ℕ, Bool, List, Option}
use Rattle.flt_flash.specs.Content.{Content}
use Rattle.flt_flash.specs.State.{PowerUp}
use Rattle.flt_flash.specs.Blocks.{BlocksState, DeviceState}
use Rattle.flt_config.specs.declared.config.Config.{Config}
use Rattle.flt_store_model.specs.Holding.{Generation}
use Rattle.flt_store_model.specs.Whole.{IsSoundWhole}

-- What each block of the image holds, the place of its first fault, whether the last sequence number is in use, and the count of the
-- device's faults.
pub record Moment : Type 0 where
  pub value : ℕ → Content
  pub damage : Option (ℕ × ℕ)
  pub is_spent : Bool
  pub faults : ℕ

-- The moment as a driver describes it.
abbrev pub moment_of : BlocksState → Moment
moment_of driver = record { value = driver.value; damage = driver.damage; is_spent = driver.is_spent; faults = driver.device.faults }

-- How a kind of device keeps blocks: what each number holds in an image, the first fault of an image, and whether it has reached the
-- last sequence number.
pub record Medium : Type 0 where
  pub value : List (List (List ℕ)) → ℕ → Content
  pub damage : List (List (List ℕ)) → Option (ℕ × ℕ)
  pub is_spent : List (List (List ℕ)) → Bool

-- The moment of a power-up on a medium.
abbrev pub moment_at : Medium → PowerUp → Moment
moment_at medium boot = record {
  value = medium.value boot.image;
  damage = medium.damage boot.image;
  is_spent = medium.is_spent boot.image;
  faults = boot.faults;
}

-- The boot that a power-up now would add.
abbrev pub boot_in : DeviceState → PowerUp
boot_in device = record { faults = device.faults; image = device.image }

abbrev pub boot_of : BlocksState → PowerUp
boot_of driver = boot_in driver.device

-- A driver's blocks and its fault are those of its image.
pub record IsOn (medium : Medium) (driver : BlocksState) : Type 0 where
  pub value : medium.value driver.device.image ≡ driver.value
  pub damage : medium.damage driver.device.image ≡ driver.damage
  pub is_spent : medium.is_spent driver.device.image ≡ driver.is_spent

-- The image has no fault, and holds these two generations, the second by the second copy of its commit.
abbrev pub IsSoundAt : Config → Moment → Generation → Generation → Type 0
IsSoundAt c moment = IsSoundWhole c moment.damage moment.value
