-- The power of a flash on which every operation succeeds.
use Rattle.std.specs.Prelude.{◌≡◌, false, []}
use Rattle.flt_flash.specs.Power.{PowerState}

-- It is on, no operation failed so far, and nothing is armed.
pub record IsPowerQuiet (power : PowerState) : Type 0 where
  pub on : power.is_off ≡ false
  pub unfailed : power.faults ≡ 0
  pub unarmed : power.standing ≡ []
