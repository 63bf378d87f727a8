-- What a watched status machine stands for.
use Rattle.std.specs.Prelude.{◌≡◌, ℕ, ◌-◌, ◌^◌, min, List, length}
use Rattle.flt_model.specs.Start.{Start, History}
use Rattle.flt_dcm.specs.Unit.{Stands, UnitView}
use Rattle.flt_notify.specs.Changes.{statuses_after}
use Rattle.flt_notify.specs.Value.{values_after}

-- The unit stands for the base and the calls, each value is that of the changes which these calls make, the bytes are the status bytes
-- after them, and the calls are counted, as far as 2^32 - 1.
pub record IsWatching (life : Start) (past : History) (unit : UnitView) (values bytes : List ℕ) (calls : ℕ) : Type 0 where
  -- The unit is in the state that the calls lead to.
  pub unit_stands : Stands life past unit
  -- The values are those of all changes that the calls make.
  pub values_stand : values ≡ values_after life past
  -- The bytes are the status bytes after the calls.
  pub bytes_stand : bytes ≡ statuses_after life past
  -- The calls are counted, as far as 2^32 - 1.
  pub counted : calls ≡ min (length past) (2 ^ 32 - 1)
