-- What a call of the status machine leaves: its unit, its answer, and the durable state that a snapshot writes.
use Rattle.std.specs.Prelude.{◌≡◌, ◌≢◌}
use Rattle.flt_config.specs.declared.persist.Persist.{Persist}
use Rattle.flt_model.specs.Start.{Start, History}
use Rattle.flt_model.specs.declared.call.Op.{Op}
use Rattle.flt_model.specs.declared.call.Op.TheVariants as ops
use Rattle.flt_model.specs.Reply.{Reply}
use Rattle.flt_dcm.specs.Unit.{UnitView, Stands, Takes, Answers, IsIgnored, IsReading, OnlyHearsWhereNegative, written}

-- A unit took this call, and this reply is the answer; where the call is a question or is refused, the unit is as it was.
pub record AppliesCall (op : Op) (before after : UnitView) (reply : Reply) : Type 0 where
  -- The configuration is the same.
  pub config : after.dem.durable.config ≡ before.dem.durable.config
  -- The durable state of the last power-up is the same.
  pub base : after.base ≡ before.base
  -- The unit is in the state that one more call leads to.
  pub stands : Takes op before after
  -- The reply is the one that the call has after the calls before it.
  pub answer : Answers op before reply
  -- A show, a snapshot and a save change nothing.
  pub reading : IsReading op → after ≡ before
  -- A report that is ignored changes nothing.
  pub ignored : IsIgnored reply → after ≡ before
  -- A negative response restarts the silent time of its tester, and changes nothing else.
  pub negative : OnlyHearsWhereNegative op reply before after

-- A snapshot of this unit writes the durable state after the calls so far, and no other call writes one.
pub record WritesState (op : Op) (unit : UnitView) (before after : Persist) : Type 0 where
  -- A snapshot writes the durable state after the calls so far.
  pub written : (life : Start) (past : History) → Stands life past unit → after ≡ written life past op before
  -- Another call writes nothing.
  pub kept : op ≢ ops.Snapshot → after ≡ before
