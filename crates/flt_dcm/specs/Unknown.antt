-- A clear of a DTC that no event has.
use Rattle.std.specs.Prelude.{◌≡◌, ◌≢◌, position, None}
use Rattle.flt_config.specs.Validity.{has_dtc}
use Rattle.flt_model.specs.Happening.{all_dtcs}
use Rattle.flt_model.specs.declared.request.Request.{Request}
use Rattle.flt_model.specs.declared.request.Request.TheVariants.{Clear}
use Rattle.flt_dem.specs.Manager.{Manager}

-- A request that is not for a clear, or is for a DTC that no event has.
abbrev pub ClearsNone : Manager → Request → Type 0
ClearsNone manager (Clear dtc) = (dtc ≢ all_dtcs) × (position (has_dtc dtc) manager.durable.config.events.items ≡ None)
ClearsNone manager _ = Unit {0}
