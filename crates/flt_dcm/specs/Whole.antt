-- What a contract sees of a unit with its table: the unit, and the data identifiers.
use Rattle.std.specs.Prelude.{List}
use Rattle.flt_config.specs.declared.config.Config.{Config}
use Rattle.flt_config.specs.declared.config.DidUse.{DidUse}
use Rattle.flt_did.specs.Table.{dids_of}
use Rattle.flt_dcm.specs.declared.unit.Unit.{Unit}
use Rattle.flt_dcm.specs.Unit.{UnitView}

-- The unit without its table.
abbrev pub unit_seen : {F : _} {g : _} → Unit F g → UnitView
unit_seen unit = unit.state

-- Its configuration.
abbrev pub config_of : {F : _} {g : _} → Unit F g → Config
config_of unit = unit.state.dem.durable.config

-- The data identifiers of its table.
abbrev pub table_of : {F : _} {g : _} → Unit F g → List DidUse
table_of unit = dids_of unit.dids
