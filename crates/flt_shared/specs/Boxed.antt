-- What a contract sees of a boxed unit.
use Rattle.flt_config.specs.declared.config.Config.{Config}
use Rattle.flt_dcm.specs.Unit.{UnitView}
use Rattle.flt_shared.specs.declared.guarded.BoxedUnit.{BoxedUnit}

-- The unit without its table.
abbrev pub unit_in : {F : _} {g : _} → BoxedUnit F g → UnitView
unit_in boxed = boxed.state.value

-- Its configuration.
abbrev pub config_in : {F : _} {g : _} → BoxedUnit F g → Config
config_in boxed = boxed.state.value.dem.durable.config
