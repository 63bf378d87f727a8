-- What a contract sees of an event manager with its table: the manager, and the data identifiers.
use Rattle.std.specs.Prelude.{List}
use Rattle.flt_config.specs.declared.config.Config.{Config}
use Rattle.flt_config.specs.declared.config.DidUse.{DidUse}
use Rattle.flt_did.specs.Table.{dids_of}
use Rattle.flt_dem.specs.declared.dem.Dem.{Dem}
use Rattle.flt_dem.specs.Manager.{Manager}

-- The manager without its table.
abbrev pub manager_of : {F : _} {g : _} → Dem F g → Manager
manager_of dem = dem.state

-- Its configuration.
abbrev pub manager_config : {F : _} {g : _} → Dem F g → Config
manager_config dem = dem.state.durable.config

-- The data identifiers of its table.
abbrev pub manager_table : {F : _} {g : _} → Dem F g → List DidUse
manager_table dem = dids_of dem.dids
