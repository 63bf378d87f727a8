-- What a lock over the status machine begins with.
use Rattle.std.specs.Prelude.{[]}
use Rattle.flt_model.specs.declared.life.DemStart.{DemStart}
use Rattle.flt_model.specs.Start.{fresh}
use Rattle.flt_dcm.specs.Unit.{UnitView}

-- The configuration of a unit, and the durable state that it was last started from.
abbrev pub start_of : UnitView → DemStart
start_of unit = record { config = unit.dem.durable.config; base = unit.base }

-- Some start, for a place where it is never read.
abbrev pub some_start : DemStart
some_start = fresh record { id = 0; memory = 0; pages = 0; blocks = 0; events = record { items = [] } }
