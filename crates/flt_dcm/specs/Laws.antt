-- What holds of every unit.
use Rattle.flt_model.specs.Start.{Start, History}
use Rattle.flt_dcm.specs.Unit.{UnitView, Stands}
use Rattle.flt_dcm.specs.Standard.{SaysStandard}

-- After any calls, the six bits say what the standard says.
abbrev pub StandingUnitSaysStandard : Type 0
StandingUnitSaysStandard = (life : Start) (past : History) (unit : UnitView) → Stands life past unit → SaysStandard life past unit.dem
