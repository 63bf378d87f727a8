-- What a contract sees of a watched machine: its unit, the values of the three kinds, and the status bytes.
use Rattle.std.specs.Prelude.{ℕ, List}
use Rattle.flt_model.specs.Start.{Start, History}
use Rattle.flt_dcm.specs.Unit.{UnitView}
use Rattle.flt_notify.specs.declared.watched.Watched.{Watched}
use Rattle.flt_notify.specs.Watch.{IsWatching}

-- The unit without its table.
abbrev pub watched_unit : Watched → UnitView
watched_unit watched = watched.guarded.state.value

-- The values.
abbrev pub values_now : Watched → List ℕ
values_now watched = watched.values

-- The status bytes after its last call.
abbrev pub bytes_now : Watched → List ℕ
bytes_now watched = watched.statuses.value.items

-- It stands for a base and these calls, and so do its values.
abbrev pub Watches : Start → History → Watched → Type 0
Watches life past watched = IsWatching life past (watched_unit watched) (values_now watched) (bytes_now watched) watched.calls
