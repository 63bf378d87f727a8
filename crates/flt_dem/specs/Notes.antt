-- The four noted events.
use Rattle.std.specs.Prelude.{ℕ, Option}
use Rattle.flt_config.specs.declared.persist.Persist.{Persist}
use Rattle.flt_model.specs.Noted.{without}
use Rattle.flt_dem.specs.declared.notes.Notes.{Notes}
use Rattle.flt_dem.specs.declared.notes.Which.{Which}
use Rattle.flt_dem.specs.declared.notes.Which.TheVariants.{FirstFailed, FirstConfirmed, RecentFailed, RecentConfirmed}

-- Each of the four by its name.
abbrev pub noted_by : Which → Notes → Option ℕ
noted_by FirstFailed notes = notes.first_failed
noted_by FirstConfirmed notes = notes.first_confirmed
noted_by RecentFailed notes = notes.recent_failed
noted_by RecentConfirmed notes = notes.recent_confirmed

-- The notes of a durable state.
abbrev pub notes_in : Persist → Notes
notes_in base = record {
  first_failed = base.first_failed;
  first_confirmed = base.first_confirmed;
  recent_failed = base.recent_failed;
  recent_confirmed = base.recent_confirmed;
}

-- The notes without those of an event.
abbrev pub notes_without : ℕ → Notes → Notes
notes_without event notes = record {
  first_failed = without event notes.first_failed;
  first_confirmed = without event notes.first_confirmed;
  recent_failed = without event notes.recent_failed;
  recent_confirmed = without event notes.recent_confirmed;
}
