-- Worked states of events and entries, which fit or do not.
use Rattle.std.specs.Prelude.{ℕ, [], ◌∷◌, replicate, true, false, Bool}
use Rattle.flt_config.specs.declared.config.EventCfg.{EventCfg}
use Rattle.flt_config.specs.declared.persist.EventState.{EventState}
use Rattle.flt_config.specs.declared.persist.EntryState.{EntryState}
use Rattle.flt_config.specs.Durable.{IsEntryOf, IsStateOf}
use Rattle.flt_config.specs.Plain.{plain_event}

-- An event with an indicator, which heals after three clean cycles.
abbrev pub with_lamp : EventCfg
with_lamp = record (plain_event 1) { indicator = true }

-- A state of this status with this many clean cycles, lit or not.
abbrev pub event_state : ℕ → ℕ → Bool → EventState
event_state status clean lit = record { status = status; failed = 0; clean = clean; lit = lit }

-- An event that is lit has an indicator and is confirmed, and its warning is requested until it heals; clean cycles are at most 510.
pub record StatesFit : Type 0 where
  pub lit : IsStateOf with_lamp (event_state 0x88 2 true)
  pub healed : IsStateOf with_lamp (event_state 0x08 3 true)
  pub most_clean : IsStateOf (plain_event 1) (event_state 0x50 510 false)
  pub without_lamp : ¬ IsStateOf (plain_event 1) (event_state 0x88 2 true)
  pub healed_without_lamp : ¬ IsStateOf (plain_event 1) (event_state 0x08 3 true)
  pub unconfirmed : ¬ IsStateOf with_lamp (event_state 0x80 2 true)
  pub no_warning : ¬ IsStateOf with_lamp (event_state 0x08 2 true)
  pub late_warning : ¬ IsStateOf with_lamp (event_state 0x88 3 true)
  pub unlit_warning : ¬ IsStateOf with_lamp (event_state 0x88 2 false)
  pub too_clean : ¬ IsStateOf (plain_event 1) (event_state 0x50 511 false)

-- An entry of this event with this many occurrences, whose frames have this many bytes.
abbrev pub event_entry : ℕ → ℕ → ℕ → ℕ → EntryState
event_entry event occurrence first recent =
    record { event = event; occurrence = occurrence; first = record { items = replicate first 0 }; recent = record { items = replicate recent 0 } }

-- An event with a data identifier of two bytes.
abbrev pub with_frames : EventCfg
with_frames = record (plain_event 1) { dids = record { items = record { id = 0x0101; width = 2 } ∷ [] } }

-- An entry is of one of the events, occurred 1 to 255 times, and has frames of its width.
pub record EntriesFit : Type 0 where
  pub least : IsEntryOf (with_frames ∷ []) (event_entry 0 1 2 2)
  pub most : IsEntryOf (with_frames ∷ []) (event_entry 0 255 2 2)
  pub none : ¬ IsEntryOf (with_frames ∷ []) (event_entry 0 0 2 2)
  pub too_many : ¬ IsEntryOf (with_frames ∷ []) (event_entry 0 256 2 2)
  pub no_event : ¬ IsEntryOf (with_frames ∷ []) (event_entry 1 1 2 2)
  pub short_first : ¬ IsEntryOf (with_frames ∷ []) (event_entry 0 1 1 2)
  pub long_recent : ¬ IsEntryOf (with_frames ∷ []) (event_entry 0 1 2 3)
