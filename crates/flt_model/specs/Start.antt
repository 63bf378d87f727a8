-- What a life of the controller starts from, and the calls that it takes (this profile).
use Rattle.std.specs.Prelude.{ℕ, List, [], length, slice_get, unwrap_or, pos, negsuc, None, false}
use Rattle.flt_config.specs.declared.config.EventCfg.{EventCfg}
use Rattle.flt_config.specs.declared.config.Debounce.TheVariants.{Counter}
use Rattle.flt_config.specs.declared.persist.EventState.{EventState}
use Rattle.flt_config.specs.declared.config.Config.{Config}
use Rattle.flt_config.specs.Durable.{start_state, initial_state}
use Rattle.flt_model.specs.declared.call.Op.{Op}
use Rattle.flt_model.specs.declared.life.DemStart.{DemStart}

-- What a status machine starts from: its configuration, and the durable state that was restored at power-up.
abbrev pub Start : Type 0
Start = DemStart

-- The start with nothing saved.
abbrev pub fresh : Config → Start
fresh config = record { config = config; base = initial_state config }

-- The calls since power-up, newest first.
abbrev pub History : Type 0
History = List Op

-- The default past the last event, which nothing reads.
abbrev pub no_event : EventCfg
no_event = record {
  dtc = 0;
  priority = 0;
  cycle = 0;
  confirm = 0;
  heal = 0;
  age = 0;
  indicator = false;
  needs = 0;
  debounce = Counter (pos 1) (negsuc 0) (pos 1) (pos 1) None None;
  dids = record { items = [] };
}

-- The number of configured events.
abbrev pub count : Start → ℕ
count life = length life.config.events.items

-- The configuration of an event.
abbrev pub event_of : Start → ℕ → EventCfg
event_of life event = unwrap_or (slice_get life.config.events.items event) no_event

-- The state of an event at power-up.
abbrev pub base_of : Start → ℕ → EventState
base_of life event = unwrap_or (slice_get life.base.events.items event) start_state
