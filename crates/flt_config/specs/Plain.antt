-- An event that names nothing but its DTC (this profile).
use Rattle.std.specs.Prelude.{ℕ, pos, negsuc, [], false, None}
use Rattle.flt_config.specs.declared.config.Debounce.TheVariants.{Counter}
use Rattle.flt_config.specs.declared.config.EventCfg.{EventCfg}

-- The event of this DTC: each other value is what an event line gives where it names none.
abbrev pub plain_event : ℕ → EventCfg
plain_event dtc = record {
  dtc = dtc;
  priority = 1;
  cycle = 0;
  confirm = 1;
  heal = 3;
  age = 40;
  indicator = false;
  needs = 0;
  debounce = Counter (pos 1) (negsuc 0) (pos 1) (pos 1) None None;
  dids = record { items = [] };
}
