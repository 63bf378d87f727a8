-- The first state fits.
use Rattle.std.proofs.Common.{refl, subst, sym, arith, rules}
use Rattle.std.specs.Prelude.{slice_index_or, length}
use Rattle.std.proofs.lemmas.List.{length-replicate, get_or-replicate}
use Rattle.flt_config.specs.declared.config.Config.{Config}
use Rattle.flt_config.specs.declared.config.EventCfg.{EventCfg}
use Rattle.flt_config.specs.Durable.{Fits, AreStatesOf, IsStateOf, initial_state, start_state}

-- So does the start state of an event.
start_fits : (event : EventCfg) → IsStateOf event start_state
start_fits event = record {
  status = omega arith;
  failed = omega arith;
  clean = omega arith;
  warning = (λ set. absurd (set refl), λ both. absurd (let no = both.0 in cc));
  lit = λ is. absurd (cc);
}

pub initial_states : (c : Config) → AreStatesOf c.events.items (initial_state c).events.items
initial_states c = record {
  one_each = length-replicate (length c.events.items) start_state;
  fitting = λ k event state below.
      subst (IsStateOf (slice_index_or c.events.items k event)) (sym (get_or-replicate (length c.events.items) k start_state state below))
      (start_fits (slice_index_or c.events.items k event));
}

pub initial_fits : (c : Config) → Fits c (initial_state c)
initial_fits c = record {
  states = initial_states c;
  room = omega arith;
  entries = search rules;
  distinct = search rules;
  first_failed = tt;
  first_confirmed = tt;
  recent_failed = tt;
  recent_confirmed = tt;
}
