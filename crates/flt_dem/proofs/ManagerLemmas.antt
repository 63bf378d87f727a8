-- What a call does to the started cycles, to the signals and to events at rest.
use Rattle.std.proofs.Common.{◌≡◌, ◌∙◌, ℕ, zero, suc, ◌<◌, Bool, true, false, not, List, [], ◌∷◌, map, length, get_or, Option, Some, unwrap_or, arith, refl, sym, ap, subst}
use Rattle.std.proofs.lemmas.Bool.Decides.{nat_tests}
use Rattle.std.proofs.lemmas.List.{length-map}
use Rattle.std.proofs.lemmas.Option.{get_or_from_slice_get, slice_get-get_or, slice_get-map, slice_get_within, unwrap_or-slice_get}
use Rattle.std.specs.Prelude.{slice_get, slice_set, option_map, is_none}
use Rattle.flt_config.specs.declared.config.Config.{Config}
use Rattle.flt_config.specs.declared.config.EventCfg.{EventCfg}
use Rattle.flt_config.specs.Validity.{IsValid, IsDebounceInRange}
use Rattle.flt_model.specs.Start.{Start, History, event_of, no_event}
use Rattle.flt_model.specs.Debounce.{IsOfKind, debounced}
use Rattle.flt_model.specs.Happening.{readiness, cause_of, is_started, signals, are_met, is_enabled, counts_report}
use Rattle.flt_model.specs.Session.{is_setting_off}
use Rattle.flt_model.specs.Answer.{answer, report_reply}
use Rattle.flt_model.specs.declared.call.Cause.{Cause}
use Rattle.flt_model.specs.declared.call.DebState.{DebState}
use Rattle.flt_model.specs.declared.call.Op.TheVariants as ops
use Rattle.flt_model.specs.declared.call.Report.{Report}
use Rattle.flt_model.proofs.EnableLaws.{seen}
use Rattle.flt_model.proofs.RangeLaws.{debouncing_stays_in_range}
use Rattle.flt_dem.specs.Debounces.{DebouncesStand, AreOfKind}
use Rattle.flt_dem.specs.Events.{IsOfConfig}
use Rattle.flt_dem.specs.Manager.{Manager, StandsFor, events_of, is_cycle_started, is_event_enabled, readiness_at}
use Rattle.flt_dem.proofs.CallLemmas.{stands_none}
use Rattle.flt_dem.proofs.PartLemmas.{ignored_report}

-- ---- signals

pub set_signals : (index value : ℕ) (past : History) → slice_set (signals past) index value ≡ signals (ops.Signal index value ∷ past)
set_signals zero value past = refl
set_signals (suc zero) value past = refl
set_signals (suc (suc zero)) value past = refl
set_signals (suc (suc (suc zero))) value past = refl
set_signals (suc (suc (suc (suc zero)))) value past = refl
set_signals (suc (suc (suc (suc (suc zero))))) value past = refl
set_signals (suc (suc (suc (suc (suc (suc zero)))))) value past = refl
set_signals (suc (suc (suc (suc (suc (suc (suc zero))))))) value past = refl
set_signals (suc (suc (suc (suc (suc (suc (suc (suc index)))))))) value past = grind (arith, nat_tests)

-- ---- at rest

-- The debouncing of each event, at rest.
abbrev pub rest_states : Config → List DebState
rest_states config = map (λ event. debounced event.debounce []) config.events.items

pub rest_stands : (life : Start) (debounces : List DebState) → debounces ≡ rest_states life.config → DebouncesStand life (λ event. []) debounces
rest_stands life debounces is =
    let events = life.config.events.items in
    let at_rest = λ (event : EventCfg). debounced event.debounce [] in
    record {
      one_each = ap length is ∙ length-map events at_rest;
      each = λ event within.
          ap (λ xs. slice_get xs event) is ∙ slice_get-map at_rest events event
          ∙ ap (λ e. option_map at_rest e) (slice_get-get_or events event no_event within)
          ∙ ap (λ e. Some (at_rest e)) (sym (unwrap_or-slice_get events event no_event));
    }

rest_kinds : (config : Config) (debounces : List DebState) → IsValid config → debounces ≡ rest_states config → AreOfKind config.events.items debounces
rest_kinds config debounces valid is event rules state found at =
    let events = config.events.items in
    let at_rest = λ (event : EventCfg). debounced event.debounce [] in
    let read : Some (at_rest rules) ≡ Some state =
    sym (ap (λ e. option_map at_rest e) found) ∙ sym (slice_get-map at_rest events event) ∙ ap (λ xs. slice_get xs event) (sym is) ∙ at in
    let here : at_rest rules ≡ state = cc in
    let within = slice_get_within events event rules found in
    let in_range = subst (λ (e : EventCfg). IsDebounceInRange e.debounce) (get_or_from_slice_get events event rules no_event found) ((valid.events event no_event within).debounce) in
    subst (λ s. IsOfKind rules.debounce s) here (debouncing_stays_in_range rules.debounce [] in_range)

pub rest_of_config : (config : Config) (debounces : List DebState) → IsValid config → debounces ≡ rest_states config → IsOfConfig config debounces
rest_of_config config debounces valid is = record {
  one_each = ap length is ∙ length-map config.events.items (λ (event : EventCfg). debounced event.debounce []);
  kinds = rest_kinds config debounces valid is;
}

pub none_started : (cycle : ℕ) → cycle < 4 → slice_get (false ∷ false ∷ false ∷ false ∷ []) cycle ≡ Some (is_started cycle [])
none_started zero h = refl
none_started (suc zero) h = refl
none_started (suc (suc zero)) h = refl
none_started (suc (suc (suc zero))) h = refl
none_started (suc (suc (suc (suc cycle)))) h = absurd (omega arith)

-- ---- the setting

pub off_where : (off : Bool) → not off ≡ false → off ≡ true
off_where true e = refl
off_where false e = absurd (cc)

-- ---- a report

-- The cycle of an event is one of the four.
pub cycle_below : (config : Config) (event : ℕ) → IsValid config → event < length config.events.items → (unwrap_or (slice_get config.events.items event) no_event).cycle < 4
cycle_below config event valid within =
    let below = (valid.events event no_event within).cycle in
    rw (unwrap_or-slice_get config.events.items event no_event) (omega (arith, below))

-- Whether the cycle of an event was started is read at the event's cycle.
cycle_read : (manager : Manager) (event : ℕ) (rules : EventCfg) → slice_get manager.durable.config.events.items event ≡ Some rules →
    is_cycle_started manager event ≡ get_or manager.started rules.cycle false
cycle_read manager event rules found =
    ap (λ e. unwrap_or (slice_get manager.started (unwrap_or e no_event).cycle) false) found ∙ unwrap_or-slice_get manager.started rules.cycle false

-- And is what the calls so far say.
cycle_stands : (life : Start) (past : History) (manager : Manager) (event : ℕ) → IsValid manager.durable.config → event < length manager.durable.config.events.items →
    StandsFor life past manager → is_cycle_started manager event ≡ is_started (event_of life event).cycle past
cycle_stands life past manager event valid within s =
    let cycle = (unwrap_or (slice_get manager.durable.config.events.items event) no_event).cycle in
    ap (λ o. unwrap_or o false) (s.started cycle (cycle_below manager.durable.config event valid within))
    ∙ ap (λ k. is_started (unwrap_or (slice_get k.events.items event) no_event).cycle past) (sym s.events.durable_stands.config)

-- Why a report is ignored is read at the event's cycle and at what the event needs.
pub cause_read : (manager : Manager) (event : ℕ) (rules : EventCfg) (setting met : Bool) → slice_get manager.durable.config.events.items event ≡ Some rules → met ≡ are_met rules.needs manager.conditions →
    cause_of (readiness_at setting manager event) ≡ cause_of (seen setting (get_or manager.started rules.cycle false) met)
cause_read manager event rules setting met found met_is =
    ap (λ started. cause_of (seen setting started (is_event_enabled manager event))) (cycle_read manager event rules found)
    ∙ ap (λ enabled. cause_of (seen setting (get_or manager.started rules.cycle false) enabled))
    (ap (λ e. are_met (unwrap_or e no_event).needs manager.conditions) found ∙ sym met_is)

-- Whether the event is enabled is what the calls so far say.
enabled_stands : (life : Start) (past : History) (manager : Manager) (event : ℕ) → StandsFor life past manager →
    is_event_enabled manager event ≡ is_enabled life event past
enabled_stands life past manager event s =
    ap (λ k. are_met (unwrap_or (slice_get k.events.items event) no_event).needs manager.conditions) (sym s.events.durable_stands.config)
    ∙ ap (are_met (event_of life event).needs) s.conditions

-- What is seen of the event is what the calls so far say.
readiness_stands : (life : Start) (past : History) (manager : Manager) (event : ℕ) (setting : Bool) → IsValid manager.durable.config → event < length manager.durable.config.events.items →
    setting ≡ not (is_setting_off past) → StandsFor life past manager → readiness_at setting manager event ≡ readiness life event past
readiness_stands life past manager event setting valid within setting_is s =
    ap (λ on. seen on (is_cycle_started manager event) (is_event_enabled manager event)) setting_is
    ∙ ap (λ started. seen (not (is_setting_off past)) started (is_event_enabled manager event)) (cycle_stands life past manager event valid within s)
    ∙ ap (seen (not (is_setting_off past)) (is_started (event_of life event).cycle past)) (enabled_stands life past manager event s)

-- Why a report is ignored decides what is answered.
pub cause_is_answer : (life : Start) (past : History) (manager : Manager) (event : ℕ) (report : Report) (setting : Bool) (cause : Option Cause) →
    IsValid manager.durable.config → event < length manager.durable.config.events.items → setting ≡ not (is_setting_off past) → StandsFor life past manager →
    cause ≡ cause_of (readiness_at setting manager event) → report_reply cause ≡ answer life past (ops.Report event report)
cause_is_answer life past manager event report setting cause valid within setting_is s is =
    ap report_reply (is ∙ ap cause_of (readiness_stands life past manager event setting valid within setting_is s))

-- A report counts where there is no cause to ignore it.
pub counts_where : (life : Start) (past : History) (manager : Manager) (event : ℕ) (setting : Bool) (cause : Option Cause) →
    IsValid manager.durable.config → event < length manager.durable.config.events.items → setting ≡ not (is_setting_off past) → StandsFor life past manager →
    cause ≡ cause_of (readiness_at setting manager event) → is_none cause ≡ counts_report life event past
counts_where life past manager event setting cause valid within setting_is s is =
    ap is_none (is ∙ ap cause_of (readiness_stands life past manager event setting valid within setting_is s))

-- A report that does not count changes nothing.
pub stands_ignored : (life : Start) (past : History) (manager : Manager) (event : ℕ) (report : Report) → counts_report life event past ≡ false →
    StandsFor life past manager → StandsFor life (ops.Report event report ∷ past) manager
stands_ignored life past manager event report ignored s = record {
  events = stands_none life past (ops.Report event report) (events_of manager) (λ marks. refl) (λ other within. ignored_report life past event other report ignored) s.events;
  started = s.started;
  signals = s.signals;
  conditions = s.conditions;
}
