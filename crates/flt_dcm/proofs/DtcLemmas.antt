-- The event of a DTC, where one has it, and requests that clear nothing.
use Rattle.std.proofs.Common.{◌≡◌, ◌≢◌, ◌∙◌, ℕ, ◌<◌, true, false, ◌∷◌, length, get_or, position, Option, Some, None, arith, sym, ap, subst, eqb-true, eq-eqb}
use Rattle.std.proofs.lemmas.List.Quantifiers.{position-Some}
use Rattle.std.proofs.lemmas.Option.{unwrap_or-slice_get}
use Rattle.std.specs.List.{find}
use Rattle.std.specs.Prelude.{slice_get, unwrap_or}
use Rattle.flt_config.specs.Validity.{has_dtc}
use Rattle.flt_config.proofs.DistinctLemmas.{position-None}
use Rattle.flt_model.specs.Start.{Start, History, count, event_of, no_event}
use Rattle.flt_model.specs.Happening.{cleared_dtc, dtc_of_clear}
use Rattle.flt_model.specs.Response.{is_of_dtc}
use Rattle.flt_model.specs.declared.call.Op.TheVariants as ops
use Rattle.flt_model.specs.declared.request.Request.{Request}
use Rattle.flt_model.specs.declared.request.Request.TheVariants as requests
use Rattle.flt_model.specs.Request.{RequestBytes}
use Rattle.flt_dem.specs.Laws.{ClearsNothing}
use Rattle.flt_dem.specs.Manager.{Manager, StandsFor}
use Rattle.flt_dem.specs.View.{rules_of, event_seen, manager_view}
use Rattle.flt_dem.proofs.IdleLemmas.{stands_idle}
use Rattle.flt_dcm.specs.Unknown.{ClearsNone}
use Rattle.flt_dcm.proofs.ListLemmas.{first_found, unknown_dtc}

module _ (manager : Manager) (dtc : ℕ) where
  -- The test of an event's DTC, as it is seen.
  seen_test : (event : ℕ) → is_of_dtc dtc (event_seen manager event) ≡ has_dtc dtc (get_or manager.durable.config.events.items event no_event)
  seen_test event = ap (has_dtc dtc) (unwrap_or-slice_get manager.durable.config.events.items event no_event)

  pub found_event : (event : ℕ) → position (has_dtc dtc) manager.durable.config.events.items ≡ Some event →
      (event < length manager.durable.config.events.items) × (find (is_of_dtc dtc) (manager_view manager).events ≡ Some (event_seen manager event))
  found_event event is =
      let events = manager.durable.config.events.items in
      let at = position-Some (has_dtc dtc) events event no_event is in
      (at.0, first_found (is_of_dtc dtc) manager (length events) event at.0 (seen_test event ∙ at.1) (λ k below. seen_test k ∙ at.2 k below))

  pub found_dtc : (event : ℕ) → position (has_dtc dtc) manager.durable.config.events.items ≡ Some event → (rules_of manager event).dtc ≡ dtc
  found_dtc event is =
      let at = position-Some (has_dtc dtc) manager.durable.config.events.items event no_event is in
      eqb-true (rules_of manager event).dtc dtc (seen_test event ∙ at.1)

  pub no_event_found : position (has_dtc dtc) manager.durable.config.events.items ≡ None → find (is_of_dtc dtc) (manager_view manager).events ≡ None
  no_event_found is =
      let events = manager.durable.config.events.items in
      unknown_dtc (is_of_dtc dtc) manager (length events) (λ k below. seen_test k ∙ position-None (has_dtc dtc) events k no_event is below)

module _ (life : Start) (past : History) (manager : Manager) (s : StandsFor life past manager) where
  pub dtc_of_event : (dtc event : ℕ) → position (has_dtc dtc) manager.durable.config.events.items ≡ Some event → dtc ≡ (event_of life event).dtc
  dtc_of_event dtc event is =
      sym (found_dtc manager dtc event is) ∙ ap (λ k. (unwrap_or (slice_get k.events.items event) no_event).dtc) (sym s.events.durable_stands.config)

  other_dtcs : (dtc : ℕ) → position (has_dtc dtc) manager.durable.config.events.items ≡ None → (event : ℕ) → event < count life → dtc ≢ (event_of life event).dtc
  other_dtcs dtc is event within same =
      let events = manager.durable.config.events.items in
      let config = s.events.durable_stands.config in
      let below : event < length events = omega (arith, within, ap (λ k. length k.events.items) config) in
      let not_own : has_dtc dtc (get_or events event no_event) ≡ false = position-None (has_dtc dtc) events event no_event is below in
      let own : (get_or events event no_event).dtc ≡ dtc =
      ap (λ e. e.dtc) (sym (unwrap_or-slice_get events event no_event)) ∙ ap (λ k. (unwrap_or (slice_get k.events.items event) no_event).dtc) (sym config) ∙ sym same in
      let test : has_dtc dtc (get_or events event no_event) ≡ true = eq-eqb (get_or events event no_event).dtc dtc own in
      absurd cc

  clears_nothing : (request : Request) → ClearsNone manager request → ClearsNothing life (dtc_of_clear request)
  clears_nothing (requests.Clear dtc) none = (none.0, other_dtcs dtc none.1)
  clears_nothing (requests.Session extended) none = tt
  clears_nothing requests.Present none = tt
  clears_nothing (requests.Setting on) none = tt
  clears_nothing (requests.Count mask) none = tt
  clears_nothing (requests.ByMask mask) none = tt
  clears_nothing requests.Snapshots none = tt
  clears_nothing (requests.Snapshot dtc number) none = tt
  clears_nothing (requests.Extended dtc number) none = tt
  clears_nothing requests.Supported none = tt
  clears_nothing (requests.Noted sub) none = tt
  clears_nothing requests.Counters none = tt

  -- A request that clears no event changes nothing of the manager.
  pub stands_uncleared : (tester : ℕ) (sent : RequestBytes) (clears : Option ℕ) → cleared_dtc (ops.Request tester sent) ≡ clears → ClearsNothing life clears →
      StandsFor life (ops.Request tester sent ∷ past) manager
  stands_uncleared tester sent clears is nothing =
      stands_idle life past manager (ops.Request tester sent) (subst (λ c. ClearsNothing life c) (sym is) nothing) s

  pub stands_unknown : (tester : ℕ) (sent : RequestBytes) (request : Request) → cleared_dtc (ops.Request tester sent) ≡ dtc_of_clear request → ClearsNone manager request →
      StandsFor life (ops.Request tester sent ∷ past) manager
  stands_unknown tester sent request is none = stands_uncleared tester sent (dtc_of_clear request) is (clears_nothing request none)
