-- What a function reads, and writes, at one place of a list that it lends.
use Rattle.std.proofs.Common.{◌≡◌, ◌≢◌, ◌∙◌, ℕ, ◌<◌, List, length, get_or, Some, unwrap_or, sym, ap}
use Rattle.std.proofs.Math.ListN.{length-set}
use Rattle.std.proofs.lemmas.Option.{slice_get-get_or, unwrap_or-slice_get}
use Rattle.std.proofs.lemmas.List.{get_or_default}
use Rattle.std.specs.List.{refill}
use Rattle.std.specs.Prelude.{slice_get, slice_set}
use Rattle.flt_config.specs.declared.config.Config.{Config}
use Rattle.flt_config.specs.declared.config.EventCfg.{EventCfg}
use Rattle.flt_model.specs.Start.{Start, event_of, no_event}
use Rattle.flt_model.proofs.Common.{refill-whole, slice_get-set_other}

-- A list that was lent as it is comes back with the place that was written.
pub refill-set : {X : Type 0} (items lent : List X) (place : ℕ) (new : X) → lent ≡ items → refill (length items) items (slice_set lent place new) ≡ slice_set items place new
refill-set {X = X} items lent place new is =
    refill-whole items (slice_set lent place new) (length-set lent place new ∙ ap length is) ∙ ap (λ xs. slice_set xs place new) is

-- And the other places as they were.
pub refill-other : {X : Type 0} (items lent : List X) (place other : ℕ) (new : X) → lent ≡ items → other ≢ place →
    slice_get (refill (length items) items (slice_set lent place new)) other ≡ slice_get items other
refill-other {X = X} items lent place other new is ne =
    ap (λ xs. slice_get xs other) (refill-set items lent place new is) ∙ slice_get-set_other items place other new (λ same. ne (sym same))

-- What is read of an event is its configuration.
module _ (config : Config) (lent : List EventCfg) (event : ℕ) (rules : EventCfg) (read : rules ≡ get_or lent event rules) (lent_is : lent ≡ config.events.items) (within : event < length config.events.items) where
  pub rules_at : rules ≡ get_or config.events.items event rules
  rules_at = read ∙ ap (λ xs. get_or xs event rules) lent_is

  pub rules_found : slice_get config.events.items event ≡ Some rules
  rules_found = slice_get-get_or config.events.items event rules within ∙ ap Some (sym rules_at)

  pub rules_read : (life : Start) → life.config ≡ config → rules ≡ event_of life event
  rules_read life same =
      rules_at ∙ get_or_default config.events.items event rules no_event within ∙ sym (unwrap_or-slice_get config.events.items event no_event)
      ∙ ap (λ k. unwrap_or (slice_get k.events.items event) no_event) (sym same)
