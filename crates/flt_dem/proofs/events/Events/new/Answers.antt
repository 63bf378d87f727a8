use Rattle.std.proofs.Common.{◌∙◌, ap}
use Rattle.flt_model.specs.Start.{fresh}
use Rattle.flt_dem.proofs.ManagerLemmas.{rest_of_config, rest_states, rest_stands}
use Rattle.flt_dem.proofs.events.Events.new.Goals as goal

pub invariant_of-result : goal.invariant_of-result
invariant_of-result c =
    rest_of_config c.new-durable.result.config c.at_rest.result.items c.config.ensures.valid (c.at_rest.ensures ∙ ap (λ k. rest_states k) c.config.ensures.value)

pub returns-clause-stands : goal.returns-clause-stands
returns-clause-stands c = record {
  debounces_stand = rest_stands (fresh c.args.config) c.at_rest.result.items (c.at_rest.ensures ∙ ap (λ k. rest_states k) (c.config.ensures.value ∙ c.new-durable.ensures.config));
  durable_stands = c.new-durable.ensures.stands;
}
