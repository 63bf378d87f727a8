use Rattle.std.proofs.Common.{◌∙◌, sym, ap}
use Rattle.std.specs.Prelude.{slice_get}
use Rattle.flt_dem.proofs.ReadLemmas.{rules_found, rules_read}
use Rattle.flt_dem.proofs.durable.DurablePart.rules.Goals as goal

pub returns-clause-found : goal.returns-clause-found
returns-clause-found c =
    ap (λ f. slice_get f.config.events.items c.args.event) (sym c.self.view_is)
    ∙ rules_found c.self.inside.config c.deref.result.now c.args.event c.index-deref-event.result c.index-deref-event.is (c.deref.ensures.0 ∙ ap (λ k. k.events.items) c.config.ensures.value)
    (rw (← c.self.view_is) at c.requires)

pub returns-clause-of_life : goal.returns-clause-of_life
returns-clause-of_life c = λ life same.
    rules_read c.self.inside.config c.deref.result.now c.args.event c.index-deref-event.result c.index-deref-event.is (c.deref.ensures.0 ∙ ap (λ k. k.events.items) c.config.ensures.value)
    (rw (← c.self.view_is) at c.requires) life (same ∙ ap (λ f. f.config) (sym c.self.view_is))
