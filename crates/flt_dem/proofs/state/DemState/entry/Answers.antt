use Rattle.std.proofs.Common.{◌∙◌, ap}
use Rattle.std.specs.List.{find}
use Rattle.flt_config.specs.Durable.{is_of_event}
use Rattle.flt_model.specs.Trace.{trace}
use Rattle.flt_dem.proofs.SavedLemmas.{entry_found}
use Rattle.flt_dem.proofs.state.DemState.entry.Goals as goal

pub returns-clause-stands : goal.returns-clause-stands
returns-clause-stands c = λ life past s.
    let inside = rw (← c.self.view_is) at s in
    c.entry.ensures
    ∙ ap (λ f. find (is_of_event c.args.event) f.memory.entries) c.durable.ensures
    ∙ entry_found life (trace life past) c.args.event c.self.inside.events.durable.memory.entries inside.events.durable_stands.memory_stands.entries
