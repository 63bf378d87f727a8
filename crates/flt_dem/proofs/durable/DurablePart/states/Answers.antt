use Rattle.std.proofs.Common.{◌∙◌}
use Rattle.flt_dem.proofs.SavedLemmas.{states_saved}
use Rattle.flt_dem.proofs.durable.DurablePart.states.Goals as goal

pub returns-clause-stands : goal.returns-clause-stands
returns-clause-stands c = λ life marks s.
    let inside = rw (← c.self.view_is) at s in
    c.deref.ensures.0 ∙ states_saved life marks c.self.inside.states.items inside.states_stand
