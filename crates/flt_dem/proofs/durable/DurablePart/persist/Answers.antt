use Rattle.std.proofs.Common.{◌∙◌}
use Rattle.flt_dem.proofs.SavedLemmas.{states_saved}
use Rattle.flt_dem.proofs.durable.DurablePart.persist.Goals as goal

pub returns : goal.returns
returns c = λ life marks s.
    let inside = rw (← c.self.view_is) at s in
    let states = c.copied_states-out.ensures ∙ states_saved life marks c.self.inside.states.items inside.states_stand in
    let entries = c.copied_entries-out.ensures ∙ c.entries.ensures.value ∙ inside.memory_stands.entries in
    let overflow = c.overflow-out.ensures ∙ inside.memory_stands.overflow in
    let notes = inside.notes in
    λ i. record {
      events = record { items = states i };
      entries = record { items = entries i };
      overflow = overflow i;
      first_failed = (notes i).first_failed;
      first_confirmed = (notes i).first_confirmed;
      recent_failed = (notes i).recent_failed;
      recent_confirmed = (notes i).recent_confirmed;
    }
