use Rattle.std.proofs.Common.{◌<◌, ◌∙◌, get_or, sym, ap, arith}
use Rattle.std.specs.Prelude.{slice_get}
use Rattle.flt_model.specs.Start.{count, base_of, event_of}
use Rattle.flt_model.specs.Mark.{marks_of}
use Rattle.flt_model.specs.Mark.Mark.{Passed}
use Rattle.flt_model.proofs.EntryLemmas.{passed_entries}
use Rattle.flt_dem.proofs.StateLemmas.{blank, read_state, state_marked}
use Rattle.flt_dem.proofs.ReadLemmas.{refill-set, refill-other}
use Rattle.flt_dem.proofs.durable.DurablePart.pass.Goals as goal

pub returns-clause-stands : goal.returns-clause-stands
returns-clause-stands c = λ signals life marks s.
    let inside = rw (← c.self.view_is) at s in
    let event = c.args.event in
    let items = c.self.inside.states.items in
    let lent = c.deref_mut.result.now in
    let configured = rw (← c.self.view_is) at c.requires in
    let within : event < count life = omega (arith, configured, c.self.invariant.one_each, inside.states_stand.one_each) in
    let was = ap (λ xs. get_or xs event blank) c.deref_mut.ensures.value ∙ read_state life event marks items within inside.states_stand in
    rw (refill-set items lent event c.passed.new.state c.deref_mut.ensures.value) (record {
      config = inside.config;
      states_stand = state_marked life event Passed signals marks items c.passed.new.state within
          (c.passed.ensures.marked (event_of life event) (base_of life event) (marks_of event marks) was) inside.states_stand;
      memory_stands = record {
        entries = inside.memory_stands.entries ∙ sym (passed_entries life event signals marks);
        overflow = inside.memory_stands.overflow;
      };
      notes = inside.notes;
    })

pub returns-clause-others : goal.returns-clause-others
returns-clause-others c = λ other ne.
    refill-other c.self.inside.states.items c.deref_mut.result.now c.args.event other c.passed.new.state c.deref_mut.ensures.value ne ∙ ap (λ f. slice_get f.states other) c.self.view_is
