use Rattle.std.proofs.Common.{◌<◌, ◌∙◌, ap, arith}
use Rattle.std.specs.Prelude.{slice_get}
use Rattle.flt_model.specs.Start.{count, base_of, event_of}
use Rattle.flt_model.specs.Mark.{marks_of}
use Rattle.flt_model.specs.Mark.Mark.{Clear}
use Rattle.flt_dem.specs.Notes.{notes_without}
use Rattle.flt_dem.proofs.StateLemmas.{state_marked}
use Rattle.flt_dem.proofs.ReadLemmas.{refill-set, refill-other}
use Rattle.flt_dem.proofs.ClearLemmas.{memory_cleared}
use Rattle.flt_dem.proofs.durable.DurablePart.forget.Goals as goal

pub returns-clause-stands : goal.returns-clause-stands
returns-clause-stands c = λ held signals life marks s.
    let inside = rw (← c.self.view_is) at s in
    let event = c.args.event in
    let items = c.self.inside.states.items in
    let configured = rw (← c.self.view_is) at c.requires in
    let within : event < count life = omega (arith, configured, c.self.invariant.one_each, inside.states_stand.one_each) in
    rw (refill-set items c.deref_mut.result.now event c.clear.new.state c.deref_mut.ensures.value) (record {
      config = inside.config;
      states_stand = state_marked life event Clear signals marks items c.clear.new.state within
          (c.clear.ensures (event_of life event) (base_of life event) (marks_of event marks)) inside.states_stand;
      memory_stands = memory_cleared life event signals marks held inside.memory_stands;
      notes = c.after_clear-self-inside.ensures ∙ ap (λ n. notes_without event n) inside.notes;
    })

pub returns-clause-others : goal.returns-clause-others
returns-clause-others c = λ other ne.
    refill-other c.self.inside.states.items c.deref_mut.result.now c.args.event other c.clear.new.state c.deref_mut.ensures.value ne ∙ ap (λ f. slice_get f.states other) c.self.view_is
