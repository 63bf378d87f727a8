use Rattle.std.proofs.Common.{◌≡◌, ◌<◌, ◌∙◌, ◌∷◌, length, sym, ap, arith, subst}
use Rattle.std.proofs.Math.ListN.{length-set}
use Rattle.std.specs.List.{All, refill}
use Rattle.std.specs.Prelude.{slice_get, slice_set}
use Rattle.flt_config.specs.declared.persist.EntryState.{EntryState}
use Rattle.flt_model.specs.Start.{count, base_of}
use Rattle.flt_model.specs.Mark.{Of, marks_of}
use Rattle.flt_model.specs.Mark.Mark.{Failed}
use Rattle.flt_model.specs.Status.{confirms, durable}
use Rattle.flt_model.specs.Frame.{frame_bytes}
use Rattle.flt_model.specs.Entry.{frame}
use Rattle.flt_memory.specs.Store.{StoresAs}
use Rattle.flt_dem.specs.Standing.{StatesStand}
use Rattle.flt_model.proofs.Common.{refill-whole}
use Rattle.flt_dem.proofs.StateLemmas.{was_state, state_marked}
use Rattle.flt_dem.proofs.ReadLemmas.{refill-set, refill-other, rules_read}
use Rattle.flt_dem.proofs.StoreLemmas.{storing_follows_marks}
use Rattle.flt_dem.proofs.KeptLemmas.{stored_of_config}
use Rattle.flt_dem.proofs.FailureLemmas.{outcome_below, not_displaced, failed_again, memory_again}
use Rattle.flt_dem.proofs.NoteLemmas.{notes_after}
use Rattle.flt_dem.proofs.durable.DurablePart.fail.Goals as goal

pub follow-requires : goal.follow-requires
follow-requires g c =
    let event = c.args.event in
    let items = c.self.inside.states.items in
    outcome_below c.self.inside.config _ event c.frame-frame.result.items c.self.inside.memory c.store-outcome.new.self c.store-outcome.result (length c.self.inside.config.events.items) _
    c.store-outcome.ensures.stored c.self.invariant.within
    (omega (
      arith,
      c.self.invariant.one_each,
      ap length c.deref_mut-then-mark.ensures.value,
      ap length (refill-set items c.deref_mut.result.now event c.failed-mark.new.state c.deref_mut.ensures.value),
      length-set items event c.failed-mark.new.state,
    ))

pub invariant_of-self : goal.invariant_of-self
invariant_of-self g c =
    let event = c.args.event in
    let items = c.self.inside.states.items in
    let lent = c.deref_mut.result.now in
    let new = c.failed-mark.new.state in
    let whole = refill-set items lent event new c.deref_mut.ensures.value in
    let middle = refill (length items) items (slice_set lent event new) in
    let last = refill-whole middle c.follow.new.states (omega (arith, c.follow.auto.states, ap length c.deref_mut-then-mark.ensures.value)) in
    stored_of_config c.self.inside.config items middle _ event c.frame-frame.result.items c.self.inside.memory c.store-outcome.new.self c.store-outcome.result
    (omega (arith, ap length last, ap length whole, length-set items event new, c.follow.auto.states, ap length c.deref_mut-then-mark.ensures.value))
    (rw (← c.self.view_is) at c.requires.configured) c.store-outcome.ensures.stored c.self.invariant

pub returns-then-mark-clause-stands : goal.returns-then-mark-clause-stands
returns-then-mark-clause-stands g c = λ life marks s.
    let event = c.args.event in
    let signals = c.args.signals.now.values in
    let past = marks_of event marks in
    let items = c.self.inside.states.items in
    let lent = c.deref_mut.result.now in
    let new = c.failed-mark.new.state in
    let inside = rw (← c.self.view_is) at s in
    let configured = rw (← c.self.view_is) at c.requires.configured in
    let within : event < count life = omega (arith, configured, c.self.invariant.one_each, inside.states_stand.one_each) in
    let rules = c.index-deref-event.result in
    let found = rules_read c.self.inside.config c.deref.result.now event rules c.index-deref-event.is (c.deref.ensures.0 ∙ ap (λ k. k.events.items) c.config.ensures.value) configured life inside.config in
    let was = was_state life event rules marks items lent c.deref_mut.ensures.value found within inside.states_stand in
    let entered = c.failed-mark.ensures.entered (base_of life event) past was in
    let confirmed = c.failed-mark.ensures.confirmed (base_of life event) past was ∙ ap (λ k. confirms (base_of life event) k past) found in
    let failed_states = state_marked life event Failed signals marks items new within
    (c.failed-mark.ensures.marked (base_of life event) past was ∙ ap (λ k. durable (base_of life event) k (Failed ∷ past)) found) inside.states_stand in
    let middle = refill (length items) items (slice_set lent event new) in
    let stood_middle = subst (λ xs. StatesStand life (Of event Failed signals ∷ marks) xs) (sym (refill-set items lent event new c.deref_mut.ensures.value)) failed_states in
    let bytes : c.frame-frame.result.items ≡ frame life event signals =
    c.frame-frame.ensures ∙ ap (λ k. frame_bytes k.dids.items signals) found in
    let stored = subst (λ b. StoresAs life.config middle event b c.self.inside.memory c.store-outcome.new.self c.store-outcome.result) bytes
    (subst (λ k. StoresAs k middle event c.frame-frame.result.items c.self.inside.memory c.store-outcome.new.self c.store-outcome.result) (sym inside.config) c.store-outcome.ensures.stored) in
    let followed = c.follow.ensures.stand life event signals (Of event Failed signals ∷ marks)
    (subst (λ xs. StatesStand life (Of event Failed signals ∷ marks) xs) (sym c.deref_mut-then-mark.ensures.value) stood_middle) in
    let last = refill-whole middle c.follow.new.states (omega (arith, c.follow.auto.states, ap length c.deref_mut-then-mark.ensures.value)) in
    let parts = storing_follows_marks life event signals marks middle c.self.inside.memory c.store-outcome.new.self c.store-outcome.result
    (record {
      configured = within;
      entered = sym entered ∙ c.if-mark.true;
      states_stand = stood_middle;
      memory_stands = inside.memory_stands;
      distinct = c.store-outcome.ensures.distinct;
      within = subst (λ k. All (λ (entry : EntryState). entry.event < length k.events.items) c.self.inside.memory.entries) (sym inside.config) c.self.invariant.within;
      stored = stored;
    }) in
    rw last (record {
      config = inside.config;
      states_stand = subst (λ m. StatesStand life m c.follow.new.states) (sym parts.0) followed;
      memory_stands = parts.1;
      notes = notes_after life signals event marks c.self.inside.notes c.after_failure-self-inside.result c.failed-mark.result.entered c.failed-mark.result.confirmed inside.notes
          entered confirmed
          c.after_failure-self-inside.ensures.first_failed c.after_failure-self-inside.ensures.first_confirmed
          c.after_failure-self-inside.ensures.recent_failed c.after_failure-self-inside.ensures.recent_confirmed;
    })

pub returns-else-mark-clause-stands : goal.returns-else-mark-clause-stands
returns-else-mark-clause-stands g c = λ life marks s.
    let event = c.args.event in
    let signals = c.args.signals.now.values in
    let past = marks_of event marks in
    let items = c.self.inside.states.items in
    let lent = c.deref_mut.result.now in
    let new = c.failed-mark.new.state in
    let inside = rw (← c.self.view_is) at s in
    let configured = rw (← c.self.view_is) at c.requires.configured in
    let within : event < count life = omega (arith, configured, c.self.invariant.one_each, inside.states_stand.one_each) in
    let rules = c.index-deref-event.result in
    let found = rules_read c.self.inside.config c.deref.result.now event rules c.index-deref-event.is (c.deref.ensures.0 ∙ ap (λ k. k.events.items) c.config.ensures.value) configured life inside.config in
    let was = was_state life event rules marks items lent c.deref_mut.ensures.value found within inside.states_stand in
    let entered = c.failed-mark.ensures.entered (base_of life event) past was in
    let confirmed = c.failed-mark.ensures.confirmed (base_of life event) past was ∙ ap (λ k. confirms (base_of life event) k past) found in
    let failed_states = state_marked life event Failed signals marks items new within
    (c.failed-mark.ensures.marked (base_of life event) past was ∙ ap (λ k. durable (base_of life event) k (Failed ∷ past)) found) inside.states_stand in
    let again = sym entered ∙ c.if-mark.false in
    rw (refill-set items lent event new c.deref_mut.ensures.value) (record {
      config = inside.config;
      states_stand = subst (λ m. StatesStand life m (slice_set items event new)) (sym (failed_again life event signals marks again)) failed_states;
      memory_stands = memory_again life event signals marks c.self.inside.memory again inside.memory_stands;
      notes = notes_after life signals event marks c.self.inside.notes c.after_failure-self-inside.result c.failed-mark.result.entered c.failed-mark.result.confirmed inside.notes
          entered confirmed
          c.after_failure-self-inside.ensures.first_failed c.after_failure-self-inside.ensures.first_confirmed
          c.after_failure-self-inside.ensures.recent_failed c.after_failure-self-inside.ensures.recent_confirmed;
    })

pub returns-then-mark-clause-others : goal.returns-then-mark-clause-others
returns-then-mark-clause-others g c = λ other ne none.
    let event = c.args.event in
    let items = c.self.inside.states.items in
    let lent = c.deref_mut.result.now in
    let middle = refill (length items) items (slice_set lent event c.failed-mark.new.state) in
    let last = refill-whole middle c.follow.new.states (omega (arith, c.follow.auto.states, ap length c.deref_mut-then-mark.ensures.value)) in
    let apart = not_displaced c.self.inside.config middle event other c.frame-frame.result.items c.self.inside.memory c.store-outcome.new.self c.store-outcome.result
    c.store-outcome.ensures.stored (rw (← c.self.view_is) at none) in
    ap (λ xs. slice_get xs other) last ∙ c.follow.ensures.others other apart ∙ ap (λ xs. slice_get xs other) c.deref_mut-then-mark.ensures.value
    ∙ refill-other items lent event other c.failed-mark.new.state c.deref_mut.ensures.value ne ∙ ap (λ f. slice_get f.states other) c.self.view_is

pub returns-else-mark-clause-others : goal.returns-else-mark-clause-others
returns-else-mark-clause-others g c = λ other ne none.
    refill-other c.self.inside.states.items c.deref_mut.result.now c.args.event other c.failed-mark.new.state c.deref_mut.ensures.value ne ∙ ap (λ f. slice_get f.states other) c.self.view_is
