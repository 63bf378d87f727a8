use Rattle.std.proofs.Common.{◌≡◌, ◌∙◌, ◌+◌, ◌-◌, min, sym, ap, subst, List, length, arith}
use Rattle.std.specs.Prelude.{bytes_eq, slice_range}
use Rattle.flt_config.specs.declared.config.Config.{Config}
use Rattle.flt_config.specs.declared.config.EventCfg.{EventCfg}
use Rattle.flt_config.specs.declared.persist.EventState.{EventState}
use Rattle.flt_config.specs.Durable.{AreStatesOf}
use Rattle.flt_store_model.specs.Form.{states_bytes}
use Rattle.flt_store_model.specs.Reading.{with_states}
use Rattle.flt_store_model.proofs.Parts.{states_short}
use Rattle.flt_image.specs.Taking.{HaveShortCounts, block_states}
use Rattle.flt_image.proofs.Takings.{refuses, takes, states_unfit, states_differ, states_taken, all_set, own_read}
use Rattle.flt_image.proofs.states.take_states.Goals as goal

pub returns-then-not-are_states_of : goal.returns-then-not-are_states_of
returns-then-not-are_states_of c =
    let events = c.deref.ensures.0 ∙ ap (λ (s : Config). s.events.items) c.config.ensures.value in
    let many = ap (λ (s : Config). length s.events.items) c.config.ensures.value in
    let count_is : c.min-count.result ≡ min (length c.args.config.now.events.items - c.args.first) 16 = omega (arith, c.min-count.ensures, c.len.ensures.value, many) in
    refuses c.args.into.now
    (states_unfit c.args.config.now c.args.first c.min-count.result c.args.bytes.now c.args.into.now c.requires.states c.requires.first count_is
    c.states_from-states.result.items c.states_from-states.ensures
    (λ fits.
    let back = subst (λ (es : List EventCfg). AreStatesOf (slice_range es c.args.first (c.args.first + c.min-count.result)) c.deref-2.result.now) (sym events)
    (subst (λ (xs : List EventState). AreStatesOf (slice_range c.args.config.now.events.items c.args.first (c.args.first + c.min-count.result)) xs) (sym c.deref-2.ensures.0) fits) in
    let yes = c.are_states_of.ensures.1 back in let no = c.if-not-are_states_of.true in absurd (cc (yes, no))))

pub are_bytes_of-requires : goal.are_bytes_of-requires
are_bytes_of-requires c =
    subst HaveShortCounts (c.deref-2.ensures.0 ∙ sym c.deref-3.ensures.0) (states_short _ c.deref-2.result.now (c.are_states_of.ensures.0 c.if-not-are_states_of.false))

pub returns-then-not-are_bytes_of : goal.returns-then-not-are_bytes_of
returns-then-not-are_bytes_of c =
    let many = ap (λ (s : Config). length s.events.items) c.config.ensures.value in
    let count_is : c.min-count.result ≡ min (length c.args.config.now.events.items - c.args.first) 16 = omega (arith, c.min-count.ensures, c.len.ensures.value, many) in
    let read = ap (λ (xs : List EventState). bytes_eq c.args.bytes.now (states_bytes xs 0)) c.deref-3.ensures.0 in
    refuses c.args.into.now
    (states_differ c.args.config.now c.args.first c.min-count.result c.args.bytes.now c.args.into.now c.requires.states c.requires.first count_is
    c.states_from-states.result.items c.states_from-states.ensures (sym read ∙ sym c.are_bytes_of.ensures ∙ c.if-not-are_bytes_of.true))

pub returns : goal.returns
returns c =
    let events = c.deref.ensures.0 ∙ ap (λ (s : Config). s.events.items) c.config.ensures.value in
    let many = ap (λ (s : Config). length s.events.items) c.config.ensures.value in
    let count_is : c.min-count.result ≡ min (length c.args.config.now.events.items - c.args.first) 16 = omega (arith, c.min-count.ensures, c.len.ensures.value, many) in
    let read = ap (λ (xs : List EventState). bytes_eq c.args.bytes.now (states_bytes xs 0)) c.deref-3.ensures.0 in
    let fits = subst (λ (xs : List EventState). AreStatesOf (slice_range c.args.config.now.events.items c.args.first (c.args.first + c.min-count.result)) xs) c.deref-2.ensures.0
    (subst (λ (es : List EventCfg). AreStatesOf (slice_range es c.args.first (c.args.first + c.min-count.result)) c.deref-2.result.now) events (c.are_states_of.ensures.0 c.if-not-are_states_of.false)) in
    let own = own_read c.args.config.now c.args.first c.min-count.result c.args.bytes.now c.args.into.now c.requires.states c.requires.first count_is c.states_from-states.result.items c.states_from-states.ensures in
    let set = c.set_states.ensures c.args.bytes.now (subst (λ (xs : List EventState). xs ≡ block_states c.args.bytes.now (length xs)) (sym c.deref-4.ensures.0) own)
    ∙ ap (λ (xs : List EventState). with_states c.args.bytes.now c.args.first (length xs) c.args.into.now.events.items) c.deref-4.ensures.0
    ∙ all_set c.args.config.now c.args.first c.min-count.result c.args.bytes.now c.args.into.now c.requires.states c.requires.first count_is c.states_from-states.result.items c.states_from-states.ensures in
    takes c.args.into.now (record c.args.into.now { events = c.set_states.new.into })
    (record c.args.into.now { events = record { items = with_states c.args.bytes.now c.args.first 16 c.args.into.now.events.items } })
    (states_taken c.args.config.now c.args.first c.min-count.result c.args.bytes.now c.args.into.now c.requires.states c.requires.first count_is
    c.states_from-states.result.items c.states_from-states.ensures fits (sym read ∙ sym c.are_bytes_of.ensures ∙ c.if-not-are_bytes_of.false))
    (λ i. record c.args.into.now { events = record { items = set i } })
