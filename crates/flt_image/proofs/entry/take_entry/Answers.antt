use Rattle.std.proofs.Common.{◌∙◌, sym, ap, List, ◌<◌, length, arith, subst}
use Rattle.std.specs.Prelude.{slice_set}
use Rattle.flt_config.specs.declared.config.Config.{Config}
use Rattle.flt_config.specs.declared.config.EventCfg.{EventCfg}
use Rattle.flt_config.specs.declared.persist.EntryState.{EntryState}
use Rattle.flt_config.specs.Durable.{IsEntryOf}
use Rattle.flt_store_model.specs.Fit.{is_alone}
use Rattle.flt_image.proofs.Takings.{refuses, takes, none_answered, entry_unfit, entry_differs, entry_twice, entry_taken}
use Rattle.flt_image.proofs.entry.take_entry.Goals as goal

pub returns-then-at-len : goal.returns-then-at-len
returns-then-at-len c =
    none_answered c.args.config.now c.args.place c.args.bytes.now c.args.into.now c.are_bytes_of_none.result
    (omega (arith, c.if-at-len.true, c.len.ensures.value)) c.are_bytes_of_none.ensures

pub returns-then-not-is_entry_of : goal.returns-then-not-is_entry_of
returns-then-not-is_entry_of c =
    let within : c.args.place < length c.args.into.now.entries.items = omega (arith, c.if-at-len.false, c.len.ensures.value) in
    let events = c.deref.ensures.0 ∙ ap (λ (s : Config). s.events.items) c.config.ensures.value in
    refuses c.args.into.now
    (entry_unfit c.args.config.now c.args.place c.args.bytes.now c.args.into.now within c.entry_from-entry.result c.entry_from-entry.ensures
    (λ fits. let yes = c.is_entry_of.ensures.1 (subst (λ (es : List EventCfg). IsEntryOf es c.entry_from-entry.result) (sym events) fits) in absurd (cc)))

pub returns-then-not-are_bytes_of : goal.returns-then-not-are_bytes_of
returns-then-not-are_bytes_of c =
    let within : c.args.place < length c.args.into.now.entries.items = omega (arith, c.if-at-len.false, c.len.ensures.value) in
    refuses c.args.into.now
    (entry_differs c.args.config.now c.args.place c.args.bytes.now c.args.into.now within c.entry_from-entry.result c.entry_from-entry.ensures
    (sym c.are_bytes_of.ensures ∙ c.if-not-are_bytes_of.true))

pub returns-then-not-is_alone : goal.returns-then-not-is_alone
returns-then-not-is_alone c =
    let within : c.args.place < length c.args.into.now.entries.items = omega (arith, c.if-at-len.false, c.len.ensures.value) in
    let others = ap (λ (es : List EntryState). is_alone es c.args.place c.entry_from-entry.result.event) c.deref-2.ensures.0 in
    refuses c.args.into.now
    (entry_twice c.args.config.now c.args.place c.args.bytes.now c.args.into.now within c.entry_from-entry.result c.entry_from-entry.ensures
    (sym others ∙ sym c.is_alone.ensures ∙ c.if-not-is_alone.true))

pub returns : goal.returns
returns c =
    let within : c.args.place < length c.args.into.now.entries.items = omega (arith, c.if-at-len.false, c.len.ensures.value) in
    let others = ap (λ (es : List EntryState). is_alone es c.args.place c.entry_from-entry.result.event) c.deref-2.ensures.0 in
    let events = c.deref.ensures.0 ∙ ap (λ (s : Config). s.events.items) c.config.ensures.value in
    takes c.args.into.now (record c.args.into.now { entries = c.set_entry.new.entries })
    (record c.args.into.now { entries = record { items = slice_set c.args.into.now.entries.items c.args.place c.entry_from-entry.result } })
    (entry_taken c.args.config.now c.args.place c.args.bytes.now c.args.into.now within c.entry_from-entry.result c.entry_from-entry.ensures
    (subst (λ (es : List EventCfg). IsEntryOf es c.entry_from-entry.result) events (c.is_entry_of.ensures.0 c.if-not-is_entry_of.false)) (sym c.are_bytes_of.ensures ∙ c.if-not-are_bytes_of.false) (sym others ∙ sym c.is_alone.ensures ∙ c.if-not-is_alone.false))
    (λ i. record c.args.into.now { entries = record { items = c.set_entry.ensures i } })
