use Rattle.std.proofs.Common.{◌≡◌, ◌<◌, ◌≤◌, length, Some, refl, sym, ap, ◌∙◌, arith, rules}
use Rattle.std.specs.Prelude.{find, slice_get}
use Rattle.std.proofs.lemmas.Option.{slice_get_read}
use Rattle.std.specs.List.{refill}
use Rattle.flt_config.specs.declared.config.EventCfg.{EventCfg}
use Rattle.flt_did.specs.Rows.{is_did}
use Rattle.flt_did.specs.Table.{dids_of}
use Rattle.flt_model.proofs.Common.{refill-whole}
use Rattle.flt_script.specs.Behind.{uses_of, with_use_at}
use Rattle.flt_script.specs.Next.{state}
use Rattle.flt_script.proofs.Dids.{accepted, begun_before, absent_event, too_many}
use Rattle.flt_script.proofs.draft.Draft.add_did.Goals as goal
use Rattle.flt_script.proofs.draft.Draft.add_did.Goals.{then-has_begun-via-then-has_begun, then-has_begun-via-else-has_begun+then-len-event}

pub returns : goal.returns
returns g c =
    let events = c.args.self.now.config.events.items in
    let whole = refill-whole events c.add_use.new.events (omega (arith, c.add_use.auto.events, ap length c.deref_mut.ensures.value)) in
    let used : refill (length events) events c.add_use.new.events ≡ with_use_at c.args.event (Some c.in_ok-did.did) events =
    whole ∙ c.add_use.ensures ∙ ap (with_use_at c.args.event (Some c.in_ok-did.did)) c.deref_mut.ensures.value in
    let there : slice_get events c.args.event ≡ Some c.index-deref-event.result =
    slice_get_read events (length events) c.args.event c.index-deref-event.result refl (omega arith) (rw c.deref.ensures.0 at c.index-deref-event.is) in
    let room : length (uses_of c.args.event events) < 8 = rw there (omega (arith, c.len-2.ensures.value, ap (λ (e : EventCfg). length e.dids.items) c.index-deref-event.is)) in
    let found : find (is_did c.args.id) (dids_of c.args.dids.now) ≡ Some c.in_ok-did.did = search rules in
    rw used (accepted _ (state c.args.self.now) c.args.event c.args.id c.in_ok-did.did (sym c.has_begun.ensures ∙ c.if-has_begun.false) (omega arith) room found)

pub returns-then-has_begun : goal.returns-then-has_begun
returns-then-has_begun g c =
    let dids = dids_of c.args.dids.now in
    let b = state c.args.self.now in
    elim c.then-has_begun.branch [
      | then-has_begun-via-then-has_begun w ↦ begun_before dids b c.args.event c.args.id (sym c.has_begun.ensures ∙ w.if-has_begun.true)
      | then-has_begun-via-else-has_begun+then-len-event w ↦
          absent_event dids b c.args.event c.args.id (sym c.has_begun.ensures ∙ w.if-has_begun.false) (omega (arith, w.len.ensures.value))
    ]

pub returns-then-len-ge-DIDS : goal.returns-then-len-ge-DIDS
returns-then-len-ge-DIDS g c =
    let events = c.args.self.now.config.events.items in
    let there : slice_get events c.args.event ≡ Some c.index-deref-event.result =
    slice_get_read events (length events) c.args.event c.index-deref-event.result refl (omega arith) (rw c.deref.ensures.0 at c.index-deref-event.is) in
    let full : 8 ≤ length (uses_of c.args.event events) = rw there (omega (arith, c.len-2.ensures.value, ap (λ (e : EventCfg). length e.dids.items) c.index-deref-event.is)) in
    too_many (dids_of c.args.dids.now) (state c.args.self.now) c.args.event c.args.id (sym c.has_begun.ensures ∙ c.if-has_begun.false) (omega arith) full

pub add_use-requires-clause-within : goal.add_use-requires-clause-within
add_use-requires-clause-within g c = omega (arith, ap length c.deref_mut.ensures.value)

pub add_use-requires-clause-room : goal.add_use-requires-clause-room
add_use-requires-clause-room g c =
    let events = c.args.self.now.config.events.items in
    let there : slice_get events c.args.event ≡ Some c.index-deref-event.result =
    slice_get_read events (length events) c.args.event c.index-deref-event.result refl (omega arith) (rw c.deref.ensures.0 at c.index-deref-event.is) in
    let room : length (uses_of c.args.event events) < 8 = rw there (omega (arith, c.len-2.ensures.value, ap (λ (e : EventCfg). length e.dids.items) c.index-deref-event.is)) in
    rw c.deref_mut.ensures.value room
