use Rattle.std.proofs.Common.{◌∙◌, ◌+◌, ◌<◌, ◌∷◌, ◌++◌, ℕ, List, [], length, take, get_or, Bor, sym, subst, arith}
use Rattle.std.proofs.lemmas.Grind.{take_at_read}
use Rattle.std.proofs.lemmas.List.{length-map, take_all}
use Rattle.flt_model.specs.declared.call.Op.{Op}
use Rattle.flt_turn.specs.declared.vault.Entry.{Entry}
use Rattle.flt_trace.specs.Trace.{texts_seen}
use Rattle.flt_trace.proofs.Strings.{seen_at}
use Rattle.flt_trace.specs.Call.{AreCallTexts, IsCallText}
use Rattle.flt_trace.proofs.Calls.{all_admitted, if_none, if_some, one_more, one_of}
use Rattle.flt_trace.proofs.journal.reading.read_calls.Goals as goal

pub returns-in-None-clause-read : goal.returns-in-None-clause-read
returns-in-None-clause-read c =
    λ calls are.
    let none : Bor (List ℕ) = record { ref_ptr = (0, 0); now = [] } in
    let config = c.args.config.now in
    let texts = c.args.texts.now in
    let index = c.loop-text.text-index in
    let among : index < length texts = omega (arith, c.loop-text-test.true) in
    let text = c.as_bytes.result.now in
    let one = one_of config calls (texts_seen texts) are index [] (omega (arith, among, length-map texts (λ (t : Bor (List ℕ)). t.now))) in
    if_none ((call : Entry Op) → IsCallText config call text → ⊥) (λ call. IsCallText config call text) c.in_ok-call.field-0 c.in-None.is c.in_ok-call.ensures
    one.0 (subst (IsCallText config one.0) (sym (c.as_bytes.ensures.value ∙ seen_at texts index none among)) one.1)

pub loop-text-preserved : goal.loop-text-preserved
loop-text-preserved c =
    let none : Bor (List ℕ) = record { ref_ptr = (0, 0); now = [] } in
    let config = c.args.config.now in
    let texts = c.args.texts.now in
    let index = c.loop-text.text-index in
    let among : index < length texts = omega (arith, c.loop-text-test.true) in
    let text = c.as_bytes.result.now in
    let call = c.in-Some.call in
    let calls = c.loop-text.calls.items in
    let is : IsCallText config call text =
    if_some ((call : Entry Op) → IsCallText config call text → ⊥) (λ call. IsCallText config call text) c.in_ok-call.field-0 call c.in-Some.is c.in_ok-call.ensures in
    let here = subst (IsCallText config call) (c.as_bytes.ensures.value ∙ seen_at texts index none among) is in
    let front = (take_at_read (texts_seen texts) index [] (omega (arith, among, length-map texts (λ (t : Bor (List ℕ)). t.now)))).1 in
    subst (λ items. AreCallTexts config items (take (index + 1) (texts_seen texts))) (sym c.in_ok-push-in-Some.ensures.items)
    (subst (AreCallTexts config (calls ++ call ∷ [])) (sym front) (one_more config calls (take index (texts_seen texts)) call (get_or (texts_seen texts) index []) c.loop-text.invariant here))

pub returns-clause-admitted : goal.returns-clause-admitted
returns-clause-admitted c =
    let texts = c.args.texts.now in
    let index = c.loop-text.text-index in
    all_admitted c.args.config.now c.loop-text.calls.items (texts_seen texts)
    (subst (AreCallTexts c.args.config.now c.loop-text.calls.items) (take_all index (texts_seen texts) (omega (arith, c.loop-text-test.false, length-map texts (λ (t : Bor (List ℕ)). t.now)))) c.loop-text.invariant)
