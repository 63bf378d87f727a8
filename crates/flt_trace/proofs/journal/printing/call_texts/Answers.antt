use Rattle.std.proofs.Common.{◌≡◌, ◌+◌, ◌++◌, ◌∷◌, ◌∙◌, ℕ, List, [], arith, ap, get_or, map, subst, sym, take}
use Rattle.std.proofs.lemmas.List.{map-append}
use Rattle.std.specs.String.{string_bytes}
use Rattle.flt_model.specs.declared.call.Op.{Op}
use Rattle.flt_turn.specs.declared.vault.Entry.{Entry}
use Rattle.flt_trace.specs.Call.{AreCallTexts, CanBeMade, IsCallText}
use Rattle.flt_trace.proofs.Printed.{text_more}
use Rattle.flt_trace.proofs.journal.printing.call_texts.Goals as goal

pub loop-call-preserved : goal.loop-call-preserved
loop-call-preserved c = λ k all.
    let journal = c.args.journal.now in
    let place = c.loop-call.call-index in
    let call = c.call-item.result in
    let text = string_bytes c.in_ok-text.text in
    let same : get_or journal place call ≡ call = sym c.call-item.is in
    let next = λ (can : CanBeMade k (get_or journal place call).op).
    subst (λ (e : Entry Op). IsCallText k e text) (sym same) (c.in_ok-text.ensures k (subst (λ (e : Entry Op). CanBeMade k e.op) same can)) in
    let texts : map string_bytes c.push.new.self.items ≡ map string_bytes c.loop-call.texts.items ++ text ∷ [] =
    ap (map string_bytes) c.in_ok-push.ensures.items ∙ map-append string_bytes c.loop-call.texts.items (c.in_ok-text.text ∷ []) in
    subst (λ (l : List (List ℕ)). AreCallTexts k (take (place + 1) journal) l) (sym texts)
    (text_more k journal (map string_bytes c.loop-call.texts.items) place call text (omega (arith, c.loop-call-test.true)) (c.loop-call.invariant k) next all)
