use Rattle.std.proofs.Common.{◌≡◌, ◌∙◌, ◌+◌, ◌<◌, ◌++◌, ℕ, List, [], length, take, drop, get_or, reverse, Bor, sym, ap, subst, arith}
use Rattle.std.proofs.lemmas.Bool.{not-false, not-true}
use Rattle.std.proofs.lemmas.List.{get_or-map, length-map}
use Rattle.flt_model.specs.Answer.{answer}
use Rattle.flt_model.specs.Start.{Start}
use Rattle.flt_model.specs.declared.call.Op.{Op}
use Rattle.flt_report.specs.Answer.{reply_text}
use Rattle.flt_dcm.specs.ReplyKind.{reply_with}
use Rattle.flt_dcm.specs.Unit.{IsAdmitted, Stands}
use Rattle.flt_dcm.specs.Whole.{config_of, unit_seen}
use Rattle.flt_turn.specs.Journal.{ops_of}
use Rattle.flt_turn.specs.declared.vault.Entry.{Entry}
use Rattle.flt_trace.specs.Trace.{texts_seen}
use Rattle.flt_trace.proofs.Strings.{seen_at}
use Rattle.flt_audit.specs.Audit.{unlike_from}
use Rattle.flt_audit.proofs.Unlike.{alike, due_after, one_call_more, other_texts, same_texts, unlike}
use Rattle.flt_audit.proofs.replay.first_unlike.Goals as goal

pub apply_into-kind-requires : goal.apply_into-kind-requires
apply_into-kind-requires g c =
    let calls = c.args.calls.now in
    let place = c.loop-place.place in
    let call = c.index-calls-place.result in
    let among : place < length calls = omega (arith, c.loop-place-test.true) in
    let here = c.requires.admitted place call.op (omega (arith, among, length-map calls (λ (e : Entry Op). e.op))) in
    let this = subst (IsAdmitted (config_of c.args.unit.now)) (get_or-map (λ (e : Entry Op). e.op) calls place call call.op among) here in
    record { admitted = subst (λ config. IsAdmitted config (get_or calls place call).op) (sym c.loop-place.invariant.config) this }

pub returns-then-ne : goal.returns-then-ne
returns-then-ne g c =
    λ life stands.
    let none : Bor (List ℕ) = record { ref_ptr = (0, 0); now = [] } in
    let calls = c.args.calls.now in
    let texts = c.args.texts.now in
    let place = c.loop-place.place in
    let call = c.index-calls-place.result in
    let op = (get_or calls place call).op in
    let among : place < length calls = omega (arith, c.loop-place-test.true) in
    let among_texts : place < length texts = omega (arith, among, c.requires.many) in
    let among_seen : place < length (texts_seen texts) = omega (arith, among_texts, length-map texts (λ (t : Bor (List ℕ)). t.now)) in
    let past = ops_of (reverse (take place calls)) in
    let kind = c.apply_into-kind.result in
    let printed = λ (life : Start) (stands : Stands life [] (unit_seen c.args.unit.now)).
    c.as_slice.ensures.value ∙ c.in_ok-put_reply.ensures.ok ∙ ap (λ (front : List ℕ). front ++ reply_text (reply_with kind c.deref.result.now)) c.clear.ensures.items
    ∙ ap (λ (bytes : List ℕ). reply_text (reply_with kind bytes)) c.deref.ensures.0
    ∙ ap reply_text (c.apply_into-kind.ensures.applied.answer life past (c.loop-place.invariant.stands life stands)) in
    let given : get_or (texts_seen texts) place [] ≡ c.as_bytes.result.now = sym (c.as_bytes.ensures.value ∙ seen_at texts place none among_texts) in
    let other = other_texts (get_or (texts_seen texts) place []) (reply_text (answer life past op)) c.as_slice.result.now c.as_bytes.result.now given (printed life stands)
    (not-true _ (sym c.ne.ensures ∙ c.if-ne.true)) in
    sym (c.loop-place.invariant.left life stands ∙ unlike life past calls (texts_seen texts) place call [] among among_seen other)

pub loop-place-preserved : goal.loop-place-preserved
loop-place-preserved g c =
    let none : Bor (List ℕ) = record { ref_ptr = (0, 0); now = [] } in
    let calls = c.args.calls.now in
    let texts = c.args.texts.now in
    let place = c.loop-place.place in
    let call = c.index-calls-place.result in
    let op = (get_or calls place call).op in
    let among : place < length calls = omega (arith, c.loop-place-test.true) in
    let among_texts : place < length texts = omega (arith, among, c.requires.many) in
    let among_seen : place < length (texts_seen texts) = omega (arith, among_texts, length-map texts (λ (t : Bor (List ℕ)). t.now)) in
    let past = ops_of (reverse (take place calls)) in
    let kind = c.apply_into-kind.result in
    let printed = λ (life : Start) (stands : Stands life [] (unit_seen c.args.unit.now)).
    c.as_slice.ensures.value ∙ c.in_ok-put_reply.ensures.ok ∙ ap (λ (front : List ℕ). front ++ reply_text (reply_with kind c.deref.result.now)) c.clear.ensures.items
    ∙ ap (λ (bytes : List ℕ). reply_text (reply_with kind bytes)) c.deref.ensures.0
    ∙ ap reply_text (c.apply_into-kind.ensures.applied.answer life past (c.loop-place.invariant.stands life stands)) in
    let given : get_or (texts_seen texts) place [] ≡ c.as_bytes.result.now = sym (c.as_bytes.ensures.value ∙ seen_at texts place none among_texts) in
    let next = one_call_more calls place call among in
    record {
      config = c.apply_into-kind.ensures.applied.config ∙ c.loop-place.invariant.config;
      stands = λ life stands.
          subst (λ history. Stands life history (unit_seen c.apply_into-kind.new.self)) (sym next) (c.apply_into-kind.ensures.applied.stands life past (c.loop-place.invariant.stands life stands));
      left = λ life stands.
          let same = same_texts (get_or (texts_seen texts) place []) (reply_text (answer life past op)) c.as_slice.result.now c.as_bytes.result.now given (printed life stands)
          (not-false _ (sym c.ne.ensures ∙ c.if-ne.false)) in
          c.loop-place.invariant.left life stands ∙ alike life past calls (texts_seen texts) place call [] among among_seen same
          ∙ ap (λ history. unlike_from (place + 1) (drop (place + 1) (texts_seen texts)) (due_after life history (drop (place + 1) calls))) (sym next);
    }
