use Rattle.std.proofs.Common.{◌≡◌, ◌∙◌, sym, ap, ◌+◌, [], ◌∷◌, ◌++◌, drop, arith}
use Rattle.std.proofs.lemmas.List.{drop_all, map-append}
use Rattle.serde_json.specs.Data.{array, string, item, no_items}
use Rattle.serde_json.specs.View.{view, items_view}
use Rattle.flt_trace.specs.Trace.{texts_seen, strings}
use Rattle.flt_trace.proofs.Strings.{onto, onto_none, onto_more, not_strings, is_array, is_string, items_from}
use Rattle.flt_trace.proofs.object.reading.strings_in.Goals as goal

pub loop-item-init : goal.loop-item-init
loop-item-init c =
    let none = c.in_ok-texts.ensures.items in
    ap (λ texts. onto (texts_seen texts) (items_view c.deref-item-items.result.now)) (sym none)

pub loop-item-preserved : goal.loop-item-preserved
loop-item-preserved c =
    let items = c.deref-item-items.result.now in
    let index = c.loop-item.item-index in
    let text = c.in-Some-as_str.text.now in
    let is : view c.item-item.result ≡ string text = is_string _ text (sym c.in-Some-as_str.ensures) in
    let here : items_view (drop index items) ≡ item (string text) (items_view (drop (index + 1) items)) =
    items_from items index c.item-item.result (omega arith) ∙ ap (λ d. item (view d) (items_view (drop (index + 1) items))) (sym c.item-item.is)
    ∙ ap (λ d. item d (items_view (drop (index + 1) items))) is in
    let more : texts_seen c.push.new.self.items ≡ texts_seen c.loop-item.texts.items ++ text ∷ [] =
    ap texts_seen c.in_ok-push-in-Some-as_str.ensures.items ∙ map-append _ c.loop-item.texts.items _ in
    c.loop-item.invariant ∙ ap (onto (texts_seen c.loop-item.texts.items)) here ∙ sym (onto_more (texts_seen c.loop-item.texts.items) text _)
    ∙ ap (λ texts. onto texts (items_view (drop (index + 1) items))) (sym more)

pub returns : goal.returns
returns c =
    let items = c.deref-item-items.result.now in
    let all : view c.args.value.now ≡ array (items_view items) = is_array _ _ (sym c.in-Some.ensures) ∙ ap (λ vs. array (items_view vs)) (sym c.deref-item-items.ensures.value) in
    let none : items_view (drop c.loop-item.item-index items) ≡ no_items = ap items_view (drop_all c.loop-item.item-index items (omega arith)) in
    all ∙ ap array (c.loop-item.invariant ∙ ap (onto (texts_seen c.loop-item.texts.items)) none ∙ onto_none (texts_seen c.loop-item.texts.items))

pub returns-in-None : goal.returns-in-None
returns-in-None c =
    λ texts is.
    let items = c.deref-item-items.result.now in
    let index = c.loop-item.item-index in
    let all : view c.args.value.now ≡ array (items_view items) = is_array _ _ (sym c.in-Some.ensures) ∙ ap (λ vs. array (items_view vs)) (sym c.deref-item-items.ensures.value) in
    let same : items_view items ≡ strings texts = cc (sym all ∙ is) in
    let here : items_view (drop index items) ≡ item (view c.item-item.result) (items_view (drop (index + 1) items)) =
    items_from items index c.item-item.result (omega arith) ∙ ap (λ d. item (view d) (items_view (drop (index + 1) items))) (sym c.item-item.is) in
    not_strings (texts_seen c.loop-item.texts.items) (view c.item-item.result) _ texts (sym c.in-None.ensures) (ap (onto (texts_seen c.loop-item.texts.items)) (sym here) ∙ sym c.loop-item.invariant ∙ same)
