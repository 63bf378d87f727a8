use Rattle.std.proofs.Common.{◌≡◌, ◌+◌, ◌<◌, ◌∙◌, List, ℕ, arith, ap, drop, get_or, length, map, subst, sym}
use Rattle.std.proofs.lemmas.List.{get_or_default}
use Rattle.std.specs.String.{string_bytes}
use Rattle.flt_life_model.specs.Answers.{KeptAnswer, told_of}
use Rattle.flt_life_model.specs.Room.{told_in}
use Rattle.flt_trace.specs.Answered.{with_lane, with_told}
use Rattle.flt_trace.proofs.Put.{next_told}
use Rattle.flt_trace.proofs.answers.answering.put_lane.Goals as goal

pub loop-answer-preserved : goal.loop-answer-preserved
loop-answer-preserved c =
    let place = c.loop-answer.answer-index in
    let texts = map string_bytes c.loop-answer.texts.items in
    let lane = c.args.lane.now in
    let items = c.deref-answer-items.ensures.value in
    let inside : place < length c.deref-answer-items.result.now = omega (arith, c.loop-answer-test.true) in
    let within : place < length lane.answers.items = subst (λ l. place < length l) items inside in
    let one : (answer : KeptAnswer) × (map string_bytes c.put_told.new.texts.items ≡ with_told texts (told_of c.deref.result.now answer)) = (_, c.in_ok-put_told.ensures) in
    let item : one.0 ≡ get_or lane.answers.items place one.0 = get_or_default c.deref-answer-items.result.now place _ one.0 inside ∙ ap (λ (l : List KeptAnswer). get_or l place one.0) items in
    let told : map string_bytes c.put_told.new.texts.items ≡ with_told texts (told_of lane.responses.items (get_or lane.answers.items place one.0)) =
    one.1 ∙ (λ i. with_told texts (told_of (c.deref.ensures.value i) (item i))) in
    let next = next_told texts lane.responses.items lane.answers.items place one.0 within in
    ap (λ (t : List (List ℕ)). with_lane t (drop (place + 1) (told_in lane))) told ∙ sym next ∙ c.loop-answer.invariant
