use Rattle.std.proofs.Common.{◌≡◌, ◌+◌, ◌∙◌, List, ℕ, arith, ap, drop, get_or, map, sym}
use Rattle.std.specs.String.{string_bytes}
use Rattle.flt_life_model.specs.Room.{told_in}
use Rattle.flt_trace.specs.Answered.{with_lane, with_lanes}
use Rattle.flt_trace.proofs.Put.{next_lane}
use Rattle.flt_trace.proofs.answers.answering.answer_texts.Goals as goal

pub loop-lane-preserved : goal.loop-lane-preserved
loop-lane-preserved c =
    let place = c.loop-lane.lane-index in
    let texts = map string_bytes c.loop-lane.texts.items in
    let next = next_lane texts c.args.replies.now place c.lane-item.result (omega (arith, c.loop-lane-test.true)) in
    let item : c.lane-item.result ≡ get_or c.args.replies.now place c.lane-item.result = c.lane-item.is in
    let told : map string_bytes c.put_lane.new.texts.items ≡ with_lane texts (told_in (get_or c.args.replies.now place c.lane-item.result)) =
    c.in_ok-put_lane.ensures ∙ ap (λ lane. with_lane texts (told_in lane)) item in
    ap (λ (t : List (List ℕ)). with_lanes t (drop (place + 1) (map told_in c.args.replies.now))) told ∙ sym next ∙ c.loop-lane.invariant
