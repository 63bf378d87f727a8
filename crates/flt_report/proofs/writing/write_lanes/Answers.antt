use Rattle.std.proofs.Common.{◌≡◌, ℕ, Option, List, ◌<◌, ◌+◌, ◌++◌, length, get_or, sym, ap, subst, arith, rules, ◌∙◌}
use Rattle.std.specs.Prelude.{Vec}
use Rattle.flt_step.specs.declared.step.Step.{Step}
use Rattle.flt_life_model.specs.declared.replies.LaneReplies.{LaneReplies}
use Rattle.flt_life_model.specs.Room.{told_in}
use Rattle.flt_report.specs.Left.{IsWritten}
use Rattle.flt_report.specs.Life.{lane_text}
use Rattle.flt_report.proofs.Written.{goes_on, stops, ends, lanes_left, lanes_more, lanes_end}
use Rattle.flt_report.proofs.writing.write_lanes.Goals as goal

-- The text of the next lane comes before those that are left.
lane_next : {A : Type 0} (old new : Option (List ℕ)) (number : ℕ) (lanes : List (Vec Step A)) (told : List LaneReplies) (index : ℕ) (lane : Vec Step A) (replies : LaneReplies) (text whole : List ℕ) → index < length lanes → index < length told
    → text ≡ lane_text (number + index) (get_or lanes index lane).items (told_in (get_or told index replies)) → IsWritten old new (lanes_left number lanes told index) whole
    → IsWritten old new (text ++ lanes_left number lanes told (index + 1)) whole
lane_next old new number lanes told index lane replies text whole there too is on =
    subst (λ text. IsWritten old new (text ++ lanes_left number lanes told (index + 1)) whole) (sym is)
    (subst (λ left. IsWritten old new left whole) (lanes_more number lanes told index lane replies there too) on)

pub loop-index-preserved : goal.loop-index-preserved
loop-index-preserved g c =
    let there = c.loop-index-test.true in
    let was = c.loop-index.invariant.later in
    let later = c.in_ok-write_lane.ensures.later in
    let next = lane_next _ _ c.args.number c.args.lanes.now c.args.told.now c.loop-index.index c.index-lanes-index.result c.index-told-index.result _ _ (omega (arith, there, c.min-count.ensures)) (omega (arith, there, c.min-count.ensures))
    (λ i. lane_text (c.args.number + c.loop-index.index) ((c.deref.ensures.value ∙ ap (λ (v : Vec Step _). v.items) c.index-lanes-index.is) i) (told_in (c.index-told-index.is i))) c.loop-index.invariant.written in
    record { later = omega (arith, was, later); written = goes_on _ _ _ _ _ next _ c.in_ok-write_lane.ensures.ok }

pub returns-in_err-write_lane : goal.returns-in_err-write_lane
returns-in_err-write_lane g c =
    let there = c.loop-index-test.true in
    let next = lane_next _ _ c.args.number c.args.lanes.now c.args.told.now c.loop-index.index c.index-lanes-index.result c.index-told-index.result _ _ (omega (arith, there, c.min-count.ensures)) (omega (arith, there, c.min-count.ensures))
    (λ i. lane_text (c.args.number + c.loop-index.index) ((c.deref.ensures.value ∙ ap (λ (v : Vec Step _). v.items) c.index-lanes-index.is) i) (told_in (c.index-told-index.is i))) c.loop-index.invariant.written in
    let front = stops _ _ _ _ _ next _ c.in_err-write_lane.ensures.err in
    search (rules, front)

pub returns : goal.returns
returns g c =
    let lanes = c.args.lanes.now in
    let told = c.args.told.now in
    let past = c.loop-index-test.false in
    let count = c.min-count.ensures in
    let whole = ends _ _ (lanes_left c.args.number lanes told c.loop-index.index) _ (lanes_end c.args.number lanes told c.loop-index.index (omega (arith, past, count))) c.loop-index.invariant.written in
    search (rules, whole)
