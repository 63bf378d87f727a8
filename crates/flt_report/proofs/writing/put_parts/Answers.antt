use Rattle.std.proofs.Common.{◌≡◌, ℕ, List, Option, ◌≤◌, ◌<◌, ◌+◌, ◌++◌, [], length, map, drop, ap, sym, subst, arith, rules, inl, inr, ◌∙◌}
use Rattle.std.specs.Prelude.{Vec, slice_index_or}
use Rattle.std.specs.Io.KnownBytes.{Appends}
use Rattle.std.proofs.lemmas.List.{append-nil, drop-map, length-map}
use Rattle.flt_io.specs.Sink.{AppendsFront}
use Rattle.flt_step.specs.declared.step.Step.{Step}
use Rattle.flt_step.specs.Part.{part_of, parts_of}
use Rattle.flt_life_model.specs.declared.answer.StepAnswer.TheVariants as answers
use Rattle.flt_life_model.specs.Answers.{told_of}
use Rattle.flt_life_model.specs.Parts.{width}
use Rattle.flt_life_model.specs.Room.{told_in}
use Rattle.flt_life_model.proofs.Sizes.{no_widths_more, widths_with, widths_within}
use Rattle.flt_report.specs.Answer.{step_line}
use Rattle.flt_report.specs.Left.{IsWritten}
use Rattle.flt_report.specs.Life.{lane_steps, block_text, parts_text}
use Rattle.flt_report.proofs.PartsLeft.{parts_left, none_left, unanswered, one_more, block_more}
use Rattle.flt_report.proofs.Written.{goes_on, stops, passes, joined}
use Rattle.flt_report.proofs.writing.put_parts.Goals as goal
use Rattle.flt_report.proofs.writing.put_parts.Goals.{in-One+else-len-answered+in_ok-write_one-in-One, in-Lanes+in_ok-write_next_block-in-Lanes}

pub loop-part-preserved : goal.loop-part-preserved
loop-part-preserved g c =
    let parts = c.args.parts.now in
    let own = told_in c.args.own.now in
    let told = map told_in c.args.told.now in
    let index = c.loop-part.part-index in
    let answered = c.loop-part.answered in
    let lanes = c.loop-part.lanes_told in
    let part = c.part-item.result in
    let there = c.loop-part-test.true in
    let is = c.part-item.is in
    let whole = c.args.piece.now.items ++ parts_text 1 (parts_of parts) own told in
    let was = c.loop-part.invariant.later in
    let so_far = c.loop-part.invariant.written in
    let size = c.args.own.now.answers.ok.0 in
    elim c.match-part.branch [
      | in-One+else-len-answered+in_ok-write_one-in-One w ↦
          let step = w.in-One.step in
          let one : part_of part ≡ inl step = ap part_of w.in-One.is in
          let below = w.if-len-answered.false in
          let many = w.len.ensures in
          let mapped = length-map c.args.own.now.answers.items (told_of c.args.own.now.responses.items) in
          let within : answered < length own = omega (arith, below, many, mapped, size) in
          let left = one_more parts own told index answered lanes part there is step one within in
          let kept = c.loop-part.piece.items in
          let line = step_line step (slice_index_or own answered answers.Dark) in
          let rest = parts_left parts own told (index + 1) (answered + 1) lanes in
          let on = subst (λ left. IsWritten (g.K.Sink.held c.args.sink.now) (g.K.Sink.held c.loop-part.sink) (kept ++ left) whole) left so_far in
          let later = w.in_ok-write_one-in-One.ensures.later in
          let same_lanes = no_widths_more parts index part there is step w.in-One.is in
          rw (w.sink-is, w.piece-is, w.answered-is, w.lanes_told-is) (record {
            later = omega (arith, was, later);
            written = passes _ _ _ (kept ++ line) rest whole _ (joined _ _ kept line rest whole on) w.in_ok-write_one-in-One.ensures.ok;
            answered = omega (arith, below, many, size);
            lanes = c.loop-part.invariant.lanes ∙ sym same_lanes;
          })
      | in-Lanes+in_ok-write_next_block-in-Lanes w ↦
          let block = map (λ (lane : Vec Step _). lane.items) w.in-Lanes.lanes.items in
          let one : part_of part ≡ inr block = ap part_of w.in-Lanes.is in
          let left = block_more parts own told index answered lanes part there is block one in
          let kept = c.loop-part.piece.items in
          let text = block_text (lanes + 1) block (drop lanes told) in
          let rest = parts_left parts own told (index + 1) answered (lanes + length block) in
          let on = subst (λ left. IsWritten (g.K.Sink.held c.args.sink.now) (g.K.Sink.held c.loop-part.sink) (kept ++ left) whole) left so_far in
          let from : map told_in w.rest_of.result.now ≡ drop lanes told = ap (map told_in) w.rest_of.ensures ∙ sym (drop-map told_in lanes c.args.told.now) in
          let same : block_text (lanes + 1) (lane_steps w.deref.result.now) (map told_in w.rest_of.result.now) ≡ block_text (lanes + 1) block (drop lanes told) =
          λ i. block_text (lanes + 1) (lane_steps (w.deref.ensures.value i)) (from i) in
          let later = w.in_ok-write_next_block-in-Lanes.ensures.written.later in
          let more = widths_with parts index part there is block one in
          let mapped = length-map w.in-Lanes.lanes.items (λ (lane : Vec Step _). lane.items) in
          let many = w.len-lanes_told.ensures in
          let vec = w.in-Lanes.lanes.ok.0 in
          let count : c.match-part.lanes_told ≡ lanes + length block = omega (arith, w.lanes_told-is, many, vec, mapped) in
          let none : c.match-part.piece.items ≡ [] = rw w.piece-is w.in_ok-write_next_block-in-Lanes.ensures.none in
          rw (w.sink-is, none, w.answered-is, count) (record {
            later = omega (arith, was, later);
            written = goes_on _ _ (kept ++ text) rest whole (joined _ _ kept text rest whole on) _
                (subst (λ text. Appends (g.K.Sink.held c.loop-part.sink) (g.K.Sink.held w.write_next_block.new.sink) (kept ++ text)) same w.in_ok-write_next_block-in-Lanes.ensures.written.ok);
            answered = c.loop-part.invariant.answered;
            lanes = omega (arith, c.loop-part.invariant.lanes, more);
          })
    ]

-- Where no line is left, those that are kept are all.
kept_alone : (old new : Option (List ℕ)) (kept left whole : List ℕ) → left ≡ [] → IsWritten old new (kept ++ left) whole → IsWritten old new kept whole
kept_alone old new kept left whole none = subst (λ text. IsWritten old new text whole) (ap (λ rest. kept ++ rest) none ∙ append-nil kept)

pub returns-then-len-answered : goal.returns-then-len-answered
returns-then-len-answered g c =
    let parts = c.args.parts.now in
    let own = told_in c.args.own.now in
    let mapped = length-map c.args.own.now.answers.items (told_of c.args.own.now.responses.items) in
    let past : length own ≤ c.loop-part.answered = omega (arith, c.if-len-answered.true, c.len.ensures, mapped, c.args.own.now.answers.ok.0) in
    let kept = kept_alone _ _ c.loop-part.piece.items _ _ (unanswered parts own (map told_in c.args.told.now) c.loop-part.part-index c.loop-part.answered c.loop-part.lanes_told c.part-item.result c.loop-part-test.true c.part-item.is
    c.in-One.step (ap part_of c.in-One.is) past) c.loop-part.invariant.written in
    search (rules, kept)

pub returns-in_err-write_one-in-One : goal.returns-in_err-write_one-in-One
returns-in_err-write_one-in-One g c =
    let parts = c.args.parts.now in
    let own = told_in c.args.own.now in
    let told = map told_in c.args.told.now in
    let index = c.loop-part.part-index in
    let answered = c.loop-part.answered in
    let lanes = c.loop-part.lanes_told in
    let whole = c.args.piece.now.items ++ parts_text 1 (parts_of parts) own told in
    let step = c.in-One.step in
    let mapped = length-map c.args.own.now.answers.items (told_of c.args.own.now.responses.items) in
    let within : answered < length own = omega (arith, c.if-len-answered.false, c.len.ensures, mapped, c.args.own.now.answers.ok.0) in
    let left = one_more parts own told index answered lanes c.part-item.result c.loop-part-test.true c.part-item.is step (ap part_of c.in-One.is) within in
    let kept = c.loop-part.piece.items in
    let line = step_line step (slice_index_or own answered answers.Dark) in
    let rest = parts_left parts own told (index + 1) (answered + 1) lanes in
    let on = subst (λ left. IsWritten (g.K.Sink.held c.args.sink.now) (g.K.Sink.held c.loop-part.sink) (kept ++ left) whole) left c.loop-part.invariant.written in
    let front = stops _ _ (kept ++ line) rest whole (joined _ _ kept line rest whole on) _ c.in_err-write_one-in-One.ensures.err in
    search (rules, front)

pub overflow_cast-number : goal.overflow_cast-number
overflow_cast-number g c =
    let within = widths_within c.args.parts.now c.loop-part.part-index c.part-item.result c.loop-part-test.true c.part-item.is in
    omega (arith, within, c.loop-part.invariant.lanes, c.requires)

pub overflow_add-number : goal.overflow_add-number
overflow_add-number g c =
    let within = widths_within c.args.parts.now c.loop-part.part-index c.part-item.result c.loop-part-test.true c.part-item.is in
    omega (arith, within, c.loop-part.invariant.lanes, c.requires)

pub write_next_block-requires : goal.write_next_block-requires
write_next_block-requires g c =
    let block = map (λ (lane : Vec Step _). lane.items) c.in-Lanes.lanes.items in
    let within = widths_within c.args.parts.now c.loop-part.part-index c.part-item.result c.loop-part-test.true c.part-item.is in
    let width_is : width (part_of c.part-item.result) ≡ length block = ap (λ part. width (part_of part)) c.in-Lanes.is in
    let mapped = length-map c.in-Lanes.lanes.items (λ (lane : Vec Step _). lane.items) in
    let size = ap length c.deref.ensures.value in
    omega (arith, within, width_is, mapped, size, c.loop-part.invariant.lanes, c.requires)

pub returns-in_err-write_next_block-in-Lanes : goal.returns-in_err-write_next_block-in-Lanes
returns-in_err-write_next_block-in-Lanes g c =
    let parts = c.args.parts.now in
    let own = told_in c.args.own.now in
    let told = map told_in c.args.told.now in
    let index = c.loop-part.part-index in
    let answered = c.loop-part.answered in
    let lanes = c.loop-part.lanes_told in
    let whole = c.args.piece.now.items ++ parts_text 1 (parts_of parts) own told in
    let block = map (λ (lane : Vec Step _). lane.items) c.in-Lanes.lanes.items in
    let left = block_more parts own told index answered lanes c.part-item.result c.loop-part-test.true c.part-item.is block (ap part_of c.in-Lanes.is) in
    let kept = c.loop-part.piece.items in
    let text = block_text (lanes + 1) block (drop lanes told) in
    let rest = parts_left parts own told (index + 1) answered (lanes + length block) in
    let on = subst (λ left. IsWritten (g.K.Sink.held c.args.sink.now) (g.K.Sink.held c.loop-part.sink) (kept ++ left) whole) left c.loop-part.invariant.written in
    let from : map told_in c.rest_of.result.now ≡ drop lanes told = ap (map told_in) c.rest_of.ensures ∙ sym (drop-map told_in lanes c.args.told.now) in
    let same : block_text (lanes + 1) (lane_steps c.deref.result.now) (map told_in c.rest_of.result.now) ≡ block_text (lanes + 1) block (drop lanes told) =
    λ i. block_text (lanes + 1) (lane_steps (c.deref.ensures.value i)) (from i) in
    let front = stops _ _ (kept ++ text) rest whole (joined _ _ kept text rest whole on) _
    (subst (λ text. AppendsFront (g.K.Sink.held c.loop-part.sink) (g.K.Sink.held c.write_next_block.new.sink) (kept ++ text)) same c.in_err-write_next_block-in-Lanes.ensures.written.err) in
    search (rules, front)

pub overflow_add-lanes_told : goal.overflow_add-lanes_told
overflow_add-lanes_told g c =
    let block = map (λ (lane : Vec Step _). lane.items) c.in-Lanes.lanes.items in
    let within = widths_within c.args.parts.now c.loop-part.part-index c.part-item.result c.loop-part-test.true c.part-item.is in
    let width_is : width (part_of c.part-item.result) ≡ length block = ap (λ part. width (part_of part)) c.in-Lanes.is in
    let mapped = length-map c.in-Lanes.lanes.items (λ (lane : Vec Step _). lane.items) in
    omega (arith, within, width_is, mapped, c.in-Lanes.lanes.ok.0, c.len-lanes_told.ensures, c.loop-part.invariant.lanes, c.requires)

pub returns : goal.returns
returns g c =
    let kept = kept_alone _ _ c.loop-part.piece.items _ _ (none_left c.args.parts.now (told_in c.args.own.now) (map told_in c.args.told.now) c.loop-part.part-index c.loop-part.answered c.loop-part.lanes_told c.loop-part-test.false)
    c.loop-part.invariant.written in
    search (rules, kept)
