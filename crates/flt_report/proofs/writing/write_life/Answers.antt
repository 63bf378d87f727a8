use Rattle.std.proofs.Common.{◌≡◌, ℕ, Option, ◌-◌, ◌≤◌, ◌++◌, List, [], ◌∷◌, take, drop, length, map, get_or, inl, inr, ap, sym, subst, arith, rules, ◌∙◌}
use Rattle.std.specs.Io.KnownBytes.{Appends}
use Rattle.flt_io.specs.Sink.{AppendsFront}
use Rattle.flt_step.specs.Part.{PartOf, parts_of}
use Rattle.flt_step.specs.declared.step.Step.{Step}
use Rattle.flt_life_model.specs.declared.life.Boot.{Boot}
use Rattle.flt_life_model.specs.declared.replies.LaneReplies.{LaneReplies}
use Rattle.flt_life_model.specs.Room.{told_in}
use Rattle.flt_report.specs.Boot.{boot_line}
use Rattle.flt_report.specs.Left.{IsWritten}
use Rattle.flt_report.specs.Life.{life_text, made_text, parts_text, told_text}
use Rattle.flt_report.proofs.PartsLeft.{range_is}
use Rattle.flt_report.proofs.Written.{front_first, front_next, stops, kept_last}
use Rattle.flt_report.proofs.writing.write_life.Given.{Over}
use Rattle.flt_report.proofs.writing.write_life.Goals as goal
use Rattle.flt_report.proofs.writing.write_life.Goals.{After-clear-in-len1-up}

pub returns-in_err-push : goal.returns-in_err-push
returns-in_err-push g c =
    let boot = c.args.boot.now in
    let first = boot_line c.args.number boot in
    let line : c.deref.result.now ≡ first = c.deref.ensures.value ∙ c.in_ok-put_boot.ensures.ok ∙ (λ i. c.clear.ensures.items i ++ first) in
    let front = front_first _ _ first (made_text (parts_of c.args.parts.now) boot c.args.replies.now) (subst (AppendsFront (g.K.Sink.held c.args.sink.now) (g.K.Sink.held c.push.new.self)) line c.in_err-push.ensures.err) in
    search (rules, front)

told_is : (parts : List (PartOf Step)) (replies : List LaneReplies) (own : LaneReplies) → 1 ≤ length replies → own ≡ get_or replies 0 own
    → parts_text 1 parts (told_in own) (map told_in (take (length replies - 1) (drop 1 replies))) ≡ told_text parts replies
told_is parts [] own some is = absurd (omega (arith, some))
told_is parts (first ∷ rest) own some is = λ i. parts_text 1 parts (told_in (is i)) (map told_in (range_is 1 (first ∷ rest) i))

-- A front of the lines of the parts, after the line that begins the life.
front_of_life : (g : Over) (c : After-clear-in-len1-up g) (now : Option (List ℕ))
    → AppendsFront (g.K.Sink.held c.push.new.self) now (parts_text 1 (parts_of c.args.parts.now) (told_in c.own-item.result) (map told_in (take (length c.args.replies.now - 1) (drop 1 c.args.replies.now))))
    → AppendsFront (g.K.Sink.held c.args.sink.now) now (life_text c.args.number (parts_of c.args.parts.now) c.args.boot.now c.args.replies.now)
front_of_life g c now front =
    let parts = parts_of c.args.parts.now in
    let boot = c.args.boot.now in
    let replies = c.args.replies.now in
    let first = boot_line c.args.number boot in
    let line : c.deref.result.now ≡ first = c.deref.ensures.value ∙ c.in_ok-put_boot.ensures.ok ∙ (λ i. c.clear.ensures.items i ++ first) in
    let begun = subst (Appends (g.K.Sink.held c.args.sink.now) (g.K.Sink.held c.push.new.self)) line c.in_ok-push.ensures.ok in
    let made : made_text parts boot replies ≡ told_text parts replies = elim c.in-Started.is [
      | inl is ↦ ap (λ (boot : Boot). made_text parts boot replies) is.2
      | inr is ↦ ap (λ (boot : Boot). made_text parts boot replies) is
    ] in
    let told = told_is parts replies c.own-item.result c.in-len1-up.len_at_least c.own-item.is ∙ sym made in
    front_next _ _ _ first (made_text parts boot replies) begun (subst (AppendsFront (g.K.Sink.held c.push.new.self) now) told front)

pub returns-in_err-put_parts-in-len1-up : goal.returns-in_err-put_parts-in-len1-up
returns-in_err-put_parts-in-len1-up g c =
    let replies = c.args.replies.now in
    let text = parts_text 1 (parts_of c.args.parts.now) (told_in c.own-item.result) (map told_in (take (length replies - 1) (drop 1 replies))) in
    let front = front_of_life g (goal.at.returns-in_err-put_parts-in-len1-up g c).After-clear-in-len1-up _
    (subst (λ kept. AppendsFront (g.K.Sink.held c.push.new.self) (g.K.Sink.held c.put_parts.new.sink) (kept ++ text)) c.clear-in-len1-up.ensures.items c.in_err-put_parts-in-len1-up.ensures.err) in
    search (rules, front)

pub returns-in_err-push-in-len1-up : goal.returns-in_err-push-in-len1-up
returns-in_err-push-in-len1-up g c =
    let replies = c.args.replies.now in
    let text = parts_text 1 (parts_of c.args.parts.now) (told_in c.own-item.result) (map told_in (take (length replies - 1) (drop 1 replies))) in
    let kept = c.put_parts.new.piece.items in
    let on = subst (λ before. IsWritten (g.K.Sink.held c.push.new.self) (g.K.Sink.held c.put_parts.new.sink) kept (before ++ text)) c.clear-in-len1-up.ensures.items c.in_ok-put_parts-in-len1-up.ensures.ok in
    let pushed = subst (AppendsFront (g.K.Sink.held c.put_parts.new.sink) (g.K.Sink.held c.push-in-len1-up.new.self)) c.deref-in-len1-up.ensures.value c.in_err-push-in-len1-up.ensures.err in
    let front = front_of_life g (goal.at.returns-in_err-push-in-len1-up g c).After-clear-in-len1-up _ (stops _ _ kept [] text (kept_last _ _ kept text on) _ pushed) in
    search (rules, front)
