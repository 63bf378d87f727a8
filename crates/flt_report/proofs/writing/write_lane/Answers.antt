use Rattle.std.proofs.Common.{◌≡◌, ◌++◌, subst, rules, ◌∙◌}
use Rattle.std.specs.Io.KnownBytes.{Appends}
use Rattle.flt_io.specs.Sink.{AppendsFront}
use Rattle.flt_life_model.specs.Room.{told_in}
use Rattle.flt_report.specs.Block.{lane_line}
use Rattle.flt_report.specs.Life.{lines_text}
use Rattle.flt_report.proofs.Written.{front_first, writes_next}
use Rattle.flt_report.proofs.writing.write_lane.Goals as goal

pub returns-in_err-push : goal.returns-in_err-push
returns-in_err-push g c =
    let line : c.deref.result.now ≡ lane_line c.args.number = c.deref.ensures.value ∙ c.in_ok-put_lane.ensures.ok ∙ (λ i. c.clear.ensures.items i ++ lane_line c.args.number) in
    let front = front_first _ _ (lane_line c.args.number) (lines_text c.args.steps.now (told_in c.args.replies.now)) (subst (AppendsFront (g.K.Sink.held c.args.sink.now) (g.K.Sink.held c.push.new.self)) line c.in_err-push.ensures.err) in
    search (rules, front)

pub returns : goal.returns
returns g c =
    let line : c.deref.result.now ≡ lane_line c.args.number = c.deref.ensures.value ∙ c.in_ok-put_lane.ensures.ok ∙ (λ i. c.clear.ensures.items i ++ lane_line c.args.number) in
    let first = subst (Appends (g.K.Sink.held c.args.sink.now) (g.K.Sink.held c.push.new.self)) line c.in_ok-push.ensures.ok in
    writes_next (lane_line c.args.number) first c.in_ok-push.ensures.cause.later c.write_steps.ensures
