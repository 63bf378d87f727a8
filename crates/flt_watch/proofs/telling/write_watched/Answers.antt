use Rattle.std.proofs.Common.{List, subst, rules}
use Rattle.std.specs.Io.KnownBytes.{Appends}
use Rattle.flt_io.specs.Sink.{AppendsFront}
use Rattle.flt_life_model.specs.declared.replies.LaneReplies.{LaneReplies}
use Rattle.flt_notify.specs.Table.{value_of_kind}
use Rattle.flt_step.specs.Part.{parts_of}
use Rattle.flt_report.specs.Life.{life_text}
use Rattle.flt_report.proofs.Written.{front_first, writes_next}
use Rattle.flt_watch.specs.Text.{values_text}
use Rattle.flt_watch.proofs.telling.write_watched.Goals as goal

pub returns-in_err-write_life : goal.returns-in_err-write_life
returns-in_err-write_life g c =
    let life = c.args.watched.now.life in
    let begun = subst (λ (replies : List LaneReplies). AppendsFront (g.K.Sink.held c.args.sink.now) (g.K.Sink.held c.write_life.new.sink) (life_text 1 (parts_of c.args.parts.now) life.boot replies))
    c.deref.ensures.value c.in_err-write_life.ensures.err in
    let front = front_first _ _ (life_text 1 (parts_of c.args.parts.now) life.boot life.replies.items) (values_text (value_of_kind c.args.watched.now.subs)) begun in
    search (rules, front)

pub returns : goal.returns
returns g c =
    let life = c.args.watched.now.life in
    let whole = subst (λ (replies : List LaneReplies). Appends (g.K.Sink.held c.args.sink.now) (g.K.Sink.held c.write_life.new.sink) (life_text 1 (parts_of c.args.parts.now) life.boot replies))
    c.deref.ensures.value c.in_ok-write_life.ensures.ok in
    writes_next (life_text 1 (parts_of c.args.parts.now) life.boot life.replies.items) whole c.in_ok-write_life.ensures.later c.write_values.ensures
