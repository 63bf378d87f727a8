use Rattle.std.proofs.Common.{◌≡◌, ◌∙◌, Ok, Err, ap, arith, rules}
use Rattle.std.specs.Prelude.{◌≢◌}
use Rattle.flt_live.specs.declared.line.Answered.TheVariants as told
use Rattle.flt_live.specs.declared.reader.Line.TheVariants.{Ended}
use Rattle.flt_live.specs.Ahead.{ahead_in, kept_in}
use Rattle.flt_live.specs.Heard.{talk}
use Rattle.flt_live.proofs.Hearing.{dark_lost_ends, lost_anyway, lost_cut, lost_for, dark_first, dark_more, dark_power_ends}
use Rattle.flt_live.proofs.living.take_dark_lines.Goals as goal

pub loop-init : goal.loop-init
loop-init g c = record { ready = c.requires.ready; later_read = omega arith; later_write = omega arith; going = dark_first c.args.config.now _ }

pub loop-preserved : goal.loop-preserved
loop-preserved g c =
    let other : c.in-Ok.ended ≢ Ended = search rules in
    let was = c.loop.invariant in
    let answered = c.answer_dark_line.ensures.answered in
    let is : c.answer_dark_line.result ≡ Ok told.Line = c.in-Ok-Line.is ∙ ap Ok c.in-Ok-Line.field-0-is in
    record {
      ready = c.answer_dark_line.ensures.ready;
      later_read = omega (arith, was.later_read, c.in-Ok.ensures.cause.later);
      later_write = omega (arith, was.later_write, answered.written.later);
      going = dark_more c.args.config.now g.K.Sink.held g.K.Sink.faults c.loop.sink c.answer_dark_line.new.sink
          (talk (ahead_in (g.S.Source.left c.args.source.now) c.args.ear.now) (g.S.Source.faults c.args.source.now) (g.K.Sink.held c.args.sink.now) (g.K.Sink.faults c.args.sink.now))
          (ahead_in (g.S.Source.left c.loop.source) c.loop.ear) (ahead_in (g.S.Source.left c.hear.new.source) c.hear.new.self) (g.S.Source.faults c.loop.source) (g.S.Source.faults c.hear.new.source)
          c.in-Ok.ended (kept_in c.hear.new.self) c.text.result.now c.in-Ok.ensures.line other c.text.ensures was.going c.answer_dark_line.result answered is;
    }

pub returns-in-Ok-Power : goal.returns-in-Ok-Power
returns-in-Ok-Power g c =
    let other : c.in-Ok.ended ≢ Ended = search rules in
    let was = c.loop.invariant in
    let answered = c.answer_dark_line.ensures.answered in
    let is : c.answer_dark_line.result ≡ Ok told.Power = c.in-Ok-Power.is ∙ ap Ok c.in-Ok-Power.field-0-is in
    record {
      ready = c.answer_dark_line.ensures.ready;
      all = record {
        taken = dark_power_ends c.args.config.now g.K.Sink.held g.K.Sink.faults c.loop.sink c.answer_dark_line.new.sink
            (talk (ahead_in (g.S.Source.left c.args.source.now) c.args.ear.now) (g.S.Source.faults c.args.source.now) (g.K.Sink.held c.args.sink.now) (g.K.Sink.faults c.args.sink.now))
            (ahead_in (g.S.Source.left c.loop.source) c.loop.ear) (ahead_in (g.S.Source.left c.hear.new.source) c.hear.new.self) (g.S.Source.faults c.loop.source) (g.S.Source.faults c.hear.new.source)
            c.in-Ok.ended (kept_in c.hear.new.self) c.text.result.now c.in-Ok.ensures.line other c.text.ensures was.going c.answer_dark_line.result answered is;
        cause = tt;
        cut = tt;
        later = record { read = omega (arith, was.later_read, c.in-Ok.ensures.cause.later); write = omega (arith, was.later_write, answered.written.later) };
      };
    }

pub returns-in-Err-answer_dark_line : goal.returns-in-Err-answer_dark_line
returns-in-Err-answer_dark_line g c =
    let other : c.in-Ok.ended ≢ Ended = search rules in
    let was = c.loop.invariant in
    let answered = c.answer_dark_line.ensures.answered in
    let start = talk (ahead_in (g.S.Source.left c.args.source.now) c.args.ear.now) (g.S.Source.faults c.args.source.now) (g.K.Sink.held c.args.sink.now) (g.K.Sink.faults c.args.sink.now) in
    record {
      ready = c.answer_dark_line.ensures.ready;
      all = record {
        taken = lost_anyway c.in-Err-answer_dark_line.fault c.lost_by.result _ c.lost_by.ensures;
        cause = lost_for (g.K.Sink.faults c.args.sink.now) (g.K.Sink.faults c.loop.sink) (g.K.Sink.faults c.answer_dark_line.new.sink) c.in-Err-answer_dark_line.fault c.lost_by.result c.lost_by.ensures was.later_write
            (λ failed. answered.written.cause (c.in-Err-answer_dark_line.is ∙ ap Err failed));
        cut = lost_cut c.in-Err-answer_dark_line.fault c.lost_by.result _ c.lost_by.ensures
            (dark_lost_ends c.args.config.now g.K.Sink.held g.K.Sink.faults c.loop.sink c.answer_dark_line.new.sink start (ahead_in (g.S.Source.left c.loop.source) c.loop.ear) (ahead_in (g.S.Source.left c.hear.new.source) c.hear.new.self)
            (g.S.Source.faults c.loop.source) (g.S.Source.faults c.hear.new.source) c.in-Ok.ended (kept_in c.hear.new.self) c.text.result.now c.in-Ok.ensures.line other c.text.ensures was.going c.answer_dark_line.result answered
            c.in-Err-answer_dark_line.fault c.in-Err-answer_dark_line.is);
        later = record { read = omega (arith, was.later_read, c.in-Ok.ensures.cause.later); write = omega (arith, was.later_write, answered.written.later) };
      };
    }
