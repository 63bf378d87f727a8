use Rattle.std.proofs.Common.{◌≡◌, ◌∙◌, [], Ok, Err, refl, ap, arith, subst, rules}
use Rattle.std.specs.Prelude.{◌≢◌}
use Rattle.flt_config.specs.declared.config.Config.{Config}
use Rattle.flt_queue.specs.Stands.{QueueStands}
use Rattle.flt_dcm.specs.Whole.{unit_seen}
use Rattle.flt_store.specs.Store.{driver_of}
use Rattle.flt_live.specs.declared.line.Answered.TheVariants as told
use Rattle.flt_live.specs.declared.reader.Line.{Line}
use Rattle.flt_live.specs.declared.reader.Line.TheVariants.{Ended}
use Rattle.flt_live.specs.Ahead.{TakesLine, ahead_in, kept_in}
use Rattle.flt_live.specs.Heard.{talk}
use Rattle.flt_live.proofs.Hearing.{cut_at_once, lost_anyway, lost_cut, lost_ends, lost_for, going_first, going_more, power_ends, end_ends, unread_ends, rose_later}
use Rattle.flt_live.proofs.living.take_lines.Goals as goal

pub loop-init : goal.loop-init
loop-init g c = record {
  same = c.requires.same;
  up = record { under_way = c.requires.under_way; blocks = c.in-Ok.ensures.blocks ∙ ap (λ (k : Config). k.blocks) c.config.ensures.value; alive = c.requires.alive };
  ready = c.requires.ready;
  later_read = omega arith;
  later_write = omega arith;
  going = λ first found living same.
      going_first c.args.config.now first found _ (unit_seen c.args.unit.now) c.in-Ok.queue c.args.store.now living same
      (subst (λ (k : Config). QueueStands k.blocks [] c.in-Ok.queue) c.config.ensures.value c.in-Ok.ensures.stands);
}

pub loop-preserved : goal.loop-preserved
loop-preserved g c =
    let other : c.in-Ok-hear.ended ≢ Ended = search rules in
    let was = c.loop.invariant in
    let answered = c.answer_line.ensures.answered in
    let is : c.answer_line.result ≡ Ok told.Line = c.in-Ok-Line.is ∙ ap Ok c.in-Ok-Line.field-0-is in
    record {
      same = c.answer_line.ensures.same;
      up = c.answer_line.ensures.up;
      ready = c.answer_line.ensures.ready;
      later_read = omega (arith, was.later_read, c.in-Ok-hear.ensures.cause.later);
      later_write = omega (arith, was.later_write, answered.written.later);
      going = λ first found living same. going_more c.args.config.now first found (driver_of c.args.store.now) g.K.Sink.held g.K.Sink.faults c.loop.sink c.answer_line.new.sink
          (talk (ahead_in (g.S.Source.left c.args.source.now) c.args.ear.now) (g.S.Source.faults c.args.source.now) (g.K.Sink.held c.args.sink.now) (g.K.Sink.faults c.args.sink.now))
          (ahead_in (g.S.Source.left c.loop.source) c.loop.ear) (ahead_in (g.S.Source.left c.hear.new.source) c.hear.new.self) (g.S.Source.faults c.loop.source) (g.S.Source.faults c.hear.new.source)
          (unit_seen c.loop.unit) (unit_seen c.answer_line.new.unit) c.loop.queue c.answer_line.new.queue c.loop.store c.answer_line.new.store
          c.in-Ok-hear.ended (kept_in c.hear.new.self) c.text-text.result.now c.in-Ok-hear.ensures.line other c.text-text.ensures (was.going first found living same) c.answer_line.result answered is;
    }

pub returns-in-Ok-Ended-clause-all : goal.returns-in-Ok-Ended-clause-all
returns-in-Ok-Ended-clause-all g c =
    let ahead = ahead_in (g.S.Source.left c.loop.source) c.loop.ear in
    let next_ahead = ahead_in (g.S.Source.left c.hear.new.source) c.hear.new.self in
    let was = c.loop.invariant in
    record {
      taken = λ first found living same. end_ends c.args.config.now first found (driver_of c.args.store.now)
          (talk (ahead_in (g.S.Source.left c.args.source.now) c.args.ear.now) (g.S.Source.faults c.args.source.now) (g.K.Sink.held c.args.sink.now) (g.K.Sink.faults c.args.sink.now))
          (talk ahead (g.S.Source.faults c.loop.source) (g.K.Sink.held c.loop.sink) (g.K.Sink.faults c.loop.sink))
          (talk next_ahead (g.S.Source.faults c.hear.new.source) (g.K.Sink.held c.loop.sink) (g.K.Sink.faults c.loop.sink))
          (unit_seen c.loop.unit) c.loop.queue c.loop.store (c.loop.invariant.going first found living same) refl (kept_in c.hear.new.self)
          (subst (λ (e : Line). TakesLine ahead next_ahead e (kept_in c.hear.new.self)) c.in-Ok-Ended.field-0-is c.in-Ok-Ended.ensures.line);
      cause = tt;
      cut = tt;
      later = record { read = omega (arith, was.later_read, c.in-Ok-Ended.ensures.cause.later); write = was.later_write };
    }

pub returns-in-Err-clause-all : goal.returns-in-Err-clause-all
returns-in-Err-clause-all g c =
    let was = c.loop.invariant in
    record {
      taken = λ first found living same. unread_ends c.args.config.now first found (driver_of c.args.store.now)
          (talk (ahead_in (g.S.Source.left c.args.source.now) c.args.ear.now) (g.S.Source.faults c.args.source.now) (g.K.Sink.held c.args.sink.now) (g.K.Sink.faults c.args.sink.now))
          (talk (ahead_in (g.S.Source.left c.loop.source) c.loop.ear) (g.S.Source.faults c.loop.source) (g.K.Sink.held c.loop.sink) (g.K.Sink.faults c.loop.sink))
          (talk (ahead_in (g.S.Source.left c.hear.new.source) c.hear.new.self) (g.S.Source.faults c.hear.new.source) (g.K.Sink.held c.loop.sink) (g.K.Sink.faults c.loop.sink))
          (unit_seen c.loop.unit) c.loop.queue c.loop.store (c.loop.invariant.going first found living same) refl
          (rose_later (g.S.Source.faults c.args.source.now) (g.S.Source.faults c.loop.source) (g.S.Source.faults c.hear.new.source) c.loop.invariant.later_read c.in-Err.ensures.cause.failed);
      cause = tt;
      cut = tt;
      later = record { read = omega (arith, was.later_read, c.in-Err.ensures.cause.later); write = was.later_write };
    }

pub returns-in-Ok-Power : goal.returns-in-Ok-Power
returns-in-Ok-Power g c =
    let other : c.in-Ok-hear.ended ≢ Ended = search rules in
    let was = c.loop.invariant in
    let answered = c.answer_line.ensures.answered in
    let is : c.answer_line.result ≡ Ok told.Power = c.in-Ok-Power.is ∙ ap Ok c.in-Ok-Power.field-0-is in
    record {
      same = c.answer_line.ensures.same;
      ready = c.answer_line.ensures.ready;
      all = record {
        taken = λ first found living same. power_ends c.args.config.now first found (driver_of c.args.store.now) g.K.Sink.held g.K.Sink.faults c.loop.sink c.answer_line.new.sink
            (talk (ahead_in (g.S.Source.left c.args.source.now) c.args.ear.now) (g.S.Source.faults c.args.source.now) (g.K.Sink.held c.args.sink.now) (g.K.Sink.faults c.args.sink.now))
            (ahead_in (g.S.Source.left c.loop.source) c.loop.ear) (ahead_in (g.S.Source.left c.hear.new.source) c.hear.new.self) (g.S.Source.faults c.loop.source) (g.S.Source.faults c.hear.new.source)
            (unit_seen c.loop.unit) (unit_seen c.answer_line.new.unit) c.loop.queue c.answer_line.new.queue c.loop.store c.answer_line.new.store
            c.in-Ok-hear.ended (kept_in c.hear.new.self) c.text-text.result.now c.in-Ok-hear.ensures.line other c.text-text.ensures (was.going first found living same) c.answer_line.result answered is;
        cause = tt;
        cut = tt;
        later = record { read = omega (arith, was.later_read, c.in-Ok-hear.ensures.cause.later); write = omega (arith, was.later_write, answered.written.later) };
      };
    }

pub returns-in-Err-answer_line : goal.returns-in-Err-answer_line
returns-in-Err-answer_line g c =
    let other : c.in-Ok-hear.ended ≢ Ended = search rules in
    let was = c.loop.invariant in
    let answered = c.answer_line.ensures.answered in
    let living = c.requires.living in
    let start = talk (ahead_in (g.S.Source.left c.args.source.now) c.args.ear.now) (g.S.Source.faults c.args.source.now) (g.K.Sink.held c.args.sink.now) (g.K.Sink.faults c.args.sink.now) in
    let ahead = ahead_in (g.S.Source.left c.loop.source) c.loop.ear in
    let next_ahead = ahead_in (g.S.Source.left c.hear.new.source) c.hear.new.self in
    let values = (driver_of c.args.store.now).value in
    record {
      same = c.answer_line.ensures.same;
      ready = c.answer_line.ensures.ready;
      all = record {
        taken = λ first found lives same. lost_anyway c.in-Err-answer_line.fault c.lost_by.result _ c.lost_by.ensures;
        cause = lost_for (g.K.Sink.faults c.args.sink.now) (g.K.Sink.faults c.loop.sink) (g.K.Sink.faults c.answer_line.new.sink) c.in-Err-answer_line.fault c.lost_by.result c.lost_by.ensures was.later_write
            (λ failed. answered.written.cause (c.in-Err-answer_line.is ∙ ap Err failed));
        cut = lost_cut c.in-Err-answer_line.fault c.lost_by.result _ c.lost_by.ensures
            (lost_ends c.args.config.now living.0 values (driver_of c.args.store.now) g.K.Sink.held g.K.Sink.faults c.loop.sink c.answer_line.new.sink start ahead next_ahead (g.S.Source.faults c.loop.source) (g.S.Source.faults c.hear.new.source)
            (unit_seen c.loop.unit) (unit_seen c.answer_line.new.unit) c.loop.queue c.answer_line.new.queue c.loop.store c.answer_line.new.store
            c.in-Ok-hear.ended (kept_in c.hear.new.self) c.text-text.result.now c.in-Ok-hear.ensures.line other c.text-text.ensures (was.going living.0 values living.1 (λ block below. refl)) c.answer_line.result answered
            c.in-Err-answer_line.fault c.in-Err-answer_line.is);
        later = record { read = omega (arith, was.later_read, c.in-Ok-hear.ensures.cause.later); write = omega (arith, was.later_write, answered.written.later) };
      };
    }

pub returns-in_default-clause-all : goal.returns-in_default-clause-all
returns-in_default-clause-all g c = record {
  taken = λ first found living same. tt;
  cause = tt;
  cut = cut_at_once c.args.config.now _ _ _ _;
  later = record { read = omega arith; write = omega arith };
}
