use Rattle.std.proofs.Common.{◌∙◌, ◌∷◌, [], Some, inl, inr, refl, sym, ap, subst, arith}
use Rattle.flt_flash.specs.Blocks.{DeviceState}
use Rattle.flt_io.specs.Status.{status_number}
use Rattle.flt_dcm.specs.Whole.{unit_seen}
use Rattle.flt_store.specs.Cause.{HasRoom}
use Rattle.flt_store.specs.Store.{driver_of}
use Rattle.flt_lives.specs.Media.{sectors}
use Rattle.flt_live.specs.Ahead.{ahead_in, ahead_with, pulled_in}
use Rattle.flt_io.specs.Fault.{Rose}
use Rattle.flt_live.specs.declared.living.LifeEnd.TheVariants.{Memory, Unwritten}
use Rattle.flt_live.specs.Heard.{talk}
use Rattle.flt_live.specs.Lived.{IsLostFor}
use Rattle.flt_live.proofs.Hearing.{rose_later}
use Rattle.flt_live.specs.Shelf.{GivesBack}
use Rattle.flt_live.proofs.Spans.{found_behind, is_span, none_passed, nothing_pulled, number_more, one_more, serves_on, span_of, spans_to, unread_of}
use Rattle.flt_live.proofs.session.live_on.Goals as goal

pub loop-init : goal.loop-init
loop-init g c =
    let left = g.S.Source.left c.args.source.now in
    record {
      same = c.requires.same;
      ready = c.in-Ok.ensures;
      later_read = omega arith;
      later_write = omega arith;
      passed = ([], omega arith, ap (λ a. talk a (g.S.Source.faults c.args.source.now) (g.K.Sink.held c.args.sink.now) (g.K.Sink.faults c.args.sink.now)) (ap (λ l. ahead_with l left) c.in-Ok-new.ensures ∙ nothing_pulled left), tt);
    }

pub device_of_life-requires-clause-numbers : goal.device_of_life-requires-clause-numbers
device_of_life-requires-clause-numbers g c =
    (serves_on c.args.config.now c.saturating_add-number.result (status_number c.live-lived.result.status) (driver_of c.in-Ok-store_over.store) c.live-lived.new.store (unit_seen c.live-lived.new.unit) _ _ c.live-lived.result.end c.live-lived.ensures.lived c.in-Power.is).numbers
    ∙ c.in-Ok-store_over.ensures.numbers

pub device_of_life-requires-clause-room : goal.device_of_life-requires-clause-room
device_of_life-requires-clause-room g c =
    let on = serves_on c.args.config.now c.saturating_add-number.result (status_number c.live-lived.result.status) (driver_of c.in-Ok-store_over.store) c.live-lived.new.store (unit_seen c.live-lived.new.unit) _ _ c.live-lived.result.end c.live-lived.ensures.lived c.in-Power.is in
    subst (HasRoom c.args.config.now) (sym on.room) c.in-Ok-store_over.ensures.room

pub loop-preserved : goal.loop-preserved
loop-preserved g c =
    let config = c.args.config.now in
    let tells = g.H.Shelf.tells in
    let was = c.loop.invariant in
    let lived = c.live-lived.ensures.lived in
    let read = lived.later.read in
    let write = lived.later.write in
    let was_read = was.later_read in
    let was_write = was.later_write in
    let start = talk (g.S.Source.left c.args.source.now) (g.S.Source.faults c.args.source.now) (g.K.Sink.held c.args.sink.now) (g.K.Sink.faults c.args.sink.now) in
    let from = talk (ahead_in (g.S.Source.left c.loop.source) c.loop.ear) (g.S.Source.faults c.loop.source) (g.K.Sink.held c.loop.sink) (g.K.Sink.faults c.loop.sink) in
    let after = talk (ahead_in (g.S.Source.left c.live-lived.new.source) c.live-lived.new.ear) (g.S.Source.faults c.live-lived.new.source) (g.K.Sink.held c.live-lived.new.sink) (g.K.Sink.faults c.live-lived.new.sink) in
    let number = c.saturating_add-number.result in
    let before = driver_of c.in-Ok-store_over.store in
    let last = c.live-lived.new.store in
    let unit = unit_seen c.live-lived.new.unit in
    let status = status_number c.live-lived.result.status in
    let end = c.live-lived.result.end in
    let life = span_of config number status before last unit from after end lived in
    let span = is_span config number status before last unit from after end lived in
    let lives = was.passed.0 in
    let counted = c.saturating_add-number.ensures ∙ number_more c.loop.number lives was.passed.1 in
    let found = found_behind tells (sectors config) lives (g.H.Shelf.kept c.loop.shelf) before was.passed.3 c.in-Ok-store_over.ensures.on
    (λ told. subst (λ (d : DeviceState). GivesBack (g.H.Shelf.kept c.loop.shelf) d.image) (sym c.in-Ok-store_over.ensures.device) (c.in-Ok-open.ensures.image told)) in
    record {
      same = c.live-lived.ensures.same;
      ready = c.live-lived.ensures.ready;
      later_read = omega (arith, read, was_read);
      later_write = omega (arith, write, was_write);
      passed = (
        life ∷ lives,
        omega (arith, counted),
        one_more tells config start lives life was.passed.2 counted found span c.in-Power.is,
        (c.device_of_life.ensures.on, λ told. c.close.ensures told ∙ ap (λ (d : DeviceState). Some d.image) c.device_of_life.ensures.device),
      );
    }

pub returns-in-Ended-clause-lived : goal.returns-in-Ended-clause-lived
returns-in-Ended-clause-lived g c =
    let config = c.args.config.now in
    let tells = g.H.Shelf.tells in
    let was = c.loop.invariant in
    let lived = c.live-lived.ensures.lived in
    let start = talk (g.S.Source.left c.args.source.now) (g.S.Source.faults c.args.source.now) (g.K.Sink.held c.args.sink.now) (g.K.Sink.faults c.args.sink.now) in
    let from = talk (ahead_in (g.S.Source.left c.loop.source) c.loop.ear) (g.S.Source.faults c.loop.source) (g.K.Sink.held c.loop.sink) (g.K.Sink.faults c.loop.sink) in
    let after = talk (ahead_in (g.S.Source.left c.live-lived.new.source) c.live-lived.new.ear) (g.S.Source.faults c.live-lived.new.source) (g.K.Sink.held c.live-lived.new.sink) (g.K.Sink.faults c.live-lived.new.sink) in
    let number = c.saturating_add-number.result in
    let before = driver_of c.in-Ok-store_over.store in
    let last = c.live-lived.new.store in
    let unit = unit_seen c.live-lived.new.unit in
    let status = status_number c.live-lived.result.status in
    let end = c.live-lived.result.end in
    let life = span_of config number status before last unit from after end lived in
    let span = is_span config number status before last unit from after end lived in
    let lives = was.passed.0 in
    let counted = c.saturating_add-number.ensures ∙ number_more c.loop.number lives was.passed.1 in
    let found = found_behind tells (sectors config) lives (g.H.Shelf.kept c.loop.shelf) before was.passed.3 c.in-Ok-store_over.ensures.on
    (λ told. subst (λ (d : DeviceState). GivesBack (g.H.Shelf.kept c.loop.shelf) d.image) (sym c.in-Ok-store_over.ensures.device) (c.in-Ok-open.ensures.image told)) in
    (lived.boot, lived.status_is, spans_to tells config start lives life was.passed.2 counted found span _ (pulled_in c.live-lived.new.ear) refl _ c.in-Ended.is)

pub returns-in-Unread-clause-failed : goal.returns-in-Unread-clause-failed
returns-in-Unread-clause-failed g c =
    let config = c.args.config.now in
    let tells = g.H.Shelf.tells in
    let was = c.loop.invariant in
    let lived = c.live-lived.ensures.lived in
    let start = talk (g.S.Source.left c.args.source.now) (g.S.Source.faults c.args.source.now) (g.K.Sink.held c.args.sink.now) (g.K.Sink.faults c.args.sink.now) in
    let from = talk (ahead_in (g.S.Source.left c.loop.source) c.loop.ear) (g.S.Source.faults c.loop.source) (g.K.Sink.held c.loop.sink) (g.K.Sink.faults c.loop.sink) in
    let after = talk (ahead_in (g.S.Source.left c.live-lived.new.source) c.live-lived.new.ear) (g.S.Source.faults c.live-lived.new.source) (g.K.Sink.held c.live-lived.new.sink) (g.K.Sink.faults c.live-lived.new.sink) in
    let number = c.saturating_add-number.result in
    let before = driver_of c.in-Ok-store_over.store in
    let last = c.live-lived.new.store in
    let unit = unit_seen c.live-lived.new.unit in
    let status = status_number c.live-lived.result.status in
    let end = c.live-lived.result.end in
    let life = span_of config number status before last unit from after end lived in
    let span = is_span config number status before last unit from after end lived in
    let lives = was.passed.0 in
    let counted = c.saturating_add-number.ensures ∙ number_more c.loop.number lives was.passed.1 in
    let found = found_behind tells (sectors config) lives (g.H.Shelf.kept c.loop.shelf) before was.passed.3 c.in-Ok-store_over.ensures.on
    (λ told. subst (λ (d : DeviceState). GivesBack (g.H.Shelf.kept c.loop.shelf) d.image) (sym c.in-Ok-store_over.ensures.device) (c.in-Ok-open.ensures.image told)) in
    unread_of tells config start lives life was.passed.2 counted found span _ (pulled_in c.live-lived.new.ear) refl c.in-Unread.is was.later_read

pub returns-in-Unwritten-clause-failed : goal.returns-in-Unwritten-clause-failed
returns-in-Unwritten-clause-failed g c =
    let config = c.args.config.now in
    let tells = g.H.Shelf.tells in
    let was = c.loop.invariant in
    let lived = c.live-lived.ensures.lived in
    let start = talk (g.S.Source.left c.args.source.now) (g.S.Source.faults c.args.source.now) (g.K.Sink.held c.args.sink.now) (g.K.Sink.faults c.args.sink.now) in
    let from = talk (ahead_in (g.S.Source.left c.loop.source) c.loop.ear) (g.S.Source.faults c.loop.source) (g.K.Sink.held c.loop.sink) (g.K.Sink.faults c.loop.sink) in
    let after = talk (ahead_in (g.S.Source.left c.live-lived.new.source) c.live-lived.new.ear) (g.S.Source.faults c.live-lived.new.source) (g.K.Sink.held c.live-lived.new.sink) (g.K.Sink.faults c.live-lived.new.sink) in
    let number = c.saturating_add-number.result in
    let before = driver_of c.in-Ok-store_over.store in
    let last = c.live-lived.new.store in
    let unit = unit_seen c.live-lived.new.unit in
    let status = status_number c.live-lived.result.status in
    let end = c.live-lived.result.end in
    let life = span_of config number status before last unit from after end lived in
    let span = is_span config number status before last unit from after end lived in
    let lives = was.passed.0 in
    let counted = c.saturating_add-number.ensures ∙ number_more c.loop.number lives was.passed.1 in
    let found = found_behind tells (sectors config) lives (g.H.Shelf.kept c.loop.shelf) before was.passed.3 c.in-Ok-store_over.ensures.on
    (λ told. subst (λ (d : DeviceState). GivesBack (g.H.Shelf.kept c.loop.shelf) d.image) (sym c.in-Ok-store_over.ensures.device) (c.in-Ok-open.ensures.image told)) in
    let rose : Rose (g.K.Sink.faults c.loop.sink) (g.K.Sink.faults c.live-lived.new.sink) = subst (IsLostFor (g.K.Sink.faults c.loop.sink) (g.K.Sink.faults c.live-lived.new.sink)) c.in-Unwritten.is lived.lost in (
      rose_later (g.K.Sink.faults c.args.sink.now) (g.K.Sink.faults c.loop.sink) (g.K.Sink.faults c.live-lived.new.sink) was.later_write rose,
      record { boot = lived.boot; end = Unwritten; lost = tt; lived = spans_to tells config start lives life was.passed.2 counted found span _ (pulled_in c.live-lived.new.ear) refl _ c.in-Unwritten.is },
    )

pub returns-in-Memory-clause-failed : goal.returns-in-Memory-clause-failed
returns-in-Memory-clause-failed g c =
    let config = c.args.config.now in
    let tells = g.H.Shelf.tells in
    let was = c.loop.invariant in
    let lived = c.live-lived.ensures.lived in
    let start = talk (g.S.Source.left c.args.source.now) (g.S.Source.faults c.args.source.now) (g.K.Sink.held c.args.sink.now) (g.K.Sink.faults c.args.sink.now) in
    let from = talk (ahead_in (g.S.Source.left c.loop.source) c.loop.ear) (g.S.Source.faults c.loop.source) (g.K.Sink.held c.loop.sink) (g.K.Sink.faults c.loop.sink) in
    let after = talk (ahead_in (g.S.Source.left c.live-lived.new.source) c.live-lived.new.ear) (g.S.Source.faults c.live-lived.new.source) (g.K.Sink.held c.live-lived.new.sink) (g.K.Sink.faults c.live-lived.new.sink) in
    let number = c.saturating_add-number.result in
    let before = driver_of c.in-Ok-store_over.store in
    let last = c.live-lived.new.store in
    let unit = unit_seen c.live-lived.new.unit in
    let status = status_number c.live-lived.result.status in
    let end = c.live-lived.result.end in
    let life = span_of config number status before last unit from after end lived in
    let span = is_span config number status before last unit from after end lived in
    let lives = was.passed.0 in
    let counted = c.saturating_add-number.ensures ∙ number_more c.loop.number lives was.passed.1 in
    let found = found_behind tells (sectors config) lives (g.H.Shelf.kept c.loop.shelf) before was.passed.3 c.in-Ok-store_over.ensures.on
    (λ told. subst (λ (d : DeviceState). GivesBack (g.H.Shelf.kept c.loop.shelf) d.image) (sym c.in-Ok-store_over.ensures.device) (c.in-Ok-open.ensures.image told)) in
    inl (record { boot = lived.boot; end = Memory; lost = tt; lived = spans_to tells config start lives life was.passed.2 counted found span _ (pulled_in c.live-lived.new.ear) refl _ c.in-Memory.is })

pub returns-in_default-clause-failed : goal.returns-in_default-clause-failed
returns-in_default-clause-failed g c =
    inr (none_passed g.H.Shelf.tells c.args.config.now (talk (g.S.Source.left c.args.source.now) (g.S.Source.faults c.args.source.now) (g.K.Sink.held c.args.sink.now) (g.K.Sink.faults c.args.sink.now)))

pub returns-in_default-new-clause-failed : goal.returns-in_default-new-clause-failed
returns-in_default-new-clause-failed g c =
    inr (none_passed g.H.Shelf.tells c.args.config.now (talk (g.S.Source.left c.args.source.now) (g.S.Source.faults c.args.source.now) (g.K.Sink.held c.args.sink.now) (g.K.Sink.faults c.args.sink.now)))
