use Rattle.std.proofs.Common.{[], None, refl, arith, subst}
use Rattle.flt_config.specs.declared.config.Config.{Config}
use Rattle.flt_dcm.specs.Unit.{Stands}
use Rattle.flt_dcm.specs.Whole.{unit_seen}
use Rattle.flt_io.specs.Status.{status_number}
use Rattle.flt_life_model.specs.Chain.{start_from}
use Rattle.flt_report.specs.Boot.{boot_line}
use Rattle.flt_store.specs.Store.{driver_of, numbered}
use Rattle.flt_live.specs.declared.living.LifeEnd.TheVariants.{Ended}
use Rattle.flt_live.specs.Ahead.{ahead_in}
use Rattle.flt_live.specs.Heard.{SaysLine, talk}
use Rattle.flt_live.proofs.Boots.{begins, dark_goes, life_lived, life_lost, on_taken, refused_goes, started, started_goes}
use Rattle.flt_live.proofs.Hearing.{failed_rose}
use Rattle.flt_live.proofs.Writings.{front_of}
use Rattle.flt_live.proofs.living.live.Goals as goal

pub returns-in-Err-clause-lived : goal.returns-in-Err-clause-lived
returns-in-Err-clause-lived g c =
    let boot = c.begin-boot.result in
    let ahead = ahead_in (g.S.Source.left c.args.source.now) c.args.ear.now in
    let reads = g.S.Source.faults c.args.source.now in
    let from = talk ahead reads (g.K.Sink.held c.args.sink.now) (g.K.Sink.faults c.args.sink.now) in
    let after = talk ahead reads (g.K.Sink.held c.say_boot.new.sink) (g.K.Sink.faults c.say_boot.new.sink) in
    life_lost c.args.config.now c.args.number (status_number c.status_by-status.result) (driver_of c.args.store.now) c.begin-boot.new.store c.begin-boot.new.store (unit_seen c.args.unit.now) from after
    c.lost_by-end.result boot c.status_by-status.ensures c.begin-boot.ensures c.in-Err.fault c.lost_by-end.ensures
    (failed_rose g.K.Sink.held g.K.Sink.faults c.args.sink.now c.say_boot.new.sink (boot_line c.args.number boot) c.say_boot.result c.in-Err.fault c.in-Err.is c.say_boot.ensures)
    (front_of g.K.Sink.held g.K.Sink.faults c.args.sink.now c.say_boot.new.sink (boot_line c.args.number boot) c.say_boot.result c.in-Err.fault c.in-Err.is c.say_boot.ensures) (omega arith) c.say_boot.ensures.later

pub returns-in-Started-clause-lived : goal.returns-in-Started-clause-lived
returns-in-Started-clause-lived g c =
    let config = c.args.config.now in
    let before = driver_of c.args.store.now in
    let boot = c.begin-boot.result in
    let begun = c.begin-boot.new.store in
    let first = numbered c.in-Started.generation c.in-Started.start in
    let last = c.take_lines-end.new.store in
    let unit = unit_seen c.take_lines-end.new.unit in
    let ahead = ahead_in (g.S.Source.left c.args.source.now) c.args.ear.now in
    let reads = g.S.Source.faults c.args.source.now in
    let from = talk ahead reads (g.K.Sink.held c.args.sink.now) (g.K.Sink.faults c.args.sink.now) in
    let between = talk ahead reads (g.K.Sink.held c.say_boot.new.sink) (g.K.Sink.faults c.say_boot.new.sink) in
    let after = talk (ahead_in (g.S.Source.left c.take_lines-end.new.source) c.take_lines-end.new.ear) (g.S.Source.faults c.take_lines-end.new.source) (g.K.Sink.held c.take_lines-end.new.sink) (g.K.Sink.faults c.take_lines-end.new.sink) in
    let says : SaysLine (boot_line c.args.number boot) from between = record { written = on_taken _ c.say_boot.result _ c.in_default.is c.say_boot.ensures.ok; ahead = refl; read_faults = refl } in
    let how = started config before begun last unit between after c.take_lines-end.result boot c.in-Started.generation c.in-Started.start c.in-Started.is c.begin-boot.ensures in
    let stands = subst (λ (k : Config). Stands (start_from k c.in-Started.start) [] (unit_seen c.boot.new.self)) c.requires.same c.boot.ensures.stands in
    life_lived config c.args.number (status_number c.status_by-status.result) before begun last unit from after c.take_lines-end.result boot c.status_by-status.ensures c.begin-boot.ensures between says
    c.say_boot.ensures.later
    (started_goes config before begun last unit between after c.take_lines-end.result boot c.in-Started.generation c.in-Started.start c.in-Started.is
    (c.take_lines-end.ensures.all.taken first before.value (begins config first (unit_seen c.boot.new.self) begun how.1 stands) c.begin-boot.ensures.applications))
    c.take_lines-end.ensures.all.cause c.take_lines-end.ensures.all.cut c.take_lines-end.ensures.all.later.read c.take_lines-end.ensures.all.later.write

pub returns-in-Dark-clause-lived : goal.returns-in-Dark-clause-lived
returns-in-Dark-clause-lived g c =
    let config = c.args.config.now in
    let boot = c.begin-boot.result in
    let begun = c.begin-boot.new.store in
    let unit = unit_seen c.args.unit.now in
    let ahead = ahead_in (g.S.Source.left c.args.source.now) c.args.ear.now in
    let reads = g.S.Source.faults c.args.source.now in
    let from = talk ahead reads (g.K.Sink.held c.args.sink.now) (g.K.Sink.faults c.args.sink.now) in
    let between = talk ahead reads (g.K.Sink.held c.say_boot.new.sink) (g.K.Sink.faults c.say_boot.new.sink) in
    let after = talk (ahead_in (g.S.Source.left c.take_dark_lines-end.new.source) c.take_dark_lines-end.new.ear) (g.S.Source.faults c.take_dark_lines-end.new.source) (g.K.Sink.held c.take_dark_lines-end.new.sink) (g.K.Sink.faults c.take_dark_lines-end.new.sink) in
    let says : SaysLine (boot_line c.args.number boot) from between = record { written = on_taken _ c.say_boot.result _ c.in_default.is c.say_boot.ensures.ok; ahead = refl; read_faults = refl } in
    life_lived config c.args.number (status_number c.status_by-status.result) (driver_of c.args.store.now) begun begun unit from after c.take_dark_lines-end.result boot c.status_by-status.ensures c.begin-boot.ensures between says
    c.say_boot.ensures.later (dark_goes config (driver_of c.args.store.now) begun unit between after c.take_dark_lines-end.result boot c.in-Dark.is c.take_dark_lines-end.ensures.all.taken)
    c.take_dark_lines-end.ensures.all.cause c.take_dark_lines-end.ensures.all.cut c.take_dark_lines-end.ensures.all.later.read c.take_dark_lines-end.ensures.all.later.write

pub returns-in-Refused-clause-lived : goal.returns-in-Refused-clause-lived
returns-in-Refused-clause-lived g c =
    let config = c.args.config.now in
    let boot = c.begin-boot.result in
    let begun = c.begin-boot.new.store in
    let unit = unit_seen c.args.unit.now in
    let ahead = ahead_in (g.S.Source.left c.args.source.now) c.args.ear.now in
    let reads = g.S.Source.faults c.args.source.now in
    let from = talk ahead reads (g.K.Sink.held c.args.sink.now) (g.K.Sink.faults c.args.sink.now) in
    let between = talk ahead reads (g.K.Sink.held c.say_boot.new.sink) (g.K.Sink.faults c.say_boot.new.sink) in
    let says : SaysLine (boot_line c.args.number boot) from between = record { written = on_taken _ c.say_boot.result _ c.in_default.is c.say_boot.ensures.ok; ahead = refl; read_faults = refl } in
    life_lived config c.args.number (status_number c.status_by-status.result) (driver_of c.args.store.now) begun begun unit from between Ended boot c.status_by-status.ensures c.begin-boot.ensures between says
    c.say_boot.ensures.later (refused_goes config (driver_of c.args.store.now) begun unit between between Ended boot c.in-Refused.field-0 c.in-Refused.is refl refl) tt tt (omega arith) (omega arith)

pub take_lines-end-requires-clause-living : goal.take_lines-end-requires-clause-living
take_lines-end-requires-clause-living g c =
    let config = c.args.config.now in
    let begun = c.begin-boot.new.store in
    let first = numbered c.in-Started.generation c.in-Started.start in
    let how = started config (driver_of c.args.store.now) begun begun (unit_seen c.args.unit.now) (talk None 0 None 0) (talk None 0 None 0) Ended c.begin-boot.result c.in-Started.generation c.in-Started.start c.in-Started.is c.begin-boot.ensures in
    let stands = subst (λ (k : Config). Stands (start_from k c.in-Started.start) [] (unit_seen c.boot.new.self)) c.requires.same c.boot.ensures.stands in
    (first, begins config first (unit_seen c.boot.new.self) begun how.1 stands)
