use Rattle.std.proofs.Common.{rules, subst}
use Rattle.std.specs.Prelude.{◌≢◌}
use Rattle.flt_restore.specs.declared.fault.StartFault.TheVariants as faults
use Rattle.flt_store.specs.Start.{RefusedFor}
use Rattle.flt_store.specs.Store.{driver_of}
use Rattle.flt_live.proofs.Beginnings.{begins_by, begun_started, begun_dark, begun_refused}
use Rattle.flt_live.proofs.living.begin.Goals as goal

pub returns-in-Ok : goal.returns-in-Ok
returns-in-Ok g c =
    begins_by c.args.config.now (driver_of c.args.store.now) c.power_up.new.self c.start_up.new.self _ c.power_up.ensures.powers_up c.start_up.ensures.driver.calls c.start_up.ensures.driver.applications
    (begun_started c.args.config.now (driver_of c.args.store.now) c.power_up.new.self c.start_up.new.self c.power_up.ensures.powers_up c.in-Ok.generation _ _ c.twin.ensures c.in-Ok.ensures.started c.in-Ok.ensures.fits)

pub returns-in-Err-Flash : goal.returns-in-Err-Flash
returns-in-Err-Flash g c =
    begins_by c.args.config.now (driver_of c.args.store.now) c.power_up.new.self c.start_up.new.self _ c.power_up.ensures.powers_up c.start_up.ensures.driver.calls c.start_up.ensures.driver.applications
    (begun_dark c.args.config.now (driver_of c.args.store.now) c.power_up.new.self c.start_up.new.self c.power_up.ensures.powers_up c.start_up.ensures.driver.calls c.in-Err-Flash.ensures.generations c.start_up.ensures.driver.applications
    (subst (RefusedFor c.args.config.now c.power_up.new.self c.start_up.new.self) c.in-Err-Flash.field-0-is c.in-Err-Flash.ensures.causes.refused))

pub returns-in-Err : goal.returns-in-Err
returns-in-Err g c =
    let other : c.in-Err.fault ≢ faults.Flash = search rules in
    begins_by c.args.config.now (driver_of c.args.store.now) c.power_up.new.self c.start_up.new.self _ c.power_up.ensures.powers_up c.start_up.ensures.driver.calls c.start_up.ensures.driver.applications
    (begun_refused c.args.config.now (driver_of c.args.store.now) c.power_up.new.self c.start_up.new.self c.power_up.ensures.powers_up c.start_up.ensures.driver.calls c.in-Err.ensures.generations c.start_up.ensures.driver.applications
    c.in-Err.fault other c.in-Err.ensures.causes.refused)
