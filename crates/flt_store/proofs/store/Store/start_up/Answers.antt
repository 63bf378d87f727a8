use Rattle.std.specs.Prelude.{IfErr}
use Rattle.std.proofs.Common.{◌∙◌, inl, inr, refl, sym}
use Rattle.flt_flash.proofs.CallsInARow.{more_calls}
use Rattle.flt_nvm.specs.Driver.{driver_of as driver_beneath}
use Rattle.flt_store_model.specs.Layout.{application_number}
use Rattle.flt_restore.specs.declared.fault.StartFault.TheVariants.{Flash, SequenceSpent}
use Rattle.flt_restore.proofs.Telling.{handed_on}
use Rattle.flt_store.specs.Start.{RefusedFor}
use Rattle.flt_store.specs.Store.{driver_of}
use Rattle.flt_store.proofs.Repairing.{sound_kept, both_old}
use Rattle.flt_store.proofs.Running.{failed_ok, ok_map, ok_of, told_by, whenever}
use Rattle.flt_store.proofs.Faults.{dark_by_mount, err_told, never_of_blocks, never_stuck_by_mount, refused_by_mount, refused_through, starts_through}
use Rattle.flt_store.proofs.Dark.{unready_from}
use Rattle.flt_store.proofs.OutOfNumbers.{out_of_numbers_from}
use Rattle.flt_store.proofs.Refused.{closed_by}
use Rattle.flt_store.proofs.store.Store.start_up.Goals.{After-start_mounted}
use Rattle.flt_store.proofs.store.Store.start_up.Goals as goal

refused : (g : _) (c : After-start_mounted g) → IfErr c.start_mounted.result (RefusedFor c.args.config.now c.args.self.now c.start_mounted.new.self)
refused g c =
    let mounted = c.in_ok-start.ensures.mounted in
    err_told c.start_mounted.result
    (λ fault refused. refused_through c.args.config.now c.args.self.now _ c.start_mounted.new.self c.start.ensures.mounted.calls.keeps_driver c.start.ensures.mounted.values mounted.calls.refuses_damage
    (g.met.B.Blocks.settled_has_mounted c.start.new.self.blocks mounted.stale) fault refused)
    c.start_mounted.ensures.causes.refused

pub returns-clause-started : goal.returns-clause-started
returns-clause-started g c =
    ok_map c.start_mounted.result
    (λ number starts. starts_through c.args.config.now c.args.self.now _ c.start_mounted.new.self c.start.ensures.mounted.calls.keeps_driver c.start.ensures.mounted.values c.in_ok-start.ensures.mounted.calls.refuses_damage number
    c.start_mounted.new.out starts)
    c.start_mounted.ensures.started

pub returns-clause-causes : goal.returns-clause-causes
returns-clause-causes g c =
    let first = driver_of c.args.self.now in
    let second = driver_beneath c.start.new.self in
    let third = driver_of c.start_mounted.new.self in
    let mounted = c.in_ok-start.ensures.mounted in
    let causes = c.start_mounted.ensures.causes in
    record {
      refused = refused g (goal.at.returns-clause-causes g c).After-start_mounted;
      dark = λ flash. inr (unready_from first second third c.start.ensures.mounted.calls.keeps_driver c.start.ensures.mounted.values c.args.config.now (causes.dark flash));
      unwritten = err_told c.start_mounted.result (λ fault same of_blocks. (second, mounted.tries, same of_blocks)) causes.unwritten;
      early = λ told was. (second, mounted.tries, causes.early told (c.start.ensures.mounted.spent ∙ was));
      spent = λ told. out_of_numbers_from c.args.config.now first second third c.start.ensures.mounted.calls.keeps_driver c.start.ensures.mounted.values c.start.ensures.mounted.spent (causes.spent told);
    }

pub returns-in_err-start-clause-causes : goal.returns-in_err-start-clause-causes
returns-in_err-start-clause-causes g c =
    let answer = c.from_residual.result in
    let made = c.from_residual.ensures.1 in
    let fault = c.in_err-start.field-0.0 in
    let mounted = c.in_err-start.ensures.mounted in
    record {
      refused = handed_on _ answer _ made (refused_by_mount c.args.config.now c.args.self.now _ fault mounted);
      dark = λ flash. inl (dark_by_mount fault mounted (sym (told_by _ answer Flash made flash)));
      unwritten = handed_on _ answer _ made (λ of_blocks. absurd (never_of_blocks fault of_blocks));
      early = λ told was. absurd (never_stuck_by_mount fault mounted (sym (told_by _ answer SequenceSpent made told)));
      spent = λ told. absurd (never_stuck_by_mount fault mounted (sym (told_by _ answer SequenceSpent made told)));
    }

pub returns-clause-generations : goal.returns-clause-generations
returns-clause-generations g c = λ h s sound.
    c.start_mounted.ensures.generations h s (sound_kept c.args.config.now (driver_of c.args.self.now).value (driver_beneath c.start.new.self).value h s c.start.ensures.mounted.values sound)

pub returns-in_err-start-clause-generations : goal.returns-in_err-start-clause-generations
returns-in_err-start-clause-generations g c = λ h s sound.
    whenever c.from_residual.result
    (both_old c.args.config.now (driver_beneath c.start.new.self).value h s h (sound_kept c.args.config.now (driver_of c.args.self.now).value (driver_beneath c.start.new.self).value h s c.start.ensures.mounted.values sound))

pub returns-clause-closed : goal.returns-clause-closed
returns-clause-closed g c =
    err_told c.start_mounted.result
    (closed_by c.args.config.now c.args.self.now c.start_mounted.new.self (g.met.B.Blocks.mounted_is_sound c.start_mounted.new.self.nvm.blocks)
    (more_calls _ _ _ c.start.ensures.mounted.calls.keeps_driver c.start_mounted.ensures.driver.calls))
    (refused g (goal.at.returns-clause-closed g c).After-start_mounted)

pub returns-clause-settles : goal.returns-clause-settles
returns-clause-settles g c = record {
  settled = ok_of c.start_mounted.result (λ number starts. starts.settled) c.start_mounted.ensures.started;
  unsettled = c.start_mounted.ensures.unsettled refl;
}

pub returns-in_err-start-clause-settles : goal.returns-in_err-start-clause-settles
returns-in_err-start-clause-settles g c = record { settled = failed_ok _ _ c.from_residual.result c.from_residual.ensures.1; unsettled = whenever c.from_residual.result refl }

pub returns-clause-driver : goal.returns-clause-driver
returns-clause-driver g c = record {
  applications = λ block below. c.start_mounted.ensures.driver.applications block below ∙ c.start.ensures.mounted.values (application_number block);
  not_stale = c.start_mounted.ensures.driver.not_stale;
  calls = more_calls _ _ _ c.start.ensures.mounted.calls.keeps_driver c.start_mounted.ensures.driver.calls;
}

pub returns-in_err-start-clause-driver : goal.returns-in_err-start-clause-driver
returns-in_err-start-clause-driver g c = record {
  applications = λ block below. c.start.ensures.mounted.values (application_number block);
  not_stale = failed_ok _ _ c.from_residual.result c.from_residual.ensures.1;
  calls = c.start.ensures.mounted.calls.keeps_driver;
}
