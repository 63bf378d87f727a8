use Rattle.std.proofs.Common.{◌∙◌, inl, sym, subst}
use Rattle.flt_flash.proofs.CallsInARow.{more_calls}
use Rattle.flt_flash.specs.declared.blocks.BlockFault.TheVariants.{Flash}
use Rattle.flt_nvm.specs.Leaves.{HasNoBytes}
use Rattle.std.proofs.lemmas.List.{length-take-le}
use Rattle.flt_nvm.specs.Driver.{driver_of}
use Rattle.flt_store.proofs.TableUse.{commit_index, commit_both}
use Rattle.flt_store.proofs.Causes.{calls_done, one_read, writes_handed, writes_on}
use Rattle.flt_store.proofs.Repairing.{is_read, sound_kept, mark_stays, both_old, no_commit, not_invalid}
use Rattle.flt_store.proofs.Copies.{ReadsCommit, reads_commit, range_read, held_at, some_holds, started_by, read_tried, read_kept, missing_read, invalid_read, of_first, none_of_first}
use Rattle.flt_store.proofs.Running.{failed_if_ok, handed, whenever}
use Rattle.flt_store.proofs.Started.{started_kept}
use Rattle.flt_store.proofs.Dark.{unrestarted_from, unmended_at}
use Rattle.flt_store.proofs.restarting.restart.Goals.{In-Bytes}
use Rattle.flt_store.proofs.restarting.restart.Goals as goal

pub read-requires : goal.read-requires
read-requires g c = commit_index _ c.requires.table

reads : (g : _) (c : In-Bytes g) → ReadsCommit (driver_of c.args.nvm.now) (driver_of c.read.new.self) c.in-Bytes.length c.in-Bytes.copy c.read.new.out
reads g c = reads_commit _ _ c.in-Bytes.length c.in-Bytes.copy _ c.read.new.out c.read.ensures.reads.values (commit_both _ c.requires.table _ _ (rw c.in-Bytes.is at c.in_ok-length.ensures.got))

pub slice_bounds-out-end : goal.slice_bounds-out-end
slice_bounds-out-end g c = (reads g (goal.at.slice_bounds-out-end g c).In-Bytes).short

pub slice_bounds-repair_by-end : goal.slice_bounds-repair_by-end
slice_bounds-repair_by-end g c = sym (length-take-le c.in-Bytes.length c.read.new.out (reads g (goal.at.slice_bounds-repair_by-end g c).In-Bytes).short)

pub repair_by-requires : goal.repair_by-requires
repair_by-requires g c =
    let read = reads g (goal.at.repair_by-requires g c).In-Bytes in
    let sound = c.requires.sound in
    let some = some_holds read c.args.config.now sound.0 sound.1 sound.2 in
    record {
      table = c.read.ensures.table ∙ c.requires.table;
      has = record { least = (range_read read).0; most = (range_read read).1; held = held_at read; read = is_read c.args.config.now _ _ some.0 some.1 };
    }

pub returns-in_ok-repair_by-in-Bytes-clause-restarts : goal.returns-in_ok-repair_by-in-Bytes-clause-restarts
returns-in_ok-repair_by-in-Bytes-clause-restarts g c = λ h s sound.
    let before = driver_of c.args.nvm.now in
    let middle = driver_of c.read.new.self in
    let after = driver_of c.repair_by.new.nvm in
    record {
      started = λ mark. started_by (reads g (goal.at.returns-in_ok-repair_by-in-Bytes-clause-restarts g c).In-Bytes) c.args.config.now h s sound after _ c.repair_by.ensures.calls.counts
          (λ g holds. (c.in_ok-repair_by-in-Bytes.ensures.repairs g holds).started (mark_stays c.args.config.now before.value middle.value c.read.ensures.reads.values mark));
      failed = λ new. tt;
      unrestarted = λ flash. absurd (cc flash);
      writes = calls_done before after _ (more_calls before middle after c.read.ensures.reads.calls.keeps_driver c.repair_by.ensures.calls);
    }

pub returns-in_err-repair_by-in-Bytes-clause-restarts : goal.returns-in_err-repair_by-in-Bytes-clause-restarts
returns-in_err-repair_by-in-Bytes-clause-restarts g c = λ h s sound.
    let before = driver_of c.args.nvm.now in
    let middle = driver_of c.read.new.self in
    let after = driver_of c.repair_by.new.nvm in
    let read = reads g (goal.at.returns-in_err-repair_by-in-Bytes-clause-restarts g c).In-Bytes in
    let some = some_holds read c.args.config.now h s sound in
    let repairs = c.repair_by.ensures.repairs some.0 some.1 in
    let other = c.repair_by.ensures.other in
    let answer = c.from_residual-in_err-repair_by-in-Bytes.result in
    let made = c.from_residual-in_err-repair_by-in-Bytes.ensures.1 in
    record {
      started = λ mark. failed_if_ok _ _ answer made;
      failed = λ new. whenever answer (read_tried read c.args.config.now h s sound after new other.within other.other other.others);
      unrestarted = λ flash.
          unrestarted_from before middle after c.read.ensures.reads.calls.keeps_driver c.read.ensures.reads.values
          (unmended_at middle after _ c.in-Bytes.copy (range_read read).0 (range_read read).1 (held_at read) (repairs.unmended (handed c.repair_by.result answer _ Flash c.in_err-repair_by-in-Bytes.was made flash)));
      writes = writes_handed before after c.repair_by.result answer _ c.in_err-repair_by-in-Bytes.was made (writes_on before middle after c.repair_by.result c.read.ensures.reads.calls.keeps_driver repairs.writes);
    }

pub returns-in-Missing-clause-restarts : goal.returns-in-Missing-clause-restarts
returns-in-Missing-clause-restarts g c = λ h s sound.
    let before = driver_of c.args.nvm.now in
    let after = driver_of c.read.new.self in
    let got = commit_both _ c.requires.table _ _ (rw c.in-Missing.is at c.in_ok-length.ensures.got) in
    let first = missing_read (before.value 16) _ _ got.0 in
    record {
      started = λ mark. inl (started_kept c.args.config.now before.value after.value c.read.ensures.reads.values _ h (no_commit c.args.config.now before.value h s sound mark first got.1));
      failed = λ new. tt;
      unrestarted = λ flash. absurd (cc flash);
      writes = calls_done before after _ c.read.ensures.reads.calls.keeps_driver;
    }

pub returns-in-Invalid-clause-restarts : goal.returns-in-Invalid-clause-restarts
returns-in-Invalid-clause-restarts g c = λ h s sound.
    let got = commit_both _ c.requires.table _ _ (rw c.in-Invalid.is at c.in_ok-length.ensures.got) in
    let first = invalid_read ((driver_of c.args.nvm.now).value 16) _ _ got.0 in
    absurd (not_invalid c.args.config.now (driver_of c.args.nvm.now).value h s sound first got.1)

pub returns-in_err-length-clause-restarts : goal.returns-in_err-length-clause-restarts
returns-in_err-length-clause-restarts g c = λ h s sound.
    let before = driver_of c.args.nvm.now in
    let after = driver_of c.read.new.self in
    let answer = c.from_residual.result in
    let made = c.from_residual.ensures.1 in
    record {
      started = λ mark. failed_if_ok _ _ answer made;
      failed = λ new. whenever answer (both_old c.args.config.now after.value h s new (sound_kept c.args.config.now before.value after.value h s c.read.ensures.reads.values sound));
      unrestarted = λ flash. inl (commit_both _ c.requires.table _ _ (c.read.ensures.unread (handed c.read.result answer _ Flash c.in_err-length.was made flash)));
      writes = writes_handed before after c.read.result answer _ c.in_err-length.was made (one_read before after c.read.result c.read.ensures.reads c.read.ensures.three);
    }

pub returns-in_ok-repair_by-in-Bytes-clause-commit_alone : goal.returns-in_ok-repair_by-in-Bytes-clause-commit_alone
returns-in_ok-repair_by-in-Bytes-clause-commit_alone g c =
    read_kept (reads g (goal.at.returns-in_ok-repair_by-in-Bytes-clause-commit_alone g c).In-Bytes) (driver_of c.repair_by.new.nvm) c.repair_by.ensures.other.others

pub returns-in_err-repair_by-in-Bytes-clause-commit_alone : goal.returns-in_err-repair_by-in-Bytes-clause-commit_alone
returns-in_err-repair_by-in-Bytes-clause-commit_alone g c =
    read_kept (reads g (goal.at.returns-in_err-repair_by-in-Bytes-clause-commit_alone g c).In-Bytes) (driver_of c.repair_by.new.nvm) c.repair_by.ensures.other.others

pub returns-in_ok-repair_by-in-Bytes-clause-found : goal.returns-in_ok-repair_by-in-Bytes-clause-found
returns-in_ok-repair_by-in-Bytes-clause-found g c =
    let read = c.in_ok-repair_by-in-Bytes.ensures.read in
    record {
      form = read.form;
      first = of_first (reads g (goal.at.returns-in_ok-repair_by-in-Bytes-clause-found g c).In-Bytes) c.args.config.now (driver_of c.repair_by.new.nvm) _ c.repair_by.ensures.calls.counts read.read;
    }

pub returns-in-Missing-clause-found : goal.returns-in-Missing-clause-found
returns-in-Missing-clause-found g c =
    let got = commit_both _ c.requires.table _ _ (rw c.in-Missing.is at c.in_ok-length.ensures.got) in
    let first = missing_read ((driver_of c.args.nvm.now).value 16) _ _ got.0 in
    record { form = tt; first = none_of_first c.args.config.now (driver_of c.args.nvm.now) (driver_of c.read.new.self) (subst HasNoBytes (sym first) tt) }

pub returns-in-Invalid-clause-found : goal.returns-in-Invalid-clause-found
returns-in-Invalid-clause-found g c =
    let got = commit_both _ c.requires.table _ _ (rw c.in-Invalid.is at c.in_ok-length.ensures.got) in
    let first = invalid_read ((driver_of c.args.nvm.now).value 16) _ _ got.0 in
    record { form = tt; first = none_of_first c.args.config.now (driver_of c.args.nvm.now) (driver_of c.read.new.self) (subst HasNoBytes (sym first) tt) }

pub returns-in_err-length-clause-found : goal.returns-in_err-length-clause-found
returns-in_err-length-clause-found g c = failed_if_ok _ _ c.from_residual.result c.from_residual.ensures.1

pub returns-in_err-repair_by-in-Bytes-clause-found : goal.returns-in_err-repair_by-in-Bytes-clause-found
returns-in_err-repair_by-in-Bytes-clause-found g c = failed_if_ok _ _ c.from_residual-in_err-repair_by-in-Bytes.result c.from_residual-in_err-repair_by-in-Bytes.ensures.1
