use Rattle.std.proofs.Common.{inl, inr, ◌∙◌, sym, ap}
use Rattle.flt_flash.specs.Calls.{Follows}
use Rattle.flt_flash.proofs.CallsInARow.{more_calls}
use Rattle.flt_flash.specs.Content.{bytes}
use Rattle.flt_flash.specs.declared.blocks.BlockFault.TheVariants.{Flash, SequenceSpent}
use Rattle.flt_nvm.specs.Driver.{driver_of}
use Rattle.flt_store_model.specs.Reading.{commit_in}
use Rattle.flt_store.proofs.Causes.{writes_handed, writes_done}
use Rattle.flt_store.proofs.Marks.{TriesMark, keeps_marked, applications_marked}
use Rattle.flt_store.proofs.Started.{sound_still}
use Rattle.flt_store.proofs.Beginning.{Begun, copy_marked, borne_with_mark, none_started, begun_started, begun_tried, begun_borne, begun_applications, begun_writes, begun_unmended, begun_stuck}
use Rattle.flt_store.proofs.Repairing.{both_old, bytes_of_commit}
use Rattle.flt_store.proofs.Running.{failed_if_ok, failed_ok, handed, taken, whenever}
use Rattle.flt_store.proofs.TableUse.{commit_twice, commit_fits}
use Rattle.flt_store.proofs.store.starting.begin_by.Goals.{After-write_mark, After-repair}
use Rattle.flt_store.proofs.store.starting.begin_by.Goals as goal

tries : (g : _) (c : After-write_mark g) → TriesMark c.args.config.now (driver_of c.args.nvm.now) (driver_of c.write_mark.new.nvm)
tries g c = record { tried = (c.write_mark.ensures.mark c.args.config.now c.mark_of.ensures.value).tried; others = c.write_mark.ensures.others; keeps_driver = c.write_mark.ensures.writes.keeps_driver }

begun : (g : _) (c : After-repair g) → Begun c.args.config.now c.args.nvm.now c.write_mark.new.nvm c.repair.new.self c.in-Some.found c.repair.result
begun g c = record {
  tries = record { tried = (c.write_mark.ensures.mark c.args.config.now c.mark_of.ensures.value).tried; others = c.write_mark.ensures.others; keeps_driver = c.write_mark.ensures.writes.keeps_driver };
  is = rw c.in-Some.is at c.requires.read.found;
  repairs = rw c.deref.ensures.0 at c.repair.ensures;
}

pub repair-requires : goal.repair-requires
repair-requires g c =
    let is = copy_marked (tries g (goal.at.repair-requires g c).After-write_mark) c.in-Some.found (rw c.in-Some.is at c.requires.read.found) in
    let size = bytes_of_commit c.args.config.now _ c.in-Some.found.commit (ap (commit_in c.args.config.now) c.deref.ensures.0 ∙ is.read) in
    let table = c.write_mark.ensures.table ∙ c.requires.table in
    record {
      redundant = commit_twice _ table;
      least_copy = is.least;
      most_copy = is.most;
      holds = is.holds ∙ ap bytes (sym c.deref.ensures.0);
      least = size.0;
      fits = commit_fits _ table _ size.1;
    }

calls : (g : _) (c : After-repair g) → Follows (driver_of c.args.nvm.now) (driver_of c.repair.new.self)
calls g c = more_calls (driver_of c.args.nvm.now) (driver_of c.write_mark.new.nvm) (driver_of c.repair.new.self) c.write_mark.ensures.writes.keeps_driver c.repair.ensures.calls.keeps_driver

pub returns-in_ok-repair-in-Some-clause-begins : goal.returns-in_ok-repair-in-Some-clause-begins
returns-in_ok-repair-in-Some-clause-begins g c = λ h begins.
    let repaired = begun g (goal.at.returns-in_ok-repair-in-Some-clause-begins g c).After-repair in
    record {
      started = begun_started repaired c.in_ok-repair-in-Some.was (λ commit. (c.in_ok-write_mark.ensures.mark c.args.config.now c.mark_of.ensures.value).marked commit) h (rw c.in-Some.is at begins);
      generations = λ held spare sound. tt;
      unbegun = λ flash. absurd (cc flash);
      writes = writes_done (driver_of c.args.nvm.now) (driver_of c.repair.new.self) c.repair.result _ (begun_writes repaired);
      borne = begun_borne repaired c.args.found h begins;
    }

pub returns-in-None-clause-begins : goal.returns-in-None-clause-begins
returns-in-None-clause-begins g c = λ h begins.
    let marks = tries g (goal.at.returns-in-None-clause-begins g c).After-write_mark in
    record {
      started = none_started marks (λ commit. (c.in_ok-write_mark.ensures.mark c.args.config.now c.mark_of.ensures.value).marked commit) h (rw c.in-None.is at begins);
      generations = λ held spare sound. tt;
      unbegun = λ flash. absurd (cc flash);
      writes = writes_done (driver_of c.args.nvm.now) (driver_of c.write_mark.new.nvm) c.write_mark.result _ c.write_mark.ensures.writes;
      borne = borne_with_mark marks c.args.found h begins;
    }

pub returns-in_err-write_mark-clause-begins : goal.returns-in_err-write_mark-clause-begins
returns-in_err-write_mark-clause-begins g c = λ h begins.
    let marks = tries g (goal.at.returns-in_err-write_mark-clause-begins g c).After-write_mark in
    record {
      started = failed_if_ok _ _ c.from_residual.result c.from_residual.ensures.1;
      generations = λ held spare sound. whenever c.from_residual.result (both_old c.args.config.now (driver_of c.write_mark.new.nvm).value held spare held (sound_still (keeps_marked marks) held spare sound));
      unbegun = λ flash.
          inl ((c.write_mark.ensures.mark c.args.config.now c.mark_of.ensures.value).unwritten (handed c.write_mark.result c.from_residual.result _ Flash c.in_err-write_mark.was c.from_residual.ensures.1 flash));
      writes = writes_handed (driver_of c.args.nvm.now) (driver_of c.write_mark.new.nvm) c.write_mark.result c.from_residual.result _ c.in_err-write_mark.was c.from_residual.ensures.1 c.write_mark.ensures.writes;
      borne = borne_with_mark marks c.args.found h begins;
    }

pub returns-in_err-repair-in-Some-clause-begins : goal.returns-in_err-repair-in-Some-clause-begins
returns-in_err-repair-in-Some-clause-begins g c = λ h begins.
    let repaired = begun g (goal.at.returns-in_err-repair-in-Some-clause-begins g c).After-repair in
    let answer = c.from_residual-in_err-repair-in-Some.result in
    let made = c.from_residual-in_err-repair-in-Some.ensures.1 in
    record {
      started = failed_if_ok _ _ answer made;
      generations = λ held spare sound. whenever answer (begun_tried repaired held spare held sound);
      unbegun = λ flash. inr (begun_unmended repaired (handed c.repair.result answer _ Flash c.in_err-repair-in-Some.was made flash));
      writes = writes_handed (driver_of c.args.nvm.now) (driver_of c.repair.new.self) c.repair.result answer _ c.in_err-repair-in-Some.was made (begun_writes repaired);
      borne = begun_borne repaired c.args.found h begins;
    }

pub returns-in_err-write_mark-clause-stuck : goal.returns-in_err-write_mark-clause-stuck
returns-in_err-write_mark-clause-stuck g c = λ spent.
    inl ((c.write_mark.ensures.mark c.args.config.now c.mark_of.ensures.value).stuck (handed c.write_mark.result c.from_residual.result _ SequenceSpent c.in_err-write_mark.was c.from_residual.ensures.1 spent))

pub returns-in_err-repair-in-Some-clause-stuck : goal.returns-in_err-repair-in-Some-clause-stuck
returns-in_err-repair-in-Some-clause-stuck g c = λ spent.
    let told = handed c.repair.result c.from_residual-in_err-repair-in-Some.result _ SequenceSpent c.in_err-repair-in-Some.was c.from_residual-in_err-repair-in-Some.ensures.1 spent in
    inr (begun_stuck (begun g (goal.at.returns-in_err-repair-in-Some-clause-stuck g c).After-repair) told)

pub returns-in_err-write_mark-clause-driver : goal.returns-in_err-write_mark-clause-driver
returns-in_err-write_mark-clause-driver g c = record {
  applications = applications_marked (tries g (goal.at.returns-in_err-write_mark-clause-driver g c).After-write_mark);
  not_stale = failed_ok _ _ c.from_residual.result c.from_residual.ensures.1;
  calls = c.write_mark.ensures.writes.keeps_driver;
}

pub returns-in-None-clause-driver : goal.returns-in-None-clause-driver
returns-in-None-clause-driver g c = record {
  applications = applications_marked (tries g (goal.at.returns-in-None-clause-driver g c).After-write_mark);
  not_stale = c.in_ok-write_mark.ensures.not_stale;
  calls = c.write_mark.ensures.writes.keeps_driver;
}

pub returns-in_err-repair-in-Some-clause-driver : goal.returns-in_err-repair-in-Some-clause-driver
returns-in_err-repair-in-Some-clause-driver g c =
    let at = goal.at.returns-in_err-repair-in-Some-clause-driver g c in
    record {
      applications = begun_applications (begun g at.After-repair);
      not_stale = failed_ok _ _ c.from_residual-in_err-repair-in-Some.result c.from_residual-in_err-repair-in-Some.ensures.1;
      calls = calls g at.After-repair;
    }

pub returns-in_ok-repair-in-Some-clause-driver : goal.returns-in_ok-repair-in-Some-clause-driver
returns-in_ok-repair-in-Some-clause-driver g c =
    let at = goal.at.returns-in_ok-repair-in-Some-clause-driver g c in
    record {
      applications = begun_applications (begun g at.After-repair);
      not_stale = taken c.repair.result c.in_ok-repair-in-Some.was c.repair.ensures.settled;
      calls = calls g at.After-repair;
    }
