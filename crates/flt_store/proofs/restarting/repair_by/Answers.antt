use Rattle.std.proofs.Common.{◌∙◌, sym}
use Rattle.flt_flash.specs.declared.blocks.BlockFault.TheVariants.{Flash, SequenceSpent}
use Rattle.flt_nvm.specs.Driver.{driver_of}
use Rattle.flt_store_model.proofs.Commits.{read_commit}
use Rattle.flt_store.proofs.TableUse.{commit_twice, commit_fits}
use Rattle.flt_store.proofs.Causes.{writes_done, writes_handed}
use Rattle.flt_store.proofs.Mending.{Mends, commit_stuck, mended_started, mended_within, mended_writes}
use Rattle.flt_store.proofs.Repairing.{bytes_of_commit}
use Rattle.flt_store.proofs.Running.{failed_if_ok, handed}
use Rattle.flt_store.proofs.restarting.repair_by.Goals.{After-repair}
use Rattle.flt_store.proofs.restarting.repair_by.Goals as goal

mends : (g : _) (c : After-repair g) → Mends c.args.config.now c.args.nvm.now c.repair.new.self c.args.copy c.args.bytes.now c.in-Some.commit c.repair.result
mends g c = record { least = c.requires.has.least; most = c.requires.has.most; holds = c.requires.has.held; read = sym c.get_commit.ensures ∙ c.in-Some.is; repairs = c.repair.ensures }

pub repair-requires-clause-redundant : goal.repair-requires-clause-redundant
repair-requires-clause-redundant g c = commit_twice _ c.requires.table

pub repair-requires-clause-least : goal.repair-requires-clause-least
repair-requires-clause-least g c = let size = bytes_of_commit c.args.config.now c.args.bytes.now _ (sym c.get_commit.ensures ∙ c.in-Some.is) in size.0

pub repair-requires-clause-fits : goal.repair-requires-clause-fits
repair-requires-clause-fits g c = let size = bytes_of_commit c.args.config.now c.args.bytes.now _ (sym c.get_commit.ensures ∙ c.in-Some.is) in commit_fits _ c.requires.table _ size.1

pub returns-clause-repairs : goal.returns-clause-repairs
returns-clause-repairs g c = λ h holds.
    let mended = mends g (goal.at.returns-clause-repairs g c).After-repair in
    record {
      started = λ mark. mended_started mended c.in_ok-repair.was h mark holds;
      unmended = λ flash. absurd (cc flash);
      writes = writes_done (driver_of c.args.nvm.now) (driver_of c.repair.new.self) c.repair.result _ (mended_writes mended);
    }

pub returns-in_err-repair-clause-repairs : goal.returns-in_err-repair-clause-repairs
returns-in_err-repair-clause-repairs g c = λ h holds.
    let answer = c.from_residual.result in
    let made = c.from_residual.ensures.1 in
    record {
      started = λ mark. failed_if_ok _ _ answer made;
      unmended = λ flash. c.repair.ensures.unmended (handed c.repair.result answer _ Flash c.in_err-repair.was made flash);
      writes = writes_handed (driver_of c.args.nvm.now) (driver_of c.repair.new.self) c.repair.result answer _ c.in_err-repair.was made
          (mended_writes (mends g (goal.at.returns-in_err-repair-clause-repairs g c).After-repair));
    }

pub returns-clause-read : goal.returns-clause-read
returns-clause-read g c = let read = sym c.get_commit.ensures ∙ c.in-Some.is in record { read = read; form = (read_commit c.args.config.now c.args.bytes.now c.in-Some.commit read).0 }

pub returns-in_err-repair-clause-read : goal.returns-in_err-repair-clause-read
returns-in_err-repair-clause-read g c = failed_if_ok _ _ c.from_residual.result c.from_residual.ensures.1

pub returns-clause-other : goal.returns-clause-other
returns-clause-other g c = record {
  other = c.repair.ensures.gives.either;
  others = c.repair.ensures.gives.others;
  within = mended_within (mends g (goal.at.returns-clause-other g c).After-repair);
  stuck = λ told. absurd (cc told);
}

pub returns-in_err-repair-clause-other : goal.returns-in_err-repair-clause-other
returns-in_err-repair-clause-other g c =
    let mended = mends g (goal.at.returns-in_err-repair-clause-other g c).After-repair in
    record {
      other = c.repair.ensures.gives.either;
      others = c.repair.ensures.gives.others;
      within = mended_within mended;
      stuck = λ told. commit_stuck mended (handed c.repair.result c.from_residual.result _ SequenceSpent c.in_err-repair.was c.from_residual.ensures.1 told);
    }
