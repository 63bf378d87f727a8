use Rattle.std.specs.Prelude.{IsFalse}
use Rattle.std.proofs.Common.{◌≡◌, ◌∙◌, ◌+◌, ◌*◌, ℕ, List, length, ap, arith}
use Rattle.flt_flash.specs.Content.{bytes}
use Rattle.flt_flash.specs.Calls.{Follows}
use Rattle.flt_flash.proofs.CallsInARow.{more_calls}
use Rattle.flt_nvm.specs.Driver.{driver_of}
use Rattle.flt_store_model.proofs.Commits.{commit_size}
use Rattle.flt_image.specs.Blocks.{bytes_at}
use Rattle.flt_store.specs.Started.{next_generation}
use Rattle.flt_store.proofs.TableUse.{commit_index, commit_fits, commit_both}
use Rattle.flt_store.proofs.Causes.{both_written, writes_done, writes_handed, writes_on}
use Rattle.std.proofs.Math.Nat.{add-mul}
use Rattle.flt_flash.specs.Blocks.{record_pages}
use Rattle.flt_store_model.specs.Layout.{used_ids}
use Rattle.flt_store_model.specs.Form.{block_bytes, commit_length_2}
use Rattle.flt_store.specs.Cause.{StoreWrites}
use Rattle.flt_store.specs.Cost.{Spends, pages_to_write}
use Rattle.flt_store.proofs.Changed.{written_pages}
use Rattle.flt_store.proofs.Costs.{spends_more, spends_less, jobs_spend, limit_of_used}
use Rattle.flt_store.proofs.Running.{failed_if_ok, failed_ok, fresh_on_ok, taken}
use Rattle.flt_store.proofs.Saving.{settled, still_old, kept_low, kept_application}
use Rattle.flt_store.proofs.Successors.{writes_within}
use Rattle.flt_store.proofs.Writing.{TriesCommit, size_tried, same_applications, same_mark, commit_written, commit_tried}
use Rattle.flt_store.proofs.generation.write_generation.Goals.{After-write}
use Rattle.flt_store.proofs.generation.write_generation.Goals as goal

pub write_blocks-requires-clause-writable : goal.write_blocks-requires-clause-writable
write_blocks-requires-clause-writable g c = record {
  indices = writes_within c.args.config.now c.args.current.now _ _ c.next_commit-commit.result c.next_commit-commit.ensures;
  sizes = c.put_all.ensures.sizes;
}

pub returns-in_err-write_blocks-clause-behind : goal.returns-in_err-write_blocks-clause-behind
returns-in_err-write_blocks-clause-behind g c = λ h current. record {
  started = failed_if_ok _ _ c.from_residual.result c.from_residual.ensures.1;
  either = still_old c.args.config.now (driver_of c.write_blocks.new.nvm).value c.args.current.now h (next_generation c.args.current.now c.args.state.now)
      (settled c.args.config.now c.args.current.now c.next_commit-commit.result (bytes_at c.put_all.new.self) (driver_of c.args.nvm.now).value (driver_of c.write_blocks.new.nvm).value c.write_blocks.ensures.only h
      c.write_blocks.ensures.own.within current.started);
}

pub returns-in_err-write_blocks-clause-forms : goal.returns-in_err-write_blocks-clause-forms
returns-in_err-write_blocks-clause-forms g c = record {
  encodes = c.put_all.ensures;
  next = failed_if_ok _ _ c.from_residual.result c.from_residual.ensures.1;
  rewritten = failed_if_ok _ _ c.from_residual.result c.from_residual.ensures.1;
}

pub write-requires-clause-index : goal.write-requires-clause-index
write-requires-clause-index g c = commit_index _ (c.write_blocks.ensures.table ∙ c.requires.table)

pub write-requires-clause-fits : goal.write-requires-clause-fits
write-requires-clause-fits g c =
    let size : length c.put_commit.result ≡ commit_length_2 = ap (λ (raw : List ℕ). length raw) c.put_commit.ensures ∙ commit_size c.next_commit-commit.result in
    commit_fits _ (c.write_blocks.ensures.table ∙ c.requires.table) _ (omega (arith, size))

tries : (g : _) (c : After-write g)
    → TriesCommit c.args.config.now c.args.state.now c.args.current.now (bytes_at c.args.saved.now) (bytes_at c.put_all.new.self) c.next_commit-commit.result (driver_of c.args.nvm.now) (driver_of c.write_blocks.new.nvm) (driver_of c.write.new.self)
    c.put_commit.result c.write.result
tries g c = record {
  is_next = c.next_commit-commit.ensures;
  most = (let most = c.requires.can.number in omega (arith, most));
  fits = c.requires.can.fits;
  told = c.put_all.ensures;
  only = c.write_blocks.ensures.only;
  within = c.write_blocks.ensures.own.within;
  stand = c.in_ok-write_blocks.ensures.written;
  is = c.put_commit.ensures;
  gives = commit_both _ (c.write_blocks.ensures.table ∙ c.requires.table) _ _ c.write.ensures.gives;
}

spends : (g : _) (c : After-write g) (most : ℕ) → IsFalse (driver_of c.args.nvm.now).is_stale → Spends most (driver_of c.args.nvm.now) (driver_of c.write.new.self)
    (6 + pages_to_write c.args.config.now c.args.current.now (bytes_at c.args.saved.now) (block_bytes c.args.state.now)) ((length (used_ids c.args.config.now) + 2) * most)
spends g c most settled =
    let jobs = commit_both _ (c.write_blocks.ensures.table ∙ c.requires.table) _ _ c.write.ensures.jobs in
    let size = size_tried (tries g c) in
    let pages = ap record_pages size in
    let written = written_pages c.args.config.now c.args.current.now c.next_commit-commit.result _ (bytes_at c.put_all.new.self) c.args.state.now c.next_commit-commit.ensures c.put_all.ensures in
    let limit = limit_of_used c.args.config.now c.args.current.now c.next_commit-commit.result most in
    let times = add-mul (length (used_ids c.args.config.now)) 2 most in
    spends_less most (driver_of c.args.nvm.now) (driver_of c.write.new.self) _ _ _ _ (omega (arith, pages, written)) (omega (arith, limit, times))
    (spends_more (driver_of c.args.nvm.now) (driver_of c.write_blocks.new.nvm) (driver_of c.write.new.self) c.write_blocks.ensures.own.writes.keeps_driver c.write.ensures.calls.keeps_driver most _ _ _ _
    (c.in_ok-write_blocks.ensures.own.not_stale settled) (c.write_blocks.ensures.spends most settled)
    (jobs_spend 2 _ _ most (omega (arith, size)) (driver_of c.write_blocks.new.nvm) (driver_of c.write.new.self) c.write.result jobs))

pub returns-clause-behind : goal.returns-clause-behind
returns-clause-behind g c = λ h current.
    let put = tries g (goal.at.returns-clause-behind g c).After-write in
    record { started = taken c.write.result c.in_ok-write.was (commit_written put h current.started current.known); either = commit_tried put h current.started current.known }

pub returns-clause-forms : goal.returns-clause-forms
returns-clause-forms g c =
    let gives = (tries g (goal.at.returns-clause-forms g c).After-write).gives in
    record {
      encodes = c.put_all.ensures;
      next = c.next_commit-commit.ensures;
      rewritten = (taken c.write.result c.in_ok-write.was gives.first ∙ ap bytes c.put_commit.ensures, taken c.write.result c.in_ok-write.was gives.second ∙ ap bytes c.put_commit.ensures);
    }

writes : (g : _) (c : After-write g) → StoreWrites (driver_of c.args.nvm.now) (driver_of c.write.new.self) c.write.result
writes g c =
    let put = tries g c in
    let size = size_tried put in
    writes_on (driver_of c.args.nvm.now) (driver_of c.write_blocks.new.nvm) (driver_of c.write.new.self) c.write.result c.write_blocks.ensures.own.writes.keeps_driver
    (both_written (driver_of c.write_blocks.new.nvm) (driver_of c.write.new.self) c.write.result c.write.ensures.calls c.write.ensures.three _ _ _ (omega (arith, size)) put.gives)

calls : (g : _) (c : After-write g) → Follows (driver_of c.args.nvm.now) (driver_of c.write.new.self)
calls g c = more_calls (driver_of c.args.nvm.now) (driver_of c.write_blocks.new.nvm) (driver_of c.write.new.self) c.write_blocks.ensures.own.writes.keeps_driver c.write.ensures.calls.keeps_driver

pub returns-clause-spends : goal.returns-clause-spends
returns-clause-spends g c = spends g (goal.at.returns-clause-spends g c).After-write

pub returns-in_err-write-clause-behind : goal.returns-in_err-write-clause-behind
returns-in_err-write-clause-behind g c = λ h current. record {
  started = failed_if_ok _ _ c.from_residual-in_err-write.result c.from_residual-in_err-write.ensures.1;
  either = commit_tried (tries g (goal.at.returns-in_err-write-clause-behind g c).After-write) h current.started current.known;
}

pub returns-in_err-write-clause-forms : goal.returns-in_err-write-clause-forms
returns-in_err-write-clause-forms g c = record {
  encodes = c.put_all.ensures;
  next = failed_if_ok _ _ c.from_residual-in_err-write.result c.from_residual-in_err-write.ensures.1;
  rewritten = failed_if_ok _ _ c.from_residual-in_err-write.result c.from_residual-in_err-write.ensures.1;
}

pub returns-in_err-write-clause-spends : goal.returns-in_err-write-clause-spends
returns-in_err-write-clause-spends g c = spends g (goal.at.returns-in_err-write-clause-spends g c).After-write

pub returns-in_err-write_blocks-clause-spends : goal.returns-in_err-write_blocks-clause-spends
returns-in_err-write_blocks-clause-spends g c = λ most settled.
    let written = written_pages c.args.config.now c.args.current.now c.next_commit-commit.result _ (bytes_at c.put_all.new.self) c.args.state.now c.next_commit-commit.ensures c.put_all.ensures in
    let limit = limit_of_used c.args.config.now c.args.current.now c.next_commit-commit.result most in
    let times = add-mul (length (used_ids c.args.config.now)) 2 most in
    spends_less most (driver_of c.args.nvm.now) (driver_of c.write_blocks.new.nvm) _ _ _ _ (omega (arith, written)) (omega (arith, limit, times)) (c.write_blocks.ensures.spends most settled)

pub returns-in_err-write_blocks-clause-writes : goal.returns-in_err-write_blocks-clause-writes
returns-in_err-write_blocks-clause-writes g c =
    let config = c.args.config.now in
    let current = c.args.current.now in
    let next = c.next_commit-commit.result in
    let before = driver_of c.args.nvm.now in
    let after = driver_of c.write_blocks.new.nvm in
    let answer = c.from_residual.result in
    let made = c.from_residual.ensures.1 in
    let own = c.write_blocks.ensures.own in
    record {
      driver = record {
        applications = λ block below. kept_application config current next (bytes_at c.put_all.new.self) before.value after.value c.write_blocks.ensures.only block;
        not_stale = failed_ok _ _ answer made;
        calls = own.writes.keeps_driver;
      };
      mark = kept_low config current next (bytes_at c.put_all.new.self) before.value after.value c.write_blocks.ensures.only 8 (omega arith);
      writes = writes_handed before after c.write_blocks.result answer _ c.in_err-write_blocks.was made own.writes;
    }

pub returns-in_err-write-clause-writes : goal.returns-in_err-write-clause-writes
returns-in_err-write-clause-writes g c =
    let at = goal.at.returns-in_err-write-clause-writes g c in
    let put = tries g at.After-write in
    let answer = c.from_residual-in_err-write.result in
    let made = c.from_residual-in_err-write.ensures.1 in
    record {
      driver = record { applications = same_applications put; not_stale = failed_ok _ _ answer made; calls = calls g at.After-write };
      mark = same_mark put;
      writes = writes_handed (driver_of c.args.nvm.now) (driver_of c.write.new.self) c.write.result answer _ c.in_err-write.was made (writes g at.After-write);
    }

pub returns-clause-writes : goal.returns-clause-writes
returns-clause-writes g c =
    let at = goal.at.returns-clause-writes g c in
    let put = tries g at.After-write in
    record {
      driver = record {
        applications = same_applications put;
        not_stale = taken c.write.result c.in_ok-write.was (fresh_on_ok c.write.result (driver_of c.write.new.self) c.write.ensures.stale);
        calls = calls g at.After-write;
      };
      mark = same_mark put;
      writes = writes_done (driver_of c.args.nvm.now) (driver_of c.write.new.self) c.write.result _ (writes g at.After-write);
    }
