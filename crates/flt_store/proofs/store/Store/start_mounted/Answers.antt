use Rattle.std.proofs.Common.{◌≡◌, inl, inr, Ok, Err, refl, sym, ◌∙◌, subst, ap, arith}
use Rattle.flt_flash.proofs.CallsInARow.{more_calls}
use Rattle.std.specs.Prelude.{◌↔◌, IsTrue}
use Rattle.flt_flash.specs.Content.{Content}
use Rattle.flt_store_model.specs.Layout.{application_number, mark_number}
use Rattle.flt_store_model.specs.Form.{mark_of}
use Rattle.flt_nvm.specs.Driver.{driver_of as driver_beneath}
use Rattle.flt_store_model.specs.Holding.{Generation}
use Rattle.flt_restore.specs.Restored.{generation, IsJudged, IsMarkDue}
use Rattle.flt_restore.proofs.Judged.{judged_of}
use Rattle.flt_restore.proofs.Telling.{handed_on}
use Rattle.flt_store.specs.Start.{Begins}
use Rattle.flt_store.specs.Started.{IsStarted}
use Rattle.flt_store.specs.Store.{driver_of, numbered}
use Rattle.flt_store.proofs.Causes.{resolved, writes_on}
use Rattle.flt_store.proofs.Started.{sound_started}
use Rattle.flt_store.proofs.Started.{numbered as number_of_started}
use Rattle.flt_store.proofs.Repairing.{sound_kept, both_old}
use Rattle.flt_store.proofs.Running.{failed_ok, served_on, told_by, whenever}
use Rattle.flt_store.proofs.Beginning.{begins_of, begun_fits, found_in, judged_in, same_generation, not_spent}
use Rattle.flt_store.proofs.Faults.{never_of_blocks, refused_by_reading, refused_by_writing, was_stuck}
use Rattle.flt_store.proofs.OutOfNumbers.{begun_stuck_from}
use Rattle.flt_restore.specs.declared.fault.StartFault.TheVariants.{Flash, SequenceSpent}
use Rattle.flt_restore.specs.Told.{start_fault_of}
use Rattle.flt_store.proofs.Dark.{unbegun_from, was_flash_of_write}
use Rattle.flt_store.proofs.store.Store.start_mounted.Goals.{After-begin_by}
use Rattle.flt_store.proofs.store.Store.start_mounted.Goals as goal

pub begin_by-requires-clause-read : goal.begin_by-requires-clause-read
begin_by-requires-clause-read g c = record {
  due = subst (λ (content : Content). IsTrue c.in_ok-found.found.is_mark_due ↔ IsMarkDue (mark_of c.args.config.now) content) (sym (c.restore.ensures.reads.values mark_number)) c.in_ok-found.ensures.mark;
  found = found_in c.args.config.now (driver_of c.args.self.now) (driver_beneath c.restore.new.nvm) c.in_ok-found.found.commit c.restore.new.out c.restore.ensures.reads.values c.in_ok-found.ensures.restored.restored;
  not_stale = c.restore.ensures.reads.not_stale;
}

begins : (g : _) (c : After-begin_by g) → Begins c.args.config.now (driver_beneath c.restore.new.nvm).value c.in_ok-found.found.commit (generation c.in_ok-found.found.commit c.restore.new.out)
begins g c = begins_of c.args.config.now c.begin_by.ensures.valid (driver_of c.args.self.now) (driver_beneath c.restore.new.nvm) c.in_ok-found.found.commit c.restore.new.out c.restore.ensures.reads.values c.in_ok-found.ensures.restored.restored

judged : (g : _) (c : After-begin_by g) → IsJudged c.args.config.now (driver_of c.args.self.now) (driver_beneath c.begin_by.new.nvm) (Ok (generation c.in_ok-found.found.commit c.restore.new.out))
judged g c =
    let first = driver_of c.args.self.now in
    let second = driver_beneath c.restore.new.nvm in
    judged_in c.args.config.now first first second (driver_beneath c.begin_by.new.nvm) _ (λ n. refl) (omega arith) c.begin_by.ensures.driver.calls.counts
    (judged_of c.args.config.now first second c.in_ok-found.found.commit c.restore.new.out c.in_ok-found.ensures.restored.restored)

pub returns-clause-started : goal.returns-clause-started
returns-clause-started g c =
    let first = driver_of c.args.self.now in
    let second = driver_beneath c.restore.new.nvm in
    let third = driver_beneath c.begin_by.new.nvm in
    let d = generation c.in_ok-found.found.commit c.restore.new.out in
    let started = (c.in_ok-commit.ensures.begins d (begins g (goal.at.returns-clause-started g c).After-begin_by)).started in
    let number = c.number_in-generation.result in
    let is = number_of_started c.args.config.now third.value c.in_ok-commit.commit d started.names ∙ sym c.number_in-generation.ensures in
    let same = same_generation c.in_ok-found.found.commit c.restore.new.out number is in
    let now = subst (λ (h : Generation). IsStarted c.args.config.now third.value c.in_ok-commit.commit h) same started in
    let follows = more_calls first second third c.restore.ensures.reads.calls c.begin_by.ensures.driver.calls in
    record {
      undamaged = g.met.B.Blocks.mounted_is_sound c.args.self.now.nvm.blocks c.requires.mounted.mounted;
      judged = subst (λ (h : Generation). IsJudged c.args.config.now first third (Ok h)) same (judged g (goal.at.returns-clause-started g c).After-begin_by);
      usable = not_spent first second c.restore.ensures.reads.calls c.in_ok-found.ensures.restored.usable;
      running = record {
        served = served_on c.args.config.now first third follows (record { valid_config = c.begin_by.ensures.valid; room = c.requires.mounted.room; mounted = c.requires.mounted.mounted });
        mark = now.mark;
        sound = sound_started c.args.config.now third.value c.in_ok-commit.commit (numbered number c.restore.new.out) now;
        settled = λ yes. now;
        known = λ yes. c.put_all.ensures.bytes;
      };
      settled = refl;
    }

pub returns-in_err-commit-clause-generations : goal.returns-in_err-commit-clause-generations
returns-in_err-commit-clause-generations g c = λ h s sound.
    let at = goal.at.returns-in_err-commit-clause-generations g c in
    whenever c.from_residual-in_err-commit.result
    ((c.in_err-commit.ensures.begins _ (begins g at.After-begin_by)).generations h s
    (sound_kept c.args.config.now (driver_of c.args.self.now).value (driver_beneath c.restore.new.nvm).value h s c.restore.ensures.reads.values sound))

pub returns-in_err-found-clause-generations : goal.returns-in_err-found-clause-generations
returns-in_err-found-clause-generations g c = λ h s sound. whenever c.from_residual.result
    (both_old c.args.config.now (driver_beneath c.restore.new.nvm).value h s h (sound_kept c.args.config.now (driver_of c.args.self.now).value (driver_beneath c.restore.new.nvm).value h s c.restore.ensures.reads.values sound))

pub put_all-requires : goal.put_all-requires
put_all-requires g c =
    begun_fits c.args.config.now (driver_beneath c.restore.new.nvm).value c.in_ok-found.found.commit c.restore.new.out (begins g (goal.at.put_all-requires g c).After-begin_by)

pub returns-clause-fits : goal.returns-clause-fits
returns-clause-fits g c =
    begun_fits c.args.config.now (driver_beneath c.restore.new.nvm).value c.in_ok-found.found.commit c.restore.new.out (begins g (goal.at.returns-clause-fits g c).After-begin_by)

pub returns-clause-causes : goal.returns-clause-causes
returns-clause-causes g c = record {
  refused = tt;
  dark = λ flash. absurd (cc flash);
  unwritten = tt;
  early = λ told was. absurd (cc told);
  spent = λ told. absurd (cc told);
}

pub returns-in_err-commit-clause-causes : goal.returns-in_err-commit-clause-causes
returns-in_err-commit-clause-causes g c =
    let at = goal.at.returns-in_err-commit-clause-causes g c in
    let first = driver_of c.args.self.now in
    let second = driver_beneath c.restore.new.nvm in
    let third = driver_beneath c.begin_by.new.nvm in
    let answer = c.from_residual-in_err-commit.result in
    let made = c.from_residual-in_err-commit.ensures.1 in
    let fault = c.in_err-commit.field-0.0 in
    let begun = c.in_err-commit.ensures.begins _ (begins g at.After-begin_by) in
    let writes = writes_on first second third (Err fault) c.restore.ensures.reads.calls begun.writes in
    record {
      refused = handed_on _ answer _ made
          (refused_by_writing c.args.config.now c.args.self.now _ fault _ (record { undamaged = g.met.B.Blocks.mounted_is_sound c.args.self.now.nvm.blocks c.requires.mounted.mounted; is = judged g at.After-begin_by })
          (λ is. (let stuck = writes.stuck (ap Err is) in g.met.B.Blocks.stuck_is_spent c.begin_by.new.nvm.blocks stuck.0 stuck.1 stuck.3))
          (resolved c.args.config.now c.begin_by.ensures.valid first third fault writes c.args.self.now.numbers c.requires.mounted.room c.requires.mounted.mounted begun.borne)
          (λ sector page is. writes.mounted c.requires.mounted.mounted sector page (ap Err is)));
      dark = λ flash.
          (let is : start_fault_of fault ≡ Flash = sym (told_by _ answer Flash made flash) in
          let fault_is = was_flash_of_write c.args.config.now c.begin_by.ensures.valid first third fault writes c.args.self.now.numbers c.requires.mounted.room c.requires.mounted.mounted begun.borne is in
          inr (unbegun_from first second third c.restore.ensures.reads.calls c.restore.ensures.reads.values c.args.config.now (begun.unbegun (ap Err fault_is))));
      unwritten = handed_on _ answer _ made (λ of_blocks. absurd (never_of_blocks fault of_blocks));
      early = λ told was.
          (let no = c.in_ok-found.ensures.restored.usable in
          let same = c.restore.ensures.reads.spent in
          absurd (cc (was, no, same)));
      spent = λ told.
          (let is : start_fault_of fault ≡ SequenceSpent = sym (told_by _ answer SequenceSpent made told) in
          inr (begun_stuck_from c.args.config.now first second third c.restore.ensures.reads.calls c.restore.ensures.reads.values (c.in_err-commit.ensures.stuck (ap Err (was_stuck fault is)))));
    }

pub returns-in_err-found-clause-causes : goal.returns-in_err-found-clause-causes
returns-in_err-found-clause-causes g c =
    let answer = c.from_residual.result in
    let made = c.from_residual.ensures.1 in
    record {
      refused = handed_on _ answer _ made
          (refused_by_reading c.args.config.now c.args.self.now _ _ (g.met.B.Blocks.mounted_is_sound c.args.self.now.nvm.blocks c.requires.mounted.mounted) c.restore.ensures.reads.values (c.restore.ensures.refused _ c.in_err-found.was));
      dark = λ flash. inl (c.in_err-found.ensures.unread (ap Err (sym (told_by _ answer Flash made flash))));
      unwritten = handed_on _ answer _ made (λ judged. c.restore.ensures.reads.image);
      early = λ told was. c.restore.ensures.reads.image;
      spent = λ told.
          (let last = c.restore.ensures.refused SequenceSpent (c.in_err-found.was ∙ ap Err (sym (told_by _ answer SequenceSpent made told))) in
          inl (sym c.restore.ensures.reads.spent ∙ last.1));
    }

pub returns-clause-driver : goal.returns-clause-driver
returns-clause-driver g c = record {
  applications = λ block below. c.begin_by.ensures.driver.applications block below ∙ c.restore.ensures.reads.values (application_number block);
  not_stale = c.in_ok-commit.ensures.driver.not_stale;
  calls = more_calls _ _ _ c.restore.ensures.reads.calls c.begin_by.ensures.driver.calls;
}

pub returns-in_err-commit-clause-driver : goal.returns-in_err-commit-clause-driver
returns-in_err-commit-clause-driver g c = record {
  applications = λ block below. c.begin_by.ensures.driver.applications block below ∙ c.restore.ensures.reads.values (application_number block);
  not_stale = failed_ok _ _ c.from_residual-in_err-commit.result c.from_residual-in_err-commit.ensures.1;
  calls = more_calls _ _ _ c.restore.ensures.reads.calls c.begin_by.ensures.driver.calls;
}

pub returns-in_err-found-clause-driver : goal.returns-in_err-found-clause-driver
returns-in_err-found-clause-driver g c = record {
  applications = λ block below. c.restore.ensures.reads.values (application_number block);
  not_stale = failed_ok _ _ c.from_residual.result c.from_residual.ensures.1;
  calls = c.restore.ensures.reads.calls;
}
