use Rattle.std.specs.Prelude.{IsErrOf, IsTrue}
use Rattle.std.proofs.Common.{rules, ◌+◌, ◌∙◌, inl, inr, ⊎_elim, refl, ap, Err}
use Rattle.flt_nvm.specs.Driver.{driver_of as driver_beneath}
use Rattle.flt_store.specs.declared.fault.SaveFault.TheVariants.{Flash, Spent, SequenceSpent}
use Rattle.flt_store.specs.Started.{IsStarted}
use Rattle.flt_flash.proofs.CallsInARow.{more_calls}
use Rattle.flt_store_model.specs.Holding.{Generation}
use Rattle.flt_image.specs.Blocks.{bytes_at}
use Rattle.flt_store.specs.Store.{driver_of, commit_of, kept_of, is_settled, numbered}
use Rattle.flt_store.proofs.Changed.{same_commit}
use Rattle.flt_store.proofs.Known.{knows_may, knows_named, learned_may, learned_all}
use Rattle.flt_store.proofs.Causes.{was_flash}
use Rattle.flt_store.proofs.Started.{mark_kept, started_kept}
use Rattle.flt_store.proofs.Running.{failed_ok, served_on, failed_on, failed_later, unfailed, whenever, told_by, unsettled_runs}
use Rattle.flt_store.proofs.store.Store.settle.Goals as goal

pub returns-then-self-clause-finds : goal.returns-then-self-clause-finds
returns-then-self-clause-finds g c = λ h s running.
    let settled : IsTrue (is_settled c.args.self.now) = search rules in
    record {
      found = record {
        chosen = h;
        is = inl refl;
        ready = record {
          served = running.served;
          started = running.settled settled;
          known = knows_may c.args.config.now (commit_of c.args.self.now) (kept_of c.args.self.now) h.state (running.known settled);
        };
        learns = λ undisturbed. record {
          commit = same_commit c.args.config.now (driver_of c.args.self.now).value (commit_of c.args.self.now) h (running.settled settled);
          known = knows_named c.args.config.now (commit_of c.args.self.now) (kept_of c.args.self.now) h.state (running.known settled);
        };
      };
      failed = λ state. tt;
      flash = λ told. absurd (cc told);
      unrestarted = λ told. absurd (cc told);
      sequence = λ told. absurd (cc told);
    }

pub returns-then-self-clause-at_once : goal.returns-then-self-clause-at_once
returns-then-self-clause-at_once g c = λ settled. record { never_fails = λ fails. absurd (cc fails); same = refl }

pub returns-clause-at_once : goal.returns-clause-at_once
returns-clause-at_once g c = λ settled. (let no = c.if-self.false in absurd (cc (settled, no)))

pub returns-in_err-commit-clause-at_once : goal.returns-in_err-commit-clause-at_once
returns-in_err-commit-clause-at_once g c = λ settled. (let no = c.if-self.false in absurd (cc (settled, no)))

pub read_blocks-self-requires-clause-readable : goal.read_blocks-self-requires-clause-readable
read_blocks-self-requires-clause-readable g c = record { table = c.restart.ensures.table ∙ c.args.self.now.table; mounted = search rules }

pub returns-clause-finds : goal.returns-clause-finds
returns-clause-finds g c = λ h s running.
    let before = driver_of c.args.self.now in
    let middle = driver_beneath c.restart.new.nvm in
    let after = driver_beneath c.read_blocks-self.new.nvm in
    let later = c.read_blocks-self.ensures.reads.calls in
    let served = served_on c.args.config.now before after (more_calls before middle after c.restart.ensures.calls later) running.served in
    let kept = started_kept c.args.config.now middle.value after.value c.read_blocks-self.ensures.reads.values c.in_ok-commit.commit in
    let known = λ (h : Generation) (started : IsStarted c.args.config.now middle.value c.in_ok-commit.commit h).
    learned_may c.args.config.now running.served.valid_config middle after h (bytes_at c.read_blocks-self.result) c.in_ok-commit.commit started.names c.read_blocks-self.ensures.learned in
    record {
      found =
          ⊎_elim {A = IsStarted c.args.config.now middle.value c.in_ok-commit.commit h}
          (λ by_held. record {
            chosen = h;
            is = inl refl;
            ready = record { served = served; started = kept h by_held; known = known h by_held };
            learns = λ undisturbed. (let never = unfailed before after c.args.self.now.is_settled c.if-self.false undisturbed in record {
              commit = λ commit has. ⊎_elim (λ is. is) (λ rose. absurd (never (failed_on before middle after later rose))) (c.in_ok-commit.ensures.found.first commit has);
              known = learned_all c.args.config.now running.served.valid_config middle after h (bytes_at c.read_blocks-self.result) (λ rose. never (failed_later before middle after c.restart.ensures.calls rose))
                  c.in_ok-commit.commit by_held.names c.read_blocks-self.ensures.learned;
            });
          })
          (λ by_spare.
          let rose = failed_on before middle after later by_spare.1 in record {
            chosen = s;
            is = inr (refl, c.if-self.false, rose);
            ready = record { served = served; started = kept s by_spare.0; known = known s by_spare.0 };
            learns = λ undisturbed. absurd (unfailed before after c.args.self.now.is_settled c.if-self.false undisturbed rose);
          })
          ((c.in_ok-commit.ensures.restarts h s running.sound).started running.mark);
      failed = λ state. tt;
      flash = λ told. absurd (cc told);
      unrestarted = λ told. absurd (cc told);
      sequence = λ told. absurd (cc told);
    }

pub returns-in_err-commit-clause-finds : goal.returns-in_err-commit-clause-finds
returns-in_err-commit-clause-finds g c = λ h s running.
    let before = driver_of c.args.self.now in
    let after = driver_beneath c.restart.new.nvm in
    let answer = c.from_residual.result in
    let made = c.from_residual.ensures.1 in
    let restarts = c.in_err-commit.ensures.restarts h s running.sound in
    let left = restarts.failed h in
    let fault = λ (told : IsErrOf answer Flash). was_flash c.args.config.now running.served.valid_config before after _ restarts.writes c.args.self.now.numbers running.served.room running.served.mounted
    left.sound.holds.excess (told_by _ answer Flash made told) in
    record {
      found = failed_ok _ _ answer made;
      failed = λ state. whenever answer
          (let left = restarts.failed (numbered (h.number + 1) state) in
          record {
            chosen = h;
            is = inl refl;
            now_held = left.held;
            now_spare = left.spare;
            running = unsettled_runs c.args.config.now left.held left.spare _ c.if-self.false (served_on c.args.config.now before after c.restart.ensures.calls running.served)
                (mark_kept c.args.config.now before.value after.value c.restart.ensures.commit_alone running.mark) left.sound;
            held_is = left.held_is;
            spare_is = left.spare_is;
            rises = left.rises;
          });
      flash = λ told. restarts.writes.flash (ap Err (fault told));
      unrestarted = λ told. restarts.unrestarted (ap Err (fault told));
      sequence = λ told. restarts.writes.stuck (ap Err (told_by _ answer SequenceSpent made told));
    }

pub returns-in_err-commit-clause-not_spent : goal.returns-in_err-commit-clause-not_spent
returns-in_err-commit-clause-not_spent g c = λ told. told_by _ c.from_residual.result Spent c.from_residual.ensures.1 told
