use Rattle.std.proofs.Common.{◌≡◌, ◌+◌, ℕ, Some, Err, ◌∙◌, ap, refl, sym, subst, arith}
use Rattle.flt_flash.proofs.CallsInARow.{no_call}
use Rattle.flt_nvm.specs.Driver.{driver_of as driver_beneath}
use Rattle.flt_store.specs.declared.fault.SaveFault.TheVariants.{Flash, Spent, SequenceSpent}
use Rattle.flt_store_model.specs.Form.{block_bytes}
use Rattle.flt_store_model.specs.Holding.{OldOrNew}
use Rattle.flt_image.specs.Blocks.{bytes_at}
use Rattle.flt_image.specs.declared.blocks.StateBlocks.{StateBlocks}
use Rattle.flt_store.specs.Store.{driver_of, commit_of, kept_of, numbered}
use Rattle.flt_store.proofs.Changed.{some_same, same_commit, keeps_from, stand_at_zero, pages_by}
use Rattle.flt_store.proofs.Costs.{spends_less, spends_nothing}
use Rattle.flt_store_model.specs.Successor.{number_in}
use Rattle.flt_store_model.specs.declared.commit.Commit.{Commit}
use Rattle.flt_store.specs.Started.{IsStarted}
use Rattle.flt_store.specs.Writing.{AreCopiesOf}
use Rattle.flt_store.proofs.Started.{sound_started}
use Rattle.flt_store.proofs.Started.{numbered as number_of_started}
use Rattle.flt_store.proofs.Running.{failed_if_ok, failed_ok, served_on, told_by, whenever}
use Rattle.flt_store.proofs.Saving.{still_old}
use Rattle.flt_store.proofs.Causes.{resolved}
use Rattle.flt_store.proofs.store.Store.save_next.Goals as goal

pub returns-then-number_in-clause-behind : goal.returns-then-number_in-clause-behind
returns-then-number_in-clause-behind g c = λ h ready.
    let before = driver_of c.args.self.now in
    let was : h.number ≡ number_in (commit_of c.args.self.now) = number_of_started c.args.config.now before.value (commit_of c.args.self.now) h ready.started.names in
    record {
      saved = tt;
      failed = still_old c.args.config.now before.value (commit_of c.args.self.now) h (numbered (h.number + 1) c.args.state.now) ready.started;
      flash = λ told. absurd (cc told);
      spent = λ told. (was ∙ sym c.number_in.ensures ∙ c.if-number_in.true, ready.started);
      last = λ last. refl;
      places = λ knows. tt;
      first = λ zero. tt;
      rewritten = tt;
    }

pub returns-clause-behind : goal.returns-clause-behind
returns-clause-behind g c = λ h ready.
    let config = c.args.config.now in
    let before = driver_of c.args.self.now in
    let after = driver_beneath c.write_generation.new.nvm in
    let current = commit_of c.args.self.now in
    let next = c.in_ok-commit.commit in
    let number = next.generation in
    let formed = c.in_ok-commit.ensures.forms in
    let started = (c.in_ok-commit.ensures.behind h (record { started = ready.started; known = ready.known })).started in
    let is : number ≡ number_in current + 1 = formed.next.number in
    let was : h.number ≡ number_in current = number_of_started config before.value current h ready.started.names in
    let new = numbered number c.args.state.now in
    let now : IsStarted config after.value (Some next) new = subst (λ (n : ℕ). IsStarted config after.value (Some next) (numbered n c.args.state.now)) (sym is) started in
    record {
      saved = (
        omega (arith, is, was),
        record {
          served = served_on config before after c.write_generation.ensures.writes.writes.keeps_driver ready.served;
          mark = now.mark;
          sound = sound_started config after.value (Some next) new now;
          settled = λ yes. now;
          known = λ yes id used. ap (λ (kept : StateBlocks). bytes_at kept id) c.swap.ensures.x_after ∙ formed.encodes.bytes id used;
        },
      );
      failed = tt;
      flash = λ told. absurd (cc told);
      spent = λ told. absurd (cc told);
      last = λ last. absurd (c.if-number_in.false (c.number_in.ensures ∙ sym was ∙ last));
      places = λ knows. keeps_from config (kept_of c.args.self.now) (bytes_at c.write_generation.new.blocks) h.state c.args.state.now formed.encodes after.value current next _ knows started formed.next;
      first = λ zero. stand_at_zero config before.value after.value current (kept_of c.args.self.now) (bytes_at c.write_generation.new.blocks) next h _ ready.started zero started formed.next;
      rewritten = λ commit has.
          (let same = some_same next commit (same_commit config after.value (Some next) _ started commit has) in
          subst (λ (found : Commit). AreCopiesOf found after.value) same formed.rewritten);
    }

pub returns-in_err-commit-clause-behind : goal.returns-in_err-commit-clause-behind
returns-in_err-commit-clause-behind g c = λ h ready.
    let config = c.args.config.now in
    let before = driver_of c.args.self.now in
    let after = driver_beneath c.write_generation.new.nvm in
    let current = commit_of c.args.self.now in
    let answer = c.from_residual.result in
    let made = c.from_residual.ensures.1 in
    let left = (c.in_err-commit.ensures.behind h (record { started = ready.started; known = ready.known })).either in
    let was : h.number ≡ number_in current = number_of_started config before.value current h ready.started.names in
    record {
      saved = failed_if_ok _ _ answer made;
      failed = whenever answer (subst (λ (n : ℕ). OldOrNew config after.value h h (numbered (n + 1) c.args.state.now)) (sym was) left);
      flash = λ told. resolved config ready.served.valid_config before after _ c.in_err-commit.ensures.writes.writes c.args.self.now.numbers ready.served.room ready.served.mounted left.sound.holds.excess (told_by _ answer Flash made told);
      spent = λ told. absurd (told_by _ answer Spent made told);
      last = λ last. absurd (c.if-number_in.false (c.number_in.ensures ∙ sym was ∙ last));
      places = λ knows. failed_ok _ _ answer made;
      first = λ zero. failed_ok _ _ answer made;
      rewritten = failed_ok _ _ answer made;
    }

pub returns-then-number_in-clause-settles : goal.returns-then-number_in-clause-settles
returns-then-number_in-clause-settles g c = record { settled = tt; unsettled = refl }

pub returns-clause-settles : goal.returns-clause-settles
returns-clause-settles g c = record { settled = refl; unsettled = tt }

pub returns-in_err-commit-clause-settles : goal.returns-in_err-commit-clause-settles
returns-in_err-commit-clause-settles g c = record { settled = failed_ok _ _ c.from_residual.result c.from_residual.ensures.1; unsettled = whenever c.from_residual.result refl }

pub returns-then-number_in-clause-driver : goal.returns-then-number_in-clause-driver
returns-then-number_in-clause-driver g c = record { applications = λ block below. refl; not_stale = tt; calls = no_call (driver_of c.args.self.now) }

pub returns-clause-driver : goal.returns-clause-driver
returns-clause-driver g c = let driver = c.in_ok-commit.ensures.writes.driver in record { applications = driver.applications; not_stale = driver.not_stale; calls = driver.calls }

pub returns-in_err-commit-clause-driver : goal.returns-in_err-commit-clause-driver
returns-in_err-commit-clause-driver g c =
    let driver = c.in_err-commit.ensures.writes.driver in
    record { applications = driver.applications; not_stale = failed_ok _ _ c.from_residual.result c.from_residual.ensures.1; calls = driver.calls }

pub returns-then-number_in-clause-spends : goal.returns-then-number_in-clause-spends
returns-then-number_in-clause-spends g c = λ h knows most settled.
    spends_less most (driver_of c.args.self.now) (driver_of c.args.self.now) 0 _ 0 _ (omega arith) (omega arith) (spends_nothing most (driver_of c.args.self.now))

pub returns-clause-spends : goal.returns-clause-spends
returns-clause-spends g c = λ h knows most settled.
    let pages = pages_by c.args.config.now (kept_of c.args.self.now) (block_bytes h.state) (block_bytes c.args.state.now) knows (commit_of c.args.self.now) in
    spends_less most (driver_of c.args.self.now) (driver_beneath c.write_generation.new.nvm) _ _ _ _ (omega (arith, pages)) (omega arith) (c.write_generation.ensures.spends most settled)

pub returns-in_err-commit-clause-spends : goal.returns-in_err-commit-clause-spends
returns-in_err-commit-clause-spends g c = λ h knows most settled.
    let pages = pages_by c.args.config.now (kept_of c.args.self.now) (block_bytes h.state) (block_bytes c.args.state.now) knows (commit_of c.args.self.now) in
    spends_less most (driver_of c.args.self.now) (driver_beneath c.write_generation.new.nvm) _ _ _ _ (omega (arith, pages)) (omega arith) (c.write_generation.ensures.spends most settled)

pub returns-in_err-commit-clause-sequence : goal.returns-in_err-commit-clause-sequence
returns-in_err-commit-clause-sequence g c = λ told. c.in_err-commit.ensures.writes.writes.stuck (ap Err (told_by _ c.from_residual.result SequenceSpent c.from_residual.ensures.1 told))

pub returns-clause-mark : goal.returns-clause-mark
returns-clause-mark g c = λ marked. c.write_generation.ensures.writes.mark ∙ marked

pub returns-in_err-commit-clause-mark : goal.returns-in_err-commit-clause-mark
returns-in_err-commit-clause-mark g c = λ marked. c.write_generation.ensures.writes.mark ∙ marked
