use Rattle.std.proofs.Common.{inl, inr, Err, ◌≡◌, ◌+◌, ◌*◌, ◌∙◌, ⊎_elim, length, subst, ap, refl, sym, arith}
use Rattle.std.specs.Prelude.{IsErrOf, IsFalse, IsTrue}
use Rattle.flt_flash.proofs.CallsInARow.{more_calls}
use Rattle.flt_flash.specs.Calls.{CostsAtMost}
use Rattle.flt_store_model.specs.Form.{block_bytes}
use Rattle.flt_store_model.specs.Layout.{used_ids}
use Rattle.flt_store.specs.declared.fault.SaveFault.TheVariants.{Flash, SequenceSpent, Spent}
use Rattle.flt_store.specs.Cost.{Spends, pages_to_write}
use Rattle.flt_store.specs.Known.{Knows}
use Rattle.flt_store.proofs.Changed.{pages_of_later}
use Rattle.flt_store.proofs.Costs.{switch_within}
use Rattle.flt_store.proofs.Started.{numbered as number_of_started}
use Rattle.flt_store_model.specs.Holding.{Generation}
use Rattle.flt_store.specs.Store.{driver_of, commit_of, kept_of, is_settled, numbered, Chooses, IsReady, IsRunning}
use Rattle.flt_store.specs.Saving.{AnswersSave}
use Rattle.flt_store.proofs.Started.{sound_started}
use Rattle.flt_store.proofs.Running.{alive_after, failed_if_ok, failed_later, failed_ok, served_on, whenever, undisturbed_until, held_is_chosen, ok_map, on_ok, err_taken, err_both, chosen_on, one_of_chosen, rises_from, unfailed, unsettled_runs, told_by}
use Rattle.flt_store.proofs.Dark.{is_unsettled}
use Rattle.flt_store.proofs.Completing.{handed_sequence, save_met_none, not_last}
use Rattle.flt_store.proofs.store.Store.save.Goals.{After-save_next}
use Rattle.flt_store.proofs.store.Store.save.Goals as goal

-- ---- settle answered Ok

saved : (g : _) (c : After-save_next g) (h s : Generation) → IsRunning c.args.config.now h s c.args.self.now → Chooses c.args.config.now h s c.args.self.now c.settle.new.self
    → AnswersSave c.args.config.now h s c.args.state.now c.args.self.now c.save_next.new.self c.save_next.result
saved g c h s running settled =
    let config = c.args.config.now in
    let middle = driver_of c.settle.new.self in
    let after = driver_of c.save_next.new.self in
    let new = numbered (settled.chosen.number + 1) c.args.state.now in
    let calls = c.save_next.ensures.driver.calls in
    let is = chosen_on (driver_of c.args.self.now) middle after calls settled.is in
    let behind = c.save_next.ensures.behind settled.chosen settled.ready in
    record {
      saved = ok_map c.save_next.result (λ number both. record { chosen = settled.chosen; is = is; next = both.0; running = both.1 }) behind.saved;
      failed = err_both c.save_next.result (λ left no. record {
        chosen = settled.chosen;
        is = is;
        now_held = left.held;
        now_spare = left.spare;
        running = unsettled_runs config left.held left.spare c.save_next.new.self no (served_on config middle after calls settled.ready.served) (c.save_next.ensures.mark settled.ready.started.mark) left.sound;
        held_is = one_of_chosen h s settled.chosen new left.held settled.is left.held_is;
        spare_is = one_of_chosen h s settled.chosen new left.spare settled.is left.spare_is;
        rises = rises_from h s settled.chosen left.spare.number settled.is running.sound.order left.rises;
      })
          behind.failed c.save_next.ensures.settles.unsettled;
    }

pub returns-clause-answers : goal.returns-clause-answers
returns-clause-answers g c = λ h s running. saved g (goal.at.returns-clause-answers g c).After-save_next h s running (c.in_ok-settle.ensures.finds h s running).found

pub returns-clause-alive : goal.returns-clause-alive
returns-clause-alive g c =
    let alive = c.requires.alive in
    let answers = saved g (goal.at.returns-clause-alive g c).After-save_next alive.held alive.spare alive.running (c.in_ok-settle.ensures.finds alive.held alive.spare alive.running).found in
    alive_after c.args.config.now alive.held alive.spare c.args.state.now c.args.self.now c.save_next.new.self c.save_next.result answers.saved answers.failed

pub returns-clause-causes : goal.returns-clause-causes
returns-clause-causes g c = λ h s running.
    let config = c.args.config.now in
    let before = driver_of c.args.self.now in
    let middle = driver_of c.settle.new.self in
    let after = driver_of c.save_next.new.self in
    let settled = (c.in_ok-settle.ensures.finds h s running).found in
    let calls = c.save_next.ensures.driver.calls in
    let is = chosen_on before middle after calls settled.is in
    let behind = c.save_next.ensures.behind settled.chosen settled.ready in
    let flash = λ (told : IsErrOf c.save_next.result Flash). failed_later before middle after c.settle.ensures.calls (behind.flash told) in
    record {
      flash = flash;
      unsaved = λ told. inr (middle, c.settle.ensures.calls, settled.chosen, sound_started config middle.value (commit_of c.settle.new.self) settled.chosen settled.ready.started, behind.flash told);
      spent = λ told.
          (let last = behind.spent told in
          record {
            last = settled.chosen;
            is = is;
            number = last.0;
            running = unsettled_runs config settled.chosen settled.chosen c.save_next.new.self (err_taken c.save_next.result told c.save_next.ensures.settles.unsettled)
                (served_on config middle after calls settled.ready.served) last.1.mark (sound_started config after.value (commit_of c.save_next.new.self) settled.chosen last.1);
          });
      last = λ undisturbed last.
          (let then_ = undisturbed_until before middle after calls undisturbed in
          let held = held_is_chosen before middle (is_settled c.args.self.now) h s settled.chosen then_ settled.is in
          inl (behind.last (ap (λ (d : Generation). d.number) held ∙ last)));
      sequence = c.save_next.ensures.sequence;
      completed = λ number unhindered. save_met_none c.save_next.result
          (λ told. unhindered.tries (flash told))
          (λ told. not_last h s settled.chosen number unhindered.tries is (behind.spent told).0)
          (λ told. (let stuck = c.save_next.ensures.sequence told in
          let spent = g.met.B.Blocks.stuck_is_spent c.save_next.new.self.nvm.blocks stuck.0 stuck.1 stuck.3 in
          let left = unhindered.numbers in absurd (cc (spent, left))));
    }

spends : (g : _) (c : After-save_next g) (h s : Generation) → IsRunning c.args.config.now h s c.args.self.now → IsTrue (is_settled c.args.self.now) → IsFalse (driver_of c.args.self.now).is_stale
    → Spends (2 * c.args.config.now.pages + 4) (driver_of c.args.self.now) (driver_of c.save_next.new.self)
    (6 + pages_to_write c.args.config.now (commit_of c.args.self.now) (block_bytes h.state) (block_bytes c.args.state.now)) ((length (used_ids c.args.config.now) + 2) * (2 * c.args.config.now.pages + 4))
spends g c h s running is =
    let most = 2 * c.args.config.now.pages + 4 in
    subst (λ before. Knows c.args.config.now (kept_of before) h.state → IsFalse (driver_of before).is_stale → Spends most (driver_of before) (driver_of c.save_next.new.self)
    (6 + pages_to_write c.args.config.now (commit_of before) (block_bytes h.state) (block_bytes c.args.state.now)) ((length (used_ids c.args.config.now) + 2) * most)) (c.settle.ensures.at_once is).same
    (λ knows. c.save_next.ensures.spends h knows most) (running.known is)

pub returns-clause-changes : goal.returns-clause-changes
returns-clause-changes g c = λ h s running.
    let config = c.args.config.now in
    let before = driver_of c.args.self.now in
    let middle = driver_of c.settle.new.self in
    let after = driver_of c.save_next.new.self in
    let settled = (c.in_ok-settle.ensures.finds h s running).found in
    let behind = c.save_next.ensures.behind settled.chosen settled.ready in
    let order = running.sound.order in
    record {
      places = λ undisturbed.
          (let then_ = undisturbed_until before middle after c.save_next.ensures.driver.calls undisturbed in
          let learns = settled.learns then_ in
          let held = held_is_chosen before middle (is_settled c.args.self.now) h s settled.chosen then_ settled.is in
          let ready = subst (λ (d : Generation). IsReady config d c.settle.new.self) held settled.ready in
          on_ok c.save_next.result (λ keeps. λ current next first now. keeps current next (learns.commit current first) now) ((c.save_next.ensures.behind h ready).places learns.known));
      first = λ zero.
          (let number : settled.chosen.number ≡ 0 = ⊎_elim
          (λ by_held. ap (λ (d : Generation). d.number) by_held ∙ zero)
          (λ by_spare. (let same : settled.chosen.number ≡ s.number = ap (λ (d : Generation). d.number) by_spare.0 in omega (arith, same, order, zero)))
          settled.is in
          behind.first number);
      rewritten = behind.rewritten;
      by_changes = λ yes some fresh unfailed none.
          (let number = number_of_started config before.value (commit_of c.args.self.now) h (running.settled yes).names in
          subst (λ pages. CostsAtMost (6 + pages) before after)
          (pages_of_later config (commit_of c.args.self.now) (block_bytes h.state) (block_bytes c.args.state.now) (λ none. some (number ∙ none)))
          ((spends g (goal.at.returns-clause-changes g c).After-save_next h s running yes fresh).at_the_end fresh unfailed none));
      at_most = λ yes fresh unfailed.
          (spends g (goal.at.returns-clause-changes g c).After-save_next h s running yes fresh).at_most (switch_within config running.served.valid_config before.room running.served.room) fresh unfailed;
    }

pub returns-clause-driver : goal.returns-clause-driver
returns-clause-driver g c =
    let driver = c.save_next.ensures.driver in
    record {
      applications = λ block below. driver.applications block below ∙ c.settle.ensures.applications block below;
      not_stale = driver.not_stale;
      calls = more_calls _ _ _ c.settle.ensures.calls driver.calls;
    }

-- ---- settle failed

pub returns-in_err-settle-clause-answers : goal.returns-in_err-settle-clause-answers
returns-in_err-settle-clause-answers g c = λ h s running. record {
  saved = failed_if_ok _ _ c.from_residual.result c.from_residual.ensures.1;
  failed = whenever c.from_residual.result ((c.in_err-settle.ensures.finds h s running).failed c.args.state.now);
}

pub returns-in_err-settle-clause-alive : goal.returns-in_err-settle-clause-alive
returns-in_err-settle-clause-alive g c =
    let alive = c.requires.alive in
    let left = (c.in_err-settle.ensures.finds alive.held alive.spare alive.running).failed c.args.state.now in
    record { held = left.now_held; spare = left.now_spare; running = left.running }

pub returns-in_err-settle-clause-causes : goal.returns-in_err-settle-clause-causes
returns-in_err-settle-clause-causes g c = λ h s running.
    let answer = c.from_residual.result in
    let made = c.from_residual.ensures.1 in
    let finds = c.in_err-settle.ensures.finds h s running in
    let unsettled = is_unsettled (is_settled c.args.self.now) (λ yes. (c.in_err-settle.ensures.at_once yes).never_fails refl) in
    let flash = λ (told : IsErrOf answer Flash). finds.flash (ap Err (sym (told_by _ answer Flash made told))) in
    let sequence = λ (told : IsErrOf answer SequenceSpent). finds.sequence (ap Err (sym (told_by _ answer SequenceSpent made told))) in
    record {
      flash = flash;
      unsaved = λ told. inl (unsettled, finds.unrestarted (ap Err (sym (told_by _ answer Flash made told))));
      spent = λ told. absurd (c.in_err-settle.ensures.not_spent (ap Err (sym (told_by _ answer Spent made told))));
      last = λ undisturbed last.
          (let never = unfailed (driver_of c.args.self.now) (driver_of c.settle.new.self) (is_settled c.args.self.now) unsettled undisturbed in
          inr (unsettled, handed_sequence answer _ made (λ is. never (finds.flash (ap Err is))) (λ is. c.in_err-settle.ensures.not_spent (ap Err is))));
      sequence = sequence;
      completed = λ number unhindered. save_met_none answer
          (λ told. unhindered.tries (flash told))
          (λ told. c.in_err-settle.ensures.not_spent (ap Err (sym (told_by _ answer Spent made told))))
          (λ told. (let stuck = sequence told in
          let spent = g.met.B.Blocks.stuck_is_spent c.settle.new.self.nvm.blocks stuck.0 stuck.1 stuck.3 in
          let left = unhindered.numbers in absurd (cc (spent, left))));
    }

pub returns-in_err-settle-clause-changes : goal.returns-in_err-settle-clause-changes
returns-in_err-settle-clause-changes g c = λ h s running.
    let answer = c.from_residual.result in
    let made = c.from_residual.ensures.1 in
    record {
      places = λ undisturbed. failed_ok _ _ answer made;
      first = λ zero. failed_ok _ _ answer made;
      rewritten = failed_ok _ _ answer made;
      by_changes = λ yes some fresh unfailed none. absurd ((c.in_err-settle.ensures.at_once yes).never_fails refl);
      at_most = λ yes fresh unfailed. absurd ((c.in_err-settle.ensures.at_once yes).never_fails refl);
    }

pub returns-in_err-settle-clause-settles : goal.returns-in_err-settle-clause-settles
returns-in_err-settle-clause-settles g c = record { settled = failed_ok _ _ c.from_residual.result c.from_residual.ensures.1; unsettled = whenever c.from_residual.result c.in_err-settle.ensures.unsettled }

pub returns-in_err-settle-clause-driver : goal.returns-in_err-settle-clause-driver
returns-in_err-settle-clause-driver g c = record {
  applications = c.settle.ensures.applications;
  not_stale = failed_ok _ _ c.from_residual.result c.from_residual.ensures.1;
  calls = c.settle.ensures.calls;
}
