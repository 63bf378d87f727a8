use Rattle.std.proofs.Common.{Err, ap, refl}
use Rattle.flt_life_model.specs.Answers.{Told}
use Rattle.flt_life_model.specs.declared.answer.StepAnswer.TheVariants as answers
use Rattle.flt_step.specs.declared.step.Step.TheVariants as steps
use Rattle.flt_store.specs.Store.{driver_of}
use Rattle.flt_turn.specs.Call.{past}
use Rattle.flt_shared.specs.Call.{no_response, whole}
use Rattle.flt_life_model.proofs.Causing.{caused_saved, caused_failed}
use Rattle.flt_life_model.specs.Applications.{answers_of}
use Rattle.flt_lane.proofs.Carrying.{holds_deed}
use Rattle.flt_lane.proofs.Saves.{living_saved, living_failed}
use Rattle.flt_lane.proofs.Answering.{keeps, takes_deed}
use Rattle.flt_lane.proofs.Stepping.{failed_made, none_queued, saved_made, taken_fits}
use Rattle.flt_lane.proofs.Leaving.{leaves_by_calls}
use Rattle.flt_lane.proofs.step.save.Goals as goal

pub save-requires-clause-fits : goal.save-requires-clause-fits
save-requires-clause-fits g c =
    taken_fits c.args.config.now c.args.seat.now.start (past c.in-Ok._taken.place c.snapshot_into.new.seat.seen) c.snapshot_into.new.out c.requires.ready.has.same c.requires.ready.has.valid c.requires.ready.has.fits c.in-Ok.ensures.state

pub returns-in-Ok-saved-clause-takes : goal.returns-in-Ok-saved-clause-takes
returns-in-Ok-saved-clause-takes g c = λ jobs.
    let taken = whole c.in-Ok._taken no_response in
    let made = c.in-Ok.ensures.call in
    let told : Told = answers.Saved c.in-Ok-save.generation in
    let kept = c.keep.ensures in
    takes_deed c.args.config.now c.args.seat.now c.saved.new.seat jobs jobs steps.Save told c.args.replies.now c.keep.new.self c.args.store.now c.save.new.self refl
    (keeps c.args.replies.now c.keep.new.self steps.Save (answers.Saved c.in-Ok-save.generation) kept.told kept.answers kept.room kept.responses kept.bytes refl)
    (saved_made c.args.seat.now c.snapshot_into.new.seat c.in-Ok-save.generation taken c.in-Ok-saved._noted c.saved.new.seat made.call c.in-Ok-saved.ensures.call) (none_queued jobs steps.Save told refl)
    (λ earlier. record {
      alive = λ alive. c.save.ensures.alive;
      living = λ first start living. living_saved c.args.config.now c.args.seat.now c.snapshot_into.new.seat taken c.snapshot_into.new.out made.call c.in-Ok.ensures.state earlier c.args.store.now c.save.new.self
          first start living c.saved.new.seat c.in-Ok-save.generation c.in-Ok-saved._noted c.in-Ok-saved.ensures.call (λ held spare running. (c.in-Ok-save.ensures.answers held spare running).saved);
      caused = λ begun caused. caused_saved c.args.config.now begun (answers_of earlier) c.args.store.now c.save.new.self caused c.snapshot_into.new.out c.in-Ok-save.generation c.save.ensures.driver.calls
          (c.in-Ok-save.ensures.answers caused.held_now caused.spare_now caused.running).saved;
      holds = λ alive first holds. holds_deed first jobs earlier (steps.Save, told) (driver_of c.args.store.now).value (driver_of c.save.new.self).value c.save.ensures.driver.applications refl refl (λ past held. tt) holds;
    })
    (leaves_by_calls c.args.store.now c.save.new.self c.save.ensures.driver.calls)

pub returns-in-Err-clause-takes : goal.returns-in-Err-clause-takes
returns-in-Err-clause-takes g c = λ jobs.
    let taken = whole c.in-Ok._taken no_response in
    let made = c.in-Ok.ensures.call in
    let told : Told = answers.SaveFailed c.in-Err.fault in
    let kept = c.keep-in-Err.ensures in
    takes_deed c.args.config.now c.args.seat.now c.snapshot_into.new.seat jobs jobs steps.Save told c.args.replies.now c.keep-in-Err.new.self c.args.store.now c.save.new.self refl
    (keeps c.args.replies.now c.keep-in-Err.new.self steps.Save (answers.SaveFailed c.in-Err.fault) kept.told kept.answers kept.room kept.responses kept.bytes refl)
    (failed_made c.args.seat.now c.in-Err.fault taken c.snapshot_into.new.seat made.call) (none_queued jobs steps.Save told refl)
    (λ earlier. record {
      alive = λ alive. c.save.ensures.alive;
      living = λ first start living. living_failed c.args.config.now c.args.seat.now c.snapshot_into.new.seat taken c.snapshot_into.new.out made.call c.in-Ok.ensures.state earlier c.args.store.now c.save.new.self
          first start living c.in-Err.fault (λ held spare running. (c.in-Err.ensures.answers held spare running).failed);
      caused = λ begun caused. caused_failed c.args.config.now begun (answers_of earlier) c.args.store.now c.save.new.self caused c.snapshot_into.new.out c.in-Err.fault c.save.ensures.driver.calls
          (c.in-Err.ensures.answers caused.held_now caused.spare_now caused.running).failed
          (λ is. (c.in-Err.ensures.causes caused.held_now caused.spare_now caused.running).flash (ap Err is))
          (λ is. (c.in-Err.ensures.causes caused.held_now caused.spare_now caused.running).spent (ap Err is))
          (λ is. (let stuck = (c.in-Err.ensures.causes caused.held_now caused.spare_now caused.running).sequence (ap Err is) in g.met.B.Blocks.stuck_is_spent c.save.new.self.nvm.blocks stuck.0 stuck.1 stuck.3));
      holds = λ alive first holds. holds_deed first jobs earlier (steps.Save, told) (driver_of c.args.store.now).value (driver_of c.save.new.self).value c.save.ensures.driver.applications refl refl (λ past held. tt) holds;
    })
    (leaves_by_calls c.args.store.now c.save.new.self c.save.ensures.driver.calls)
