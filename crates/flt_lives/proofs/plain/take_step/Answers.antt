use Rattle.std.proofs.Common.{◌≡◌, ◌∙◌, ◌≤◌, ◌++◌, [], ap, refl, sym, subst, arith, length, reverse}
use Rattle.std.proofs.lemmas.List.{length-reverse}
use Rattle.std.proofs.lemmas.List.Sums.{sum_by-cons}
use Rattle.flt_store.specs.Store.{driver_of}
use Rattle.flt_life_model.specs.declared.action.Action.{Action}
use Rattle.flt_life_model.specs.declared.action.Action.TheVariants as actions
use Rattle.flt_life_model.specs.declared.answer.StepAnswer.TheVariants as answers
use Rattle.flt_life_model.specs.Journal.{Journal}
use Rattle.flt_life_model.specs.Actions.{action_of, arm_count, arms_of, call_count, response_size}
use Rattle.flt_life_model.specs.Answers.{Told, told_with, response_length}
use Rattle.flt_lives.specs.Carried.{IsAtPlace, with_calls}
use Rattle.flt_lives.specs.Steps.{AnswersStep, GivesArms, IsPlainAction}
use Rattle.flt_lives.proofs.Rooms.{response_fits, room_after}
use Rattle.flt_lives.proofs.plain.take_step.Goals as goal

pub keep-requires-clause-responses : goal.keep-requires-clause-responses
keep-requires-clause-responses g c =
    let fits = response_fits c.args.account.now (action_of c.args.step.now) c.requires.room in
    let response = c.as_slice.ensures.value in
    let few = c.as_slice.ensures.fits in
    let size = subst (λ bytes. response_length c.make_step-answer.result bytes ≤ response_size c.action_of-action.result) (sym response) (c.make_step-answer.ensures.size (rw response at few)) in
    let most = ap response_size c.action_of-action.ensures in
    omega (arith, fits, size, most)

pub make_step-answer-requires-clause-step : goal.make_step-answer-requires-clause-step
make_step-answer-requires-clause-step g c =
    let step = c.requires.step in
    let arms = step.arms in
    subst (λ (action : Action). IsPlainAction c.args.config.now action (driver_of c.args.store.now).device) (sym c.action_of-action.ensures)
    (record { possible = step.possible; plain = step.plain; arms = λ one. omega (arith, arms, one) })

-- The calls of a step come before those that a journal has, and are no more than it makes at most.
calls_made : (action : Action) (told : Told) (journal : Journal)
    → (with_calls action told [] ++ journal ≡ with_calls action told journal) × (length (with_calls action told []) ≤ call_count action)
calls_made (actions.Call op) told journal = (refl, omega arith)
calls_made (actions.Queue op) told journal = (refl, omega arith)
calls_made actions.Drain told journal = (refl, omega arith)
calls_made (actions.Get block) told journal = (refl, omega arith)
calls_made (actions.Arm arm) told journal = (refl, omega arith)
calls_made actions.Save (answers.Dem told) journal = (refl, omega arith)
calls_made actions.Save (answers.Saved number) journal = (refl, omega arith)
calls_made actions.Save (answers.SaveFailed fault) journal = (refl, omega arith)
calls_made actions.Save (answers.Queue told) journal = (refl, omega arith)
calls_made actions.Save (answers.Drained written failed) journal = (refl, omega arith)
calls_made actions.Save (answers.Bytes bytes) journal = (refl, omega arith)
calls_made actions.Save answers.NoBlock journal = (refl, omega arith)
calls_made actions.Save answers.BlockFlash journal = (refl, omega arith)
calls_made actions.Save answers.Armed journal = (refl, omega arith)
calls_made actions.Save answers.Dark journal = (refl, omega arith)

pub make_step-answer-requires-clause-room : goal.make_step-answer-requires-clause-room
make_step-answer-requires-clause-room g c =
    let sum = sum_by-cons call_count (action_of c.args.step.now) [] in
    let count = ap call_count c.action_of-action.ensures in
    let calls = c.requires.room.calls in
    omega (arith, sum, count, calls)

pub returns-clause-takes : goal.returns-clause-takes
returns-clause-takes g c =
    let made = c.make_step-answer in
    let account = c.args.account.now in
    let response = made.new.buffers.response.items in
    let unit = c.args.unit.now in
    let last = told_with c.as_slice.result.now made.result in
    let same : told_with response made.result ≡ last = ap (λ bytes. told_with bytes made.result) (sym c.as_slice.ensures.value) in
    let place : c.len-place.result ≡ length (reverse account.journal.items) = c.len-place.ensures ∙ account.journal.ok.0 ∙ sym (length-reverse account.journal.items) in
    let step : AnswersStep c.args.config.now c.action_of-action.result unit made.new.unit c.args.store.now made.new.store account.journal made.new.journal (told_with response made.result) = record {
      step = made.ensures.made;
      written = made.ensures.written.written ∙ (calls_made c.action_of-action.result (told_with response made.result) (reverse account.journal.items)).0;
      placed = subst (λ at. IsAtPlace at (told_with response made.result)) place made.ensures.placed;
    } in
    record {
      last = last;
      answers = c.keep.ensures.told;
      step = subst (λ (action : Action). AnswersStep c.args.config.now action unit made.new.unit c.args.store.now made.new.store account.journal made.new.journal last) c.action_of-action.ensures
          (subst (λ (answer : Told). AnswersStep c.args.config.now c.action_of-action.result unit made.new.unit c.args.store.now made.new.store account.journal made.new.journal answer) same step);
    }

pub returns-clause-gives : goal.returns-clause-gives
returns-clause-gives g c =
    subst (λ (action : Action). GivesArms (arms_of action) (arm_count action) (driver_of c.args.store.now) (driver_of c.make_step-answer.new.store)) c.action_of-action.ensures c.make_step-answer.ensures.leaves.gives

pub returns-clause-room : goal.returns-clause-room
returns-clause-room g c = λ rest room.
    let response = c.as_slice.ensures.value in
    let few = c.as_slice.ensures.fits in
    let size = subst (λ bytes. response_length c.make_step-answer.result bytes ≤ response_size c.action_of-action.result) (sym response) (c.make_step-answer.ensures.size (rw response at few)) in
    let most = ap response_size c.action_of-action.ensures in
    let more = c.make_step-answer.ensures.written.more in
    let most_calls = (calls_made c.action_of-action.result (told_with c.make_step-answer.new.buffers.response.items c.make_step-answer.result) []).1 in
    let count = ap call_count c.action_of-action.ensures in
    let responses = c.keep.ensures.responses in
    room_after c.args.account.now _ (action_of c.args.step.now) rest room (omega (arith, more, most_calls, count)) c.make_step-answer.ensures.written.room c.keep.ensures.answers c.keep.ensures.room
    (omega (arith, responses, size, most)) c.keep.ensures.bytes

pub returns-clause-applications : goal.returns-clause-applications
returns-clause-applications g c = c.make_step-answer.ensures.leaves.applications
