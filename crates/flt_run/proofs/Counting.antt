-- The journals of a life have no more calls of saves and of drains than its deeds make.
use Rattle.std.proofs.Common.{◌≡◌, ℕ, ◌≤◌, ◌+◌, ◌*◌, Bool, true, false, not, cond, List, [], ◌∷◌, ◌++◌, length, reverse, refl, ap, subst, sym, arith, ◌∙◌}
use Rattle.std.specs.Prelude.{nat_lt, sum_by}
use Rattle.std.proofs.lemmas.Bool.{lt-ltb}
use Rattle.std.proofs.lemmas.List.Sums.{sum_by-cons}
use Rattle.flt_model.specs.declared.call.Op.{Op}
use Rattle.flt_model.specs.declared.call.Op.TheVariants as ops
use Rattle.flt_model.specs.Reply.{Reply}
use Rattle.flt_queue.specs.declared.job.QueueOp.{QueueOp}
use Rattle.flt_queue.specs.declared.job.QueueOp.TheVariants as queue
use Rattle.flt_queue.specs.Reply.{QueueReply}
use Rattle.flt_step.specs.declared.step.Step.{Step}
use Rattle.flt_step.specs.Part.{PartOf}
use Rattle.flt_step.specs.Step.{is_store_step}
use Rattle.flt_turn.specs.declared.vault.Entry.{Entry}
use Rattle.flt_turn.specs.Sums.{one_if}
use Rattle.flt_life_model.specs.declared.action.Action.{Action}
use Rattle.flt_life_model.specs.declared.action.Action.TheVariants as action
use Rattle.flt_life_model.specs.Actions.{IsQueueCall, IsStepCall, action_of}
use Rattle.flt_life_model.specs.Answers.{Told}
use Rattle.flt_life_model.specs.Draining.{DrainMakes, Drained, IsLastTake, QueueCall, calls_for_all}
use Rattle.flt_life_model.specs.Journal.{Journal}
use Rattle.flt_fork.specs.Mixing.{Call, ops_asked}
use Rattle.flt_life_model.specs.Ordered.{Deed, deeds_in}
use Rattle.flt_life_model.specs.Played.{ActionMakes, ActionQueues, DrainTold, IsMade, SaveMakes, StepMakes, StepQueues}
use Rattle.flt_life_model.specs.declared.answer.StepAnswer.TheVariants as answers
use Rattle.flt_life_model.proofs.ByAction.{IsStepAction, is_step_action, touches_by, touches_store}
use Rattle.flt_lane.specs.Living.{drain_call, drains_by, drains_in, drains_of, last_take, save_call, saves_by, saves_in, saves_of}
use Rattle.flt_run.proofs.Weights.{amount_newest, amount_of, follows_most, parts_most, weigh, weigh_ops}

-- ---- saves

saves_are : (journal : Journal) → saves_in journal ≡ weigh save_call journal
saves_are [] = refl
saves_are (e ∷ journal) = let rest = saves_are journal in omega (arith, rest)

saves_told : (deeds : List Deed) → amount_of saves_by deeds ≡ saves_of deeds
saves_told [] = refl
saves_told (deed ∷ deeds) = let rest = saves_told deeds in omega (arith, rest)

abbrev weigh_saves : List (Call Op Reply) → ℕ
weigh_saves calls = weigh_ops save_call (ops_asked calls)

abbrev SavesMost : Bool → Told → List (Call Op Reply) → Type 0
SavesMost stores told calls = weigh_saves calls ≤ cond stores (saves_by told) 0

no_calls : (stores : Bool) (told : Told) (calls : List (Call Op Reply)) → calls ≡ [] → SavesMost stores told calls
no_calls stores told calls none = let is = ap weigh_saves none in omega (arith, is)

-- A call of a step is no snapshot, and notes no save.
no_save_call : (op : Op) → IsStepCall op → save_call op ≡ 0
no_save_call (ops.Report event report) is = refl
no_save_call (ops.Show event) is = refl
no_save_call (ops.Cycle cycle) is = refl
no_save_call (ops.Tick ticks) is = refl
no_save_call (ops.Signal index value) is = refl
no_save_call (ops.Enable condition fulfilled) is = refl
no_save_call (ops.Request tester bytes) is = refl
no_save_call ops.Snapshot is = absurd is
no_save_call (ops.Saved number) is = absurd is

save_most : (told : Told) (calls : List (Call Op Reply)) → SaveMakes told calls → SavesMost true told calls
save_most (answers.Saved number) calls made = let is = ap weigh_saves made.2 in omega (arith, is)
save_most (answers.SaveFailed fault) calls made = let is = ap weigh_saves made.1 in omega (arith, is)
save_most (answers.Dem reply) calls made = absurd made
save_most (answers.Queue reply) calls made = absurd made
save_most (answers.Drained written failed) calls made = absurd made
save_most (answers.Bytes found) calls made = absurd made
save_most answers.NoBlock calls made = absurd made
save_most answers.BlockFlash calls made = absurd made
save_most answers.Armed calls made = absurd made
save_most answers.Dark calls made = absurd made

action_saves : (does : Action) (told : Told) (calls : List (Call Op Reply)) → IsStepAction does → ActionMakes does told calls → SavesMost (touches_store does) told calls
action_saves (action.Call op) told calls is made = let none = no_save_call op is in let one = ap weigh_saves made.2 in omega (arith, none, one)
action_saves (action.Queue op) told calls is made = no_calls false told calls made
action_saves action.Save told calls is made = save_most told calls made
action_saves action.Drain told calls is made = no_calls true told calls made
action_saves (action.Get block) told calls is made = no_calls true told calls made.1
action_saves (action.Arm arm) told calls is made = no_calls false told calls made.1

saves_most : (step : Step) (told : Told) (calls : List (Call Op Reply)) → StepMakes step told calls → SavesMost (is_store_step step) told calls
saves_most step told calls made = subst (λ stores. SavesMost stores told calls) (sym (touches_by step)) (action_saves (action_of step) told calls (is_step_action step) made)

pub life_saves : {S : Type 0} (answer : S → List Op → Op → Reply) (start : S) (parts : List (PartOf Step)) (own : List Told) (lanes : List (List Told)) (journal : Journal) → IsMade StepMakes answer start parts own lanes journal
    → saves_in journal ≤ saves_of (reverse (deeds_in parts own lanes))
life_saves answer start parts own lanes journal made =
    let deeds = deeds_in parts own lanes in
    let first = saves_are journal in
    let by_blocks = follows_most save_call made.blocks journal made.in_order in
    let by_parts = parts_most save_call StepMakes saves_by saves_most 1 parts own lanes made.blocks made.made in
    let turned = sym (saves_told (reverse deeds)) ∙ amount_newest saves_by deeds in
    omega (arith, first, by_blocks, by_parts, turned)

-- ---- drains

drains_are : (journal : List (Entry QueueOp)) → drains_in journal ≡ weigh drain_call journal
drains_are [] = refl
drains_are (e ∷ journal) = let rest = drains_are journal in omega (arith, rest)

drains_told : (deeds : List Deed) → amount_of drains_by deeds ≡ drains_of deeds
drains_told [] = refl
drains_told (deed ∷ deeds) = let rest = drains_told deeds in omega (arith, rest)

abbrev weigh_calls : List QueueCall → ℕ
weigh_calls calls = weigh_ops drain_call (ops_asked calls)

abbrev DrainsMost : Bool → Told → List QueueCall → Type 0
DrainsMost stores told calls = weigh_calls calls ≤ cond stores (drains_by told) 0

no_queue_calls : (stores : Bool) (told : Told) (calls : List QueueCall) → calls ≡ [] → DrainsMost stores told calls
no_queue_calls stores told calls none = let is = ap weigh_calls none in omega (arith, is)

calls-append : (calls more : List QueueCall) → weigh_calls (calls ++ more) ≡ weigh_calls calls + weigh_calls more
calls-append [] more = omega arith
calls-append (call ∷ calls) more = let rest = calls-append calls more in omega (arith, rest)

jobs_weight : (jobs : List Drained) → weigh_calls (calls_for_all jobs) ≡ 2 * length jobs
jobs_weight [] = refl
jobs_weight (d ∷ jobs) = let rest = jobs_weight jobs in omega (arith, rest)

either_way : (jobs : List Drained) → sum_by (λ (d : Drained). one_if d.written) jobs + sum_by (λ (d : Drained). one_if (not d.written)) jobs ≡ length jobs
either_way [] = refl
either_way (d ∷ jobs) =
    let rest = either_way jobs in
    let first = sum_by-cons (λ (d : Drained). one_if d.written) d jobs in
    let second = sum_by-cons (λ (d : Drained). one_if (not d.written)) d jobs in
    let one = one_of d.written in
    omega (arith, rest, first, second, one)
  where
    one_of : (b : Bool) → one_if b + one_if (not b) ≡ 1
    one_of true = refl
    one_of false = refl

last_weight : (jobs : ℕ) (last : List QueueCall) → IsLastTake jobs last → weigh_calls last ≤ last_take (nat_lt jobs 32)
last_weight jobs [] is = omega arith
last_weight jobs (call ∷ calls) is =
    let one = ap (λ (c : QueueCall). drain_call c.op) is.1.1 in
    let none = ap weigh_calls is.2 in
    let last : last_take (nat_lt jobs 32) ≡ 1 = ap last_take (lt-ltb jobs 32 is.0) in
    omega (arith, one, none, last)

drain_most : (written failed : ℕ) (calls : List QueueCall) → DrainMakes written failed calls → weigh_calls calls ≤ drains_by (answers.Drained written failed)
drain_most written failed calls made =
    let sum = ap weigh_calls made.calls_are ∙ calls-append (calls_for_all made.jobs) made.last in
    let jobs = jobs_weight made.jobs in
    let both = either_way made.jobs in
    let written_is = made.written_is in
    let failed_is = made.failed_is in
    let count : written + failed ≡ length made.jobs = omega (arith, both, written_is, failed_is) in
    let last = last_weight (length made.jobs) made.last made.ended in
    let same = ap (λ n. last_take (nat_lt n 32)) count in
    omega (arith, sum, jobs, count, last, same)

drained_most : (told : Told) (calls : List QueueCall) → DrainTold told calls → DrainsMost true told calls
drained_most (answers.Drained written failed) calls made = drain_most written failed calls made
drained_most (answers.Saved number) calls made = absurd made
drained_most (answers.SaveFailed fault) calls made = absurd made
drained_most (answers.Dem reply) calls made = absurd made
drained_most (answers.Queue reply) calls made = absurd made
drained_most (answers.Bytes found) calls made = absurd made
drained_most answers.NoBlock calls made = absurd made
drained_most answers.BlockFlash calls made = absurd made
drained_most answers.Armed calls made = absurd made
drained_most answers.Dark calls made = absurd made

-- A call of a step is none of a drain.
no_drain_call : (op : QueueOp) → IsQueueCall op → drain_call op ≡ 0
no_drain_call (queue.Post urgent job) is = refl
no_drain_call queue.Take is = absurd is
no_drain_call (queue.Done block written) is = absurd is
no_drain_call (queue.Ask block) is = refl

action_drains : (does : Action) (told : Told) (calls : List QueueCall) → IsStepAction does → ActionQueues does told calls → DrainsMost (touches_store does) told calls
action_drains (action.Call op) told calls is made = no_queue_calls false told calls made
action_drains (action.Queue op) told calls is made = let none = no_drain_call op is in let one = ap weigh_calls made.2 in omega (arith, none, one)
action_drains action.Save told calls is made = no_queue_calls true told calls made
action_drains action.Drain told calls is made = drained_most told calls made
action_drains (action.Get block) told calls is made = no_queue_calls true told calls made
action_drains (action.Arm arm) told calls is made = no_queue_calls false told calls made

drains_most : (step : Step) (told : Told) (calls : List QueueCall) → StepQueues step told calls → DrainsMost (is_store_step step) told calls
drains_most step told calls made = subst (λ stores. DrainsMost stores told calls) (sym (touches_by step)) (action_drains (action_of step) told calls (is_step_action step) made)

pub life_drains : {S : Type 0} (answer : S → List QueueOp → QueueOp → QueueReply) (start : S) (parts : List (PartOf Step)) (own : List Told) (lanes : List (List Told)) (journal : List (Entry QueueOp))
    → IsMade StepQueues answer start parts own lanes journal → drains_in journal ≤ drains_of (reverse (deeds_in parts own lanes))
life_drains answer start parts own lanes journal made =
    let deeds = deeds_in parts own lanes in
    let first = drains_are journal in
    let by_blocks = follows_most drain_call made.blocks journal made.in_order in
    let by_parts = parts_most drain_call StepQueues drains_by drains_most 1 parts own lanes made.blocks made.made in
    let turned = sym (drains_told (reverse deeds)) ∙ amount_newest drains_by deeds in
    omega (arith, first, by_blocks, by_parts, turned)
