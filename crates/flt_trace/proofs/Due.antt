-- The answers of a life, each at its place, are those that are due of its journal.
use Rattle.std.proofs.Common.{◌≡◌, ◌⊎◌, inl, inr, ℕ, zero, suc, ◌+◌, ◌<◌, ◌≤◌, Bool, true, false, cond, List, [], ◌∷◌, ◌++◌, Some, All, length, map, get_or, replicate, reverse, eq-eqb, arith, refl, sym, ap, subst, ◌∙◌}
use Rattle.std.specs.Prelude.{Contains, slice_get, ◌==◌}
use Rattle.std.proofs.lemmas.Bool.{cases_eq, eqb-true}
use Rattle.std.proofs.lemmas.List.{append-nil, append_assoc, get_or-replicate, length-append, length-map, length-replicate, reverse-append}
use Rattle.flt_model.specs.Answer.{answer, answers}
use Rattle.flt_model.specs.Start.{Start, History}
use Rattle.flt_model.specs.declared.call.Op.{Op}
use Rattle.flt_model.specs.declared.call.Op.TheVariants as ops
use Rattle.flt_model.specs.Reply.{Reply}
use Rattle.flt_queue.specs.declared.job.QueueOp.{QueueOp}
use Rattle.flt_queue.specs.Reply.{QueueReply}
use Rattle.flt_step.specs.Part.{PartOf}
use Rattle.flt_step.specs.declared.step.Step.{Step}
use Rattle.flt_turn.proofs.Journals.{calls_of-append}
use Rattle.flt_turn.specs.Journal.{entry, calls_of, ops_of}
use Rattle.flt_turn.specs.Seats.{ops_before}
use Rattle.flt_turn.specs.declared.answer.Answer.{Answer}
use Rattle.flt_turn.specs.declared.vault.Entry.{Entry}
use Rattle.flt_life_model.specs.Actions.{action_of}
use Rattle.flt_life_model.specs.Answers.{Told}
use Rattle.flt_life_model.specs.Journal.{Journal}
use Rattle.flt_fork.specs.Mixing.{Block, BlockTold, HasInOrder, IsToldInPlace, Mixes, asked_of, calls_in_block, calls_in_lane, ops_asked}
use Rattle.flt_fork.specs.Mixing as mixing
use Rattle.flt_life_model.specs.Played.{ActionMakes, ActionQueues, StepMakes, StepQueues, reply_after}
use Rattle.flt_life_model.specs.declared.action.Action.{Action}
use Rattle.flt_life_model.specs.declared.action.Action.TheVariants.{Call, Queue, Save, Drain, Get, Arm}
use Rattle.flt_life_model.specs.declared.answer.StepAnswer.TheVariants as answered
use Rattle.flt_report.specs.Answer.{reply_text}
use Rattle.flt_trace.specs.Call.{CanBeMade, IsSaveCall}
use Rattle.flt_trace.specs.Answered.{taken_text, with_lanes}
use Rattle.flt_trace.specs.Laws.{CallsCanBeMade, IsLifeInRange, ToldAnswersAreDue}
use Rattle.flt_trace.proofs.Calling.{DemCall, HasToldPlace, IsMadeAt, by_parts}
use Rattle.flt_trace.proofs.Covered.{StandIn, Tell, covered}
use Rattle.flt_trace.proofs.Each.{Each, both, each_as, of_all}
use Rattle.flt_trace.proofs.Filled.{HavePlace, IsDueAt, filled}
use Rattle.flt_trace.proofs.Paired.{EachCall, parts_give, parts_paired}

-- ---- the text that is due at a place

abbrev due_of : Start → History → Journal → List (List ℕ)
due_of start past journal = map reply_text (answers start past (ops_of journal))

-- At the place of a call is the text of the machine's answer to it.
due_at : (start : Start) (past : History) (journal : Journal) (place : ℕ) (e : Entry Op) → slice_get journal place ≡ Some e
    → (place < length (due_of start past journal)) × (get_or (due_of start past journal) place [] ≡ reply_text (answer start (reverse (ops_before place journal) ++ past) e.op))
due_at start past [] place e is = absurd cc
due_at start past (x ∷ journal) zero e is = let same : x ≡ e = cc in (omega arith, ap (λ (y : Entry Op). reply_text (answer start past y.op)) same)
due_at start past (x ∷ journal) (suc place) e is =
    let rest = due_at start (x.op ∷ past) journal place e is in
    let within = rest.0 in
    let earlier = ops_before place journal in
    let turned : reverse (x.op ∷ earlier) ++ past ≡ reverse earlier ++ (x.op ∷ past) =
    ap (λ (l : List Op). l ++ past) (reverse-append (x.op ∷ []) earlier) ∙ append_assoc (reverse earlier) (x.op ∷ []) past in
    (omega (arith, within), rest.1 ∙ ap (λ (l : History). reply_text (answer start l e.op)) (sym turned))

pub due_length : (start : Start) (past : History) (journal : Journal) → length (due_of start past journal) ≡ length journal
due_length start past [] = refl
due_length start past (x ∷ journal) = let rest = due_length start (x.op ∷ past) journal in omega (arith, rest)

-- The answer to a call of a save is that it was taken.
save_taken : (start : Start) (past : History) (op : Op) → IsSaveCall op → reply_text (answer start past op) ≡ taken_text
save_taken start past ops.Snapshot is = refl
save_taken start past (ops.Saved number) is = refl
save_taken start past (ops.Report event report) is = absurd is
save_taken start past (ops.Show event) is = absurd is
save_taken start past (ops.Cycle cycle) is = absurd is
save_taken start past (ops.Tick ticks) is = absurd is
save_taken start past (ops.Signal index value) is = absurd is
save_taken start past (ops.Enable condition fulfilled) is = absurd is
save_taken start past (ops.Request tester bytes) is = absurd is

not_among : (n m : ℕ) (numbers : List ℕ) → (m ≡ n → ⊥) → (Contains numbers n → ⊥) → (k : ℕ) → k < length (m ∷ numbers) → get_or (m ∷ numbers) k n ≡ n → ⊥
not_among n m numbers other none zero within is = other is
not_among n m numbers other none (suc k) within is = none (k, omega (arith, within), is)

-- ---- calls of a lane

module _ {O R : Type 0} where
  found : (P : mixing.Call O R → Type 0) (place : ℕ) (calls : List (mixing.Call O R)) → Each P calls → Tell place calls → (call : mixing.Call O R) × (call.told.place ≡ place) × P call
  found P place [] each none = absurd none
  found P place (call ∷ calls) each (inl here) = (call, here, each.0)
  found P place (call ∷ calls) each (inr later) = found P place calls each.1 later

  -- Those of one lane among what holds of each call, by the number of its lane.
  abbrev EachIn : (ℕ → mixing.Call O R → Type 0) → Block O R → Type 0
  EachIn P lanes = Each (λ lane. Each (P lane.0) lane.1) lanes

  own_lane : (P : ℕ → mixing.Call O R → Type 0) (n m : ℕ) (calls : List (mixing.Call O R)) → (b : Bool) → (m == n) ≡ b → Each (P m) calls → Each (P n) (cond b calls [])
  own_lane P n m calls true is each = subst (λ k. Each (P k) calls) (eqb-true m n is) each
  own_lane P n m calls false is each = tt

  in_block : (P : ℕ → mixing.Call O R → Type 0) (n : ℕ) (lanes : Block O R) → EachIn P lanes → Each (P n) (calls_in_block n lanes)
  in_block P n [] each = tt
  in_block P n (lane ∷ lanes) each =
      both (P n) (cond (lane.0 == n) lane.1 []) (calls_in_block n lanes) (own_lane P n lane.0 lane.1 (lane.0 == n) refl each.0) (in_block P n lanes each.1)

  in_blocks : (P : ℕ → mixing.Call O R → Type 0) (n : ℕ) (blocks : List (Block O R)) → Each (EachIn P) blocks → Each (P n) (calls_in_lane n blocks)
  in_blocks P n [] each = tt
  in_blocks P n (lanes ∷ blocks) each = both (P n) (calls_in_block n lanes) (calls_in_lane n blocks) (in_block P n lanes each.0) (in_blocks P n blocks each.1)

  each_both : (P Q : mixing.Call O R → Type 0) (calls : List (mixing.Call O R)) → Each P calls → Each Q calls → Each (λ call. P call × Q call) calls
  each_both P Q [] first second = tt
  each_both P Q (call ∷ calls) first second = ((first.0, second.0), each_both P Q calls first.1 second.1)

  -- ---- a lane has as many calls as its places in the journal

  abbrev IsNumbered : ℕ → Block O R → Type 0
  IsNumbered n [] = ⊥
  IsNumbered n (lane ∷ lanes) = (lane.0 ≡ n) ⊎ IsNumbered n lanes

  abbrev numbers_of : Block O R → List ℕ
  numbers_of lanes = map (λ lane. lane.0) (asked_of lanes)

  numbered : (n : ℕ) (lanes : Block O R) → IsNumbered n lanes ⊎ (Contains (numbers_of lanes) n → ⊥)
  numbered n [] = inr (λ among. let within = among.1 in absurd (omega (arith, within)))
  numbered n (lane ∷ lanes) = elim (cases_eq lane.0 n) [
    | inl same ↦ inl (inl same)
    | inr other ↦ elim (numbered n lanes) [
      | inl is ↦ inl (inr is)
      | inr none ↦ inr (λ among. not_among n lane.0 (numbers_of lanes) other none among.0 among.1 among.2)
    ]
  ]

  many_in : (n : ℕ) (piece : List (Entry O)) (lanes : Block O R) → Each (λ lane. calls_of lane.0 piece ≡ ops_asked lane.1) lanes → IsNumbered n lanes
      → length (calls_of n piece) ≤ length (calls_in_block n lanes)
  many_in n piece [] each none = absurd none
  many_in n piece (lane ∷ lanes) each (inl same) =
      let asked = ap length (ap (λ (k : ℕ). calls_of k piece) (sym same) ∙ each.0) in
      let size = length-map lane.1 (λ (call : mixing.Call O R). call.op) in
      let split : length (calls_in_block n (lane ∷ lanes)) ≡ length lane.1 + length (calls_in_block n lanes) =
      ap (λ (b : Bool). length (cond b lane.1 [] ++ calls_in_block n lanes)) (eq-eqb lane.0 n same) ∙ length-append lane.1 (calls_in_block n lanes) in
      omega (arith, asked, size, split)
  many_in n piece (lane ∷ lanes) each (inr later) =
      let rest = many_in n piece lanes each.1 later in
      let split = length-append (cond (lane.0 == n) lane.1 []) (calls_in_block n lanes) in
      omega (arith, rest, split)

  asked_each : (piece : List (Entry O)) (lanes : Block O R) → Each (λ lane. calls_of lane.0 piece ≡ lane.1) (asked_of lanes) → Each (λ lane. calls_of lane.0 piece ≡ ops_asked lane.1) lanes
  asked_each piece [] each = tt
  asked_each piece (lane ∷ lanes) each = (each.0, asked_each piece lanes each.1)

  many : (n : ℕ) (piece : List (Entry O)) (lanes : Block O R) → Mixes piece (asked_of lanes) → length (calls_of n piece) ≤ length (calls_in_block n lanes)
  many n piece lanes mixes = elim (numbered n lanes) [
    | inl is ↦ many_in n piece lanes (asked_each piece lanes (of_all (λ (lane : ℕ × List O). calls_of lane.0 piece ≡ lane.1) (asked_of lanes) mixes.each)) is
    | inr none ↦ let gone = ap length (mixes.others n none) in omega (arith, gone)
  ]

  follows_many : (n : ℕ) (blocks : List (Block O R)) (journal : List (Entry O)) → HasInOrder blocks journal → length (calls_of n journal) ≤ length (calls_in_lane n blocks)
  unfolding HasInOrder
  follows_many n [] journal none = let is = ap (λ (l : List (Entry O)). length (calls_of n l)) none in omega (arith, is)
  follows_many n (lanes ∷ blocks) journal follows =
      let split = ap (λ (l : List (Entry O)). length (calls_of n l)) follows.2 ∙ ap length (calls_of-append n follows.0 follows.1) ∙ length-append (calls_of n follows.0) (calls_of n follows.1) in
      let first = many n follows.0 lanes follows.3 in
      let rest = follows_many n blocks follows.1 follows.4 in
      let whole = length-append (calls_in_block n lanes) (calls_in_lane n blocks) in
      omega (arith, split, first, rest, whole)

module _ {O : Type 0} where
  -- ---- an entry of a journal

  some_at : (journal : List (Entry O)) (place : ℕ) → place < length journal → (e : Entry O) × (slice_get journal place ≡ Some e) × ((d : O) → get_or (ops_of journal) place d ≡ e.op)
  some_at [] place within = absurd (omega (arith, within))
  some_at (e ∷ journal) zero within = (e, refl, λ d. refl)
  some_at (e ∷ journal) (suc place) within = some_at journal place (omega (arith, within))

-- ---- a life

module _ (start : Start) (parts : List (PartOf Step)) (own : List Told) (lanes : List (List Told)) (journal : Journal) (queue : List (Entry QueueOp))
    (life : IsLifeInRange start parts own lanes journal queue) where
  abbrev due : List (List ℕ)
  due = due_of start [] journal

  abbrev IsToldIn : ℕ → DemCall → Type 0
  IsToldIn lane call = IsToldInPlace reply_after start journal lane call

  abbrev IsToldSomewhere : DemCall → Type 0
  IsToldSomewhere call = (lane : ℕ) × IsToldIn lane call

  due_now : (place : ℕ) (e : Entry Op) → slice_get journal place ≡ Some e
      → (place < length due) × (get_or due place [] ≡ reply_text (answer start (reverse (ops_before place journal)) e.op))
  due_now place e is =
      let at = due_at start [] journal place e is in
      (at.0, at.1 ∙ ap (λ (l : History). reply_text (answer start l e.op)) (append-nil (reverse (ops_before place journal))))

  told_in_lanes : Each (EachIn IsToldIn) life.is.dem.blocks
  told_in_lanes =
      each_as (BlockTold reply_after start journal) (EachIn IsToldIn)
      (λ lanes told. each_as (λ (lane : ℕ × List DemCall). All (IsToldIn lane.0) lane.1) (λ (lane : ℕ × List DemCall). Each (IsToldIn lane.0) lane.1) (λ lane all. of_all (IsToldIn lane.0) lane.1 all) lanes
      (of_all (λ (lane : ℕ × List DemCall). All (IsToldIn lane.0) lane.1) lanes told))
      life.is.dem.blocks (of_all (BlockTold reply_after start journal) life.is.dem.blocks life.is.dem.told)

  told_somewhere : Each (EachCall IsToldSomewhere) life.is.dem.blocks
  told_somewhere =
      each_as (EachIn IsToldIn) (EachCall IsToldSomewhere)
      (λ lanes. each_as (λ (lane : ℕ × List DemCall). Each (IsToldIn lane.0) lane.1) (λ (lane : ℕ × List DemCall). Each IsToldSomewhere lane.1)
      (λ lane. each_as (IsToldIn lane.0) IsToldSomewhere (λ call is. (lane.0, is)) lane.1) lanes)
      life.is.dem.blocks told_in_lanes

  -- The text of an answer is the one due at its place.
  by_call : (op : Op) (reply : Answer Reply) (lane : ℕ) → IsToldIn lane (record { op = op; told = reply }) → IsDueAt due (answered.Dem reply)
  by_call op reply lane is =
      let at = due_now reply.place (entry lane op) is.stands in (at.0, at.1 ∙ ap reply_text (sym is.reply))

  by_action : (action : Action) (reply : Answer Reply) (calls : List DemCall) (jobs : List (mixing.Call QueueOp QueueReply)) → ActionMakes action (answered.Dem reply) calls
      → Each IsToldSomewhere calls → ActionQueues action (answered.Dem reply) jobs → IsDueAt due (answered.Dem reply)
  by_action (Call op) reply calls jobs made each queues =
      let same : reply ≡ made.0 = cc made.1 in
      let one = subst (Each IsToldSomewhere) made.2 each in
      subst (λ (r : Answer Reply). IsDueAt due (answered.Dem r)) (sym same) (by_call op made.0 one.0.0 one.0.1)
  by_action (Queue op) reply calls jobs made each queues = let no = queues.1 in absurd cc
  by_action Save reply calls jobs made each queues = absurd made
  by_action Drain reply calls jobs made each queues = absurd queues
  by_action (Get block) reply calls jobs made each queues = absurd made.0
  by_action (Arm arm) reply calls jobs made each queues = let no = made.0 in absurd cc

  abbrev MadeTold : Step → Told → Type 0
  MadeTold step told = (calls : List DemCall) × StepMakes step told calls × Each IsToldSomewhere calls

  abbrev QueuesSome : Step → Told → Type 0
  QueuesSome step told = (jobs : List (mixing.Call QueueOp QueueReply)) × StepQueues step told jobs

  one_due : (step : Step) (told : Told) → MadeTold step told → QueuesSome step told → IsDueAt due told
  one_due step (answered.Dem reply) made queues = by_action (action_of step) reply made.0 queues.0 made.1 made.2 queues.1
  one_due step (answered.Saved number) made queues = tt
  one_due step (answered.SaveFailed fault) made queues = tt
  one_due step (answered.Queue told) made queues = tt
  one_due step (answered.Drained written failed) made queues = tt
  one_due step (answered.Bytes bytes) made queues = tt
  one_due step answered.NoBlock made queues = tt
  one_due step answered.BlockFlash made queues = tt
  one_due step answered.Armed made queues = tt
  one_due step answered.Dark made queues = tt

  any_call : {O R : Type 0} (blocks : List (Block O R)) → Each (EachCall (λ (call : mixing.Call O R). Unit {0})) blocks
  any_call blocks = every blocks (λ lanes. every lanes (λ lane. every lane.1 (λ call. tt)))
    where
      every : {A : Type 0} {P : A → Type 0} (xs : List A) → ((x : A) → P x) → Each P xs
      every [] is = tt
      every (x ∷ xs) is = (is x, every xs is)

  all_due : Each (IsDueAt due) own × Each (Each (IsDueAt due)) lanes
  all_due =
      parts_give MadeTold QueuesSome (IsDueAt due) one_due parts own lanes
      (parts_paired StepMakes IsToldSomewhere MadeTold (λ step told calls makes each. (calls, makes, each)) 1 parts own lanes life.is.dem.blocks life.is.dem.made told_somewhere)
      (parts_paired StepQueues (λ call. Unit {0}) QueuesSome (λ step told jobs makes each. (jobs, makes)) 1 parts own lanes life.is.jobs.blocks life.is.jobs.made (any_call life.is.jobs.blocks))

  -- ---- each place of the journal

  stand_in : (n : ℕ) (calls : List DemCall) → Each (IsToldIn n) calls → StandIn n 0 journal calls
  stand_in n [] each = tt
  stand_in n (call ∷ calls) each = (record { behind = call.told.place; place = omega arith; there = each.0.stands }, stand_in n calls each.1)

  abbrev IsMade′ : DemCall → Type 0
  IsMade′ = IsMadeAt start.config life.events (HasToldPlace start.config life.events own lanes)

  call_at : (place : ℕ) (e : Entry Op) → slice_get journal place ≡ Some e → (call : DemCall) × (call.told.place ≡ place) × (IsToldIn e.lane call × IsMade′ call)
  call_at place e is =
      let blocks = life.is.dem.blocks in
      let calls = calls_in_lane e.lane blocks in
      let told = in_blocks IsToldIn e.lane blocks told_in_lanes in
      let made = in_blocks (λ n. IsMade′) e.lane blocks (by_parts start.config life.events 1 parts own lanes blocks life.within life.is.dem.made) in
      let tells : Tell place calls =
      subst (λ p. Tell p calls) (let zero : 0 + place ≡ place = omega arith in zero)
      (covered e.lane 0 journal calls (life.is.dem.rising e.lane) (stand_in e.lane calls told) (follows_many e.lane blocks journal life.is.dem.in_order) place e.op is) in
      found (λ call. IsToldIn e.lane call × IsMade′ call) place calls (each_both (IsToldIn e.lane) IsMade′ calls told made) tells

  op_is : (place : ℕ) (e : Entry Op) (call : DemCall) → slice_get journal place ≡ Some e → call.told.place ≡ place → IsToldIn e.lane call → call.op ≡ e.op
  op_is place e call is at told =
      let both : Some (entry e.lane call.op) ≡ Some e = sym told.stands ∙ ap (slice_get journal) at ∙ is in
      let same : entry e.lane call.op ≡ e = cc in
      ap (λ (x : Entry Op). x.op) same

  can_be : (call : DemCall) → IsMade′ call → CanBeMade start.config call.op
  can_be call (inl save) = inl save
  can_be call (inr step) = inr step.0

  one_can_be : (place : ℕ) (e : Entry Op) → slice_get journal place ≡ Some e → CanBeMade start.config e.op
  one_can_be place e is =
      let at = call_at place e is in
      subst (CanBeMade start.config) (op_is place e at.0 is at.1 at.2.0) (can_be at.0 at.2.1)

  pub calls_can_be : All (CanBeMade start.config) (ops_of journal)
  calls_can_be = λ place d within.
      let at = some_at journal place (omega (arith, within, length-map journal (λ (e : Entry Op). e.op))) in
      subst (CanBeMade start.config) (sym (at.2 d)) (one_can_be place at.0 at.1)

  abbrev IsRightOrTold : ℕ → Type 0
  IsRightOrTold place = (get_or (replicate (length journal) taken_text) place [] ≡ get_or due place []) ⊎ HavePlace place (own ∷ lanes)

  by_made : (place : ℕ) (e : Entry Op) (call : DemCall) → slice_get journal place ≡ Some e → place < length journal → call.told.place ≡ place → call.op ≡ e.op → IsMade′ call → IsRightOrTold place
  by_made place e call is within at op (inl save) =
      let first = due_now place e is in
      let taken = save_taken start (reverse (ops_before place journal)) e.op (subst IsSaveCall op save) in
      inl (get_or-replicate (length journal) place taken_text [] within ∙ sym (first.1 ∙ taken))
  by_made place e call is within at op (inr step) = inr (subst (λ p. HavePlace p (own ∷ lanes)) at step.1)

  right_or_told : (place : ℕ) → place < length due → IsRightOrTold place
  right_or_told place within =
      let size = due_length start [] journal in
      let inside : place < length journal = omega (arith, within, size) in
      let at = some_at journal place inside in
      let call = call_at place at.0 at.1 in
      by_made place at.0 call.0 at.1 inside call.1 (op_is place at.0 call.0 at.1 call.1 call.2.0) call.2.1

  pub answers_are_due : with_lanes (replicate (length journal) taken_text) (own ∷ lanes) ≡ due
  answers_are_due =
      let size = due_length start [] journal in
      let each = all_due in
      filled due (replicate (length journal) taken_text) (own ∷ lanes) (length-replicate (length journal) taken_text ∙ sym size) (each.0, each.1) right_or_told

pub told_answers_are_due : ToldAnswersAreDue
told_answers_are_due start parts own lanes journal queue life = answers_are_due start parts own lanes journal queue life

pub calls_can_be_made : CallsCanBeMade
calls_can_be_made start parts own lanes journal queue life = calls_can_be start parts own lanes journal queue life
