-- A life that a session lived, as a run plays it.
use Rattle.std.proofs.Common.{◌≡◌, ◌∙◌, inl, inr, ℕ, ◌+◌, not, List, [], ◌∷◌, ◌++◌, length, map, reverse, refl, ap, sym, subst, arith}
use Rattle.std.specs.Prelude.{sum_by}
use Rattle.std.proofs.lemmas.List.{append-nil, append_assoc, map-append, reverse-append, reverse-reverse}
use Rattle.std.proofs.lemmas.List.Sums.{sum_by-cons}
use Rattle.flt_config.specs.declared.config.Config.{Config}
use Rattle.flt_turn.specs.declared.answer.Answer.{Answer}
use Rattle.flt_turn.specs.declared.vault.Entry.{Entry}
use Rattle.flt_turn.specs.Journal.{entry, ops_of}
use Rattle.flt_turn.specs.Sums.{one_if}
use Rattle.flt_fork.specs.Mixing.{Call}
use Rattle.flt_model.specs.Start.{Start}
use Rattle.flt_model.specs.Answer.{answer}
use Rattle.flt_model.specs.declared.call.Op.{Op}
use Rattle.flt_model.specs.declared.call.Op.TheVariants as ops
use Rattle.flt_queue.specs.Call as queued
use Rattle.flt_queue.specs.Queue.{History, answer_q, handed_out}
use Rattle.flt_queue.specs.declared.job.QueueOp.{QueueOp}
use Rattle.flt_queue.specs.declared.job.QueueOp.TheVariants as queue
use Rattle.flt_queue.specs.Reply.{QueueReply}
use Rattle.flt_queue.specs.declared.job.QueueReplyOf.TheVariants as replies
use Rattle.flt_life_model.specs.declared.action.Action.{Action}
use Rattle.flt_life_model.specs.declared.action.Action.TheVariants as actions
use Rattle.flt_life_model.specs.declared.answer.StepAnswer.TheVariants as answers
use Rattle.flt_life_model.specs.declared.life.Boot.{Boot}
use Rattle.flt_life_model.specs.declared.life.Boot.TheVariants as boots
use Rattle.flt_life_model.specs.Actions.{action_of}
use Rattle.flt_life_model.specs.Answers.{Told}
use Rattle.flt_life_model.specs.Chain.{LifeView, start_from}
use Rattle.flt_life_model.specs.Draining.{Drained, IsLastTake, QueueCall, calls_for_all, take_at}
use Rattle.flt_life_model.specs.Journal.{Journal}
use Rattle.flt_life_model.specs.Played.{ActionMakes, ActionQueues, IsLife, reply_after}
use Rattle.flt_lives.specs.Carried.{with_calls}
use Rattle.flt_lives.specs.Draining.{AreTaken, Drains, IsDrained, TakenJob, behind_jobs, failed_in, written_in}
use Rattle.flt_lives.proofs.Playing.{calls_at, life_with, no_parts, reverse_map}
use Rattle.flt_live.specs.Heard.{Talk}
use Rattle.flt_live.specs.Laws.{IsPlayedInPlaces, without_place}
use Rattle.flt_live.specs.Made.{AreAnswered, IsAnswered, Made, journal_of}
use Rattle.flt_live.specs.Span.{IsWholeLife, LifeSpan, WentOn}
use Rattle.flt_live.specs.declared.living.LifeEnd.{LifeEnd}

-- ---- a journal, the oldest first, by its calls, the newest first

module _ {O : Type 0} where
  abbrev entries : List O → List (Entry O)
  entries calls = map (λ op. entry 0 op) calls

  abbrev so_far : List O → List (Entry O)
  so_far past = reverse (entries past)

  ops_in : (past : List O) → ops_of (entries past) ≡ past
  ops_in [] = refl
  ops_in (op ∷ past) = ap (λ l. op ∷ l) (ops_in past)

  -- The calls of a journal, the newest first.
  past_in : (journal : List (Entry O)) → reverse (ops_of (reverse journal)) ≡ ops_of journal
  past_in journal = ap reverse (reverse_map (λ (e : Entry O). e.op) journal) ∙ reverse-reverse (ops_of journal)

  past_is : (past : List O) → reverse (ops_of (so_far past)) ≡ past
  past_is past = past_in (entries past) ∙ ops_in past

-- ---- the jobs of a drain

module _ (blocks : ℕ) where
  abbrev queue_calls : List (Entry QueueOp) → List QueueOp → List QueueCall
  queue_calls journal ops = calls_at queued.reply_after blocks journal ops

  -- What the queue answers to a take after these calls.
  take_answered : (past : History) (next : QueueReply) → answer_q past queue.Take ≡ next
      → queue_calls (so_far past) (queue.Take ∷ []) ≡ take_at (length (so_far past)) next ∷ []
  take_answered past next is = ap (λ reply. take_at (length (so_far past)) reply ∷ []) (ap (λ p. answer_q p queue.Take) (past_is past) ∙ is)

  -- The calls of these jobs, and those after them.
  record DrainsFrom (before : History) (taken : List TakenJob) (behind : List QueueOp) (later : List Drained) (last : List QueueCall) : Type 0 where
    made : List QueueOp
    drained : List Drained
    calls : queue_calls (so_far before) made ≡ calls_for_all drained ++ last
    adds : so_far before ++ entries made ≡ so_far (behind_jobs before taken) ++ entries behind
    many : length drained ≡ length taken + length later
    written : sum_by (λ (d : Drained). one_if d.written) drained ≡ written_in taken + sum_by (λ (d : Drained). one_if d.written) later
    failed : sum_by (λ (d : Drained). one_if (not d.written)) drained ≡ failed_in taken + sum_by (λ (d : Drained). one_if (not d.written)) later

  drains_from : (before : History) (taken : List TakenJob) (behind : List QueueOp) (later : List Drained) (last : List QueueCall) → AreTaken before taken
      → queue_calls (so_far (behind_jobs before taken)) behind ≡ calls_for_all later ++ last → DrainsFrom before taken behind later last
  drains_from before [] behind later last are calls =
      record { made = behind; drained = later; calls = calls; adds = refl; many = omega arith; written = omega arith; failed = omega arith }
  drains_from before (job ∷ earlier) behind later last are calls =
      let past = behind_jobs before earlier in
      let front = so_far past in
      let take = entry 0 queue.Take in
      let done = entry 0 (queue.Done job.0.block job.1) in
      let grows : so_far (behind_jobs before (job ∷ earlier)) ≡ front ++ take ∷ done ∷ [] = reverse-append (done ∷ take ∷ []) (entries past) in
      let reply : answer_q (reverse (ops_of front)) queue.Take ≡ replies.Job job.0 = ap (λ p. answer_q p queue.Take) (past_is past) ∙ ap handed_out are.0 in
      let noted : Answer QueueReply = record { place = length (front ++ take ∷ []); reply = queued.reply_after blocks (ops_of (front ++ take ∷ [])) (queue.Done job.0.block job.1) } in
      let one : Drained = record { place = length front; job = job.0; written = job.1; noted = noted } in
      let rest : queue_calls ((front ++ take ∷ []) ++ done ∷ []) behind ≡ calls_for_all later ++ last =
      ap (λ j. queue_calls j behind) (append_assoc front (take ∷ []) (done ∷ []) ∙ sym grows) ∙ calls in
      let more : DrainsFrom before earlier (queue.Take ∷ queue.Done job.0.block job.1 ∷ behind) (one ∷ later) last =
      drains_from before earlier (queue.Take ∷ queue.Done job.0.block job.1 ∷ behind) (one ∷ later) last are.1
      (λ i. take_at (length front) (reply i) ∷ record { op = queue.Done job.0.block job.1; told = noted } ∷ rest i) in
      let many = more.many in
      let written = more.written in
      let failed = more.failed in
      let written_here = sum_by-cons (λ (d : TakenJob). one_if d.1) job earlier in
      let written_there = sum_by-cons (λ (d : Drained). one_if d.written) one later in
      let failed_here = sum_by-cons (λ (d : TakenJob). one_if (not d.1)) job earlier in
      let failed_there = sum_by-cons (λ (d : Drained). one_if (not d.written)) one later in
      record {
        made = more.made;
        drained = more.drained;
        calls = more.calls;
        adds = more.adds ∙ sym (append_assoc front (take ∷ done ∷ []) (entries behind)) ∙ ap (λ l. l ++ entries behind) (sym grows);
        many = omega (arith, many);
        written = omega (arith, written, written_here, written_there);
        failed = omega (arith, failed, failed_here, failed_there);
      }

-- ---- a step, with its answer at its place

module _ (start : Start) (journal : Journal) (before : History) where
  abbrev blocks : ℕ
  blocks = start.config.blocks

  record IsPlaced (action : Action) (told : Told) (after : History) : Type 0 where
    placed : Told
    same : without_place placed ≡ without_place told
    calls : List Op
    makes : ActionMakes action placed (calls_at reply_after start (reverse journal) calls)
    journal_is : reverse (with_calls action told journal) ≡ reverse journal ++ entries calls
    asked : List QueueOp
    queues : ActionQueues action placed (queue_calls blocks (so_far before) asked)
    queue_is : so_far after ≡ so_far before ++ entries asked

  no_more : {X : Type 0} (xs : List X) → xs ≡ xs ++ []
  no_more xs = sym (append-nil xs)

  still : (after : History) → after ≡ before → so_far after ≡ so_far before ++ []
  still after same = ap so_far same ∙ no_more (so_far before)

  -- A drain with these jobs, and this last take.
  drained : (written failed : ℕ) (after : History) (taken : List TakenJob) (behind : List QueueOp) (last : List QueueCall) → AreTaken before taken → written ≡ written_in taken → failed ≡ failed_in taken
      → IsLastTake (length taken) last → queue_calls blocks (so_far (behind_jobs before taken)) behind ≡ last → so_far after ≡ so_far (behind_jobs before taken) ++ entries behind
      → IsPlaced actions.Drain (answers.Drained written failed) after
  drained written failed after taken behind last are written_is failed_is ended calls adds =
      let drains = drains_from blocks before taken behind [] last are calls in
      let many = drains.many in
      let all_written = drains.written in
      let all_failed = drains.failed in
      record {
        placed = answers.Drained written failed;
        same = refl;
        calls = [];
        makes = refl;
        journal_is = no_more (reverse journal);
        asked = drains.made;
        queues = record {
          jobs = drains.drained;
          last = last;
          ended = subst (λ n. IsLastTake n last) (omega (arith, many)) ended;
          calls_are = drains.calls;
          written_is = omega (arith, written_is, all_written);
          failed_is = omega (arith, failed_is, all_failed);
        };
        queue_is = adds ∙ sym drains.adds;
      }

  drain_placed : (written failed : ℕ) (after : History) → Drains before written failed after → IsPlaced actions.Drain (answers.Drained written failed) after
  drain_placed written failed after drains = by_end drains.ended
    where
      past : History
      past = behind_jobs before drains.jobs

      by_end : IsDrained before drains.jobs after → IsPlaced actions.Drain (answers.Drained written failed) after
      by_end (inl ended) = drained written failed after drains.jobs [] [] drains.taken drains.written_is drains.failed_is ended.0 refl
          (ap so_far ended.1 ∙ no_more (so_far (behind_jobs before drains.jobs)))
      by_end (inr ended) = drained written failed after drains.jobs (queue.Take ∷ []) (take_at (length (so_far (behind_jobs before drains.jobs))) replies.NoJob ∷ []) drains.taken drains.written_is drains.failed_is
          (ended.0, (length (so_far (behind_jobs before drains.jobs)), refl), refl)
          (take_answered blocks (behind_jobs before drains.jobs) replies.NoJob (ap handed_out ended.1))
          (ap so_far ended.2 ∙ reverse-append (entry 0 queue.Take ∷ []) (entries (behind_jobs before drains.jobs)))

  placed_by : (action : Action) (told : Told) (after : History) → IsAnswered start journal before action told after → IsPlaced action told after
  placed_by (actions.Call op) (answers.Dem told) after is = record {
    placed = answers.Dem (record { place = length (reverse journal); reply = reply_after start (ops_of (reverse journal)) op });
    same = ap (λ reply. answers.Dem (record { place = 0; reply = reply })) (ap (λ p. answer start p op) (past_in journal) ∙ sym is.0);
    calls = op ∷ [];
    makes = (_, refl, refl);
    journal_is = reverse-append (entry 0 op ∷ []) journal;
    asked = [];
    queues = refl;
    queue_is = still after is.1;
  }
  placed_by (actions.Call op) (answers.Queue told) after is = absurd is.0
  placed_by (actions.Call op) (answers.Saved number) after is = absurd is.0
  placed_by (actions.Call op) (answers.SaveFailed fault) after is = absurd is.0
  placed_by (actions.Call op) (answers.Drained done failed) after is = absurd is.0
  placed_by (actions.Call op) (answers.Bytes found) after is = absurd is.0
  placed_by (actions.Call op) answers.NoBlock after is = absurd is.0
  placed_by (actions.Call op) answers.BlockFlash after is = absurd is.0
  placed_by (actions.Call op) answers.Armed after is = absurd is.0
  placed_by (actions.Call op) answers.Dark after is = absurd is.0
  placed_by (actions.Queue op) (answers.Queue told) after is = record {
    placed = answers.Queue (record { place = length (so_far before); reply = queued.reply_after blocks (ops_of (so_far before)) op });
    same = ap (λ reply. answers.Queue (record { place = 0; reply = reply })) (ap (λ p. answer_q p op) (past_is before) ∙ sym is.0);
    calls = [];
    makes = refl;
    journal_is = no_more (reverse journal);
    asked = op ∷ [];
    queues = (_, refl, refl);
    queue_is = ap so_far is.1 ∙ reverse-append (entry 0 op ∷ []) (entries before);
  }
  placed_by (actions.Queue op) (answers.Dem told) after is = absurd is.0
  placed_by (actions.Queue op) (answers.Saved number) after is = absurd is.0
  placed_by (actions.Queue op) (answers.SaveFailed fault) after is = absurd is.0
  placed_by (actions.Queue op) (answers.Drained done failed) after is = absurd is.0
  placed_by (actions.Queue op) (answers.Bytes found) after is = absurd is.0
  placed_by (actions.Queue op) answers.NoBlock after is = absurd is.0
  placed_by (actions.Queue op) answers.BlockFlash after is = absurd is.0
  placed_by (actions.Queue op) answers.Armed after is = absurd is.0
  placed_by (actions.Queue op) answers.Dark after is = absurd is.0
  placed_by actions.Save (answers.Saved number) after is = record {
    placed = answers.Saved number;
    same = refl;
    calls = ops.Snapshot ∷ ops.Saved number ∷ [];
    makes = (_, _, refl);
    journal_is = reverse-append (entry 0 (ops.Saved number) ∷ entry 0 ops.Snapshot ∷ []) journal;
    asked = [];
    queues = refl;
    queue_is = still after is.1;
  }
  placed_by actions.Save (answers.SaveFailed fault) after is = record {
    placed = answers.SaveFailed fault;
    same = refl;
    calls = ops.Snapshot ∷ [];
    makes = (_, refl);
    journal_is = reverse-append (entry 0 ops.Snapshot ∷ []) journal;
    asked = [];
    queues = refl;
    queue_is = still after is.1;
  }
  placed_by actions.Save (answers.Dem told) after is = absurd is.0
  placed_by actions.Save (answers.Queue told) after is = absurd is.0
  placed_by actions.Save (answers.Drained done failed) after is = absurd is.0
  placed_by actions.Save (answers.Bytes found) after is = absurd is.0
  placed_by actions.Save answers.NoBlock after is = absurd is.0
  placed_by actions.Save answers.BlockFlash after is = absurd is.0
  placed_by actions.Save answers.Armed after is = absurd is.0
  placed_by actions.Save answers.Dark after is = absurd is.0
  placed_by actions.Drain (answers.Drained written failed) after is = drain_placed written failed after is
  placed_by actions.Drain (answers.Dem told) after is = absurd is
  placed_by actions.Drain (answers.Queue told) after is = absurd is
  placed_by actions.Drain (answers.Saved number) after is = absurd is
  placed_by actions.Drain (answers.SaveFailed fault) after is = absurd is
  placed_by actions.Drain (answers.Bytes found) after is = absurd is
  placed_by actions.Drain answers.NoBlock after is = absurd is
  placed_by actions.Drain answers.BlockFlash after is = absurd is
  placed_by actions.Drain answers.Armed after is = absurd is
  placed_by actions.Drain answers.Dark after is = absurd is
  placed_by (actions.Get block) told after is = record {
    placed = told;
    same = refl;
    calls = [];
    makes = (is.0, refl);
    journal_is = no_more (reverse journal);
    asked = [];
    queues = refl;
    queue_is = still after is.1;
  }
  placed_by (actions.Arm arm) told after is = absurd is

-- ---- the steps of a life

record ArePlaced (start : Start) (made : List Made) (jobs : History) : Type 0 where
  own : List Told
  same : map without_place own ≡ map without_place (reverse (map (λ (m : Made). m.1) made))
  life : IsLife start (map inl (reverse (map (λ (m : Made). m.0) made))) own [] (reverse (journal_of made)) (so_far jobs)

are_placed : (start : Start) (made : List Made) (jobs : History) → AreAnswered start made jobs → ArePlaced start made jobs
are_placed start [] jobs none = record { own = []; same = refl; life = subst (λ l. IsLife start [] [] [] [] (so_far l)) (sym none) (no_parts start) }
are_placed start (step ∷ earlier) jobs (before, answered, is) =
    let first = are_placed start earlier before answered in
    let placed = placed_by start (journal_of earlier) before (action_of step.0) step.1 jobs is in
    let steps = map (λ (m : Made). m.0) earlier in
    let told = map (λ (m : Made). m.1) earlier in
    let own = first.own ++ placed.placed ∷ [] in
    let steps_are : map inl (reverse (step.0 ∷ steps)) ≡ map inl (reverse steps) ++ inl step.0 ∷ [] =
    ap (map inl) (reverse-append (step.0 ∷ []) steps) ∙ map-append inl (reverse steps) (step.0 ∷ []) in
    let told_is : map without_place (reverse (step.1 ∷ told)) ≡ map without_place (reverse told) ++ without_place step.1 ∷ [] =
    ap (map without_place) (reverse-append (step.1 ∷ []) told) ∙ map-append without_place (reverse told) (step.1 ∷ []) in
    record {
      own = own;
      same = map-append without_place first.own (placed.placed ∷ []) ∙ (λ i. first.same i ++ placed.same i ∷ []) ∙ sym told_is;
      life = subst (λ l. IsLife start l own [] (reverse (journal_of (step ∷ earlier))) (so_far jobs)) (sym steps_are)
          (subst (λ j. IsLife start (map inl (reverse steps) ++ inl step.0 ∷ []) own [] j (so_far jobs)) (sym placed.journal_is)
          (subst (λ q. IsLife start (map inl (reverse steps) ++ inl step.0 ∷ []) own [] (reverse (journal_of earlier) ++ entries placed.calls) q) (sym placed.queue_is)
          (life_with start (map inl (reverse steps)) first.own [] (reverse (journal_of earlier)) (so_far before) step.0 placed.placed placed.calls placed.asked first.life placed.makes placed.queues)));
    }

by_boot : (c : Config) (boot : Boot) (view : LifeView) (from after : Talk) (end : LifeEnd) → WentOn c boot view from after end → IsPlayedInPlaces c view
by_boot c (boots.Started number state) view from after end took =
    let placed = are_placed (start_from c state) took.made took.jobs took.answered in
    subst (IsPlayedInPlaces c) (sym took.view_is) (record { own = placed.own; same = placed.same; played = placed.life })
by_boot c boots.Dark view from after end took = subst (IsPlayedInPlaces c) (sym took.0) (record { own = []; same = refl; played = (refl, refl, refl, refl) })
by_boot c (boots.Refused fault) view from after end took = subst (IsPlayedInPlaces c) (sym took.0) (record { own = []; same = refl; played = (refl, refl, refl, refl) })

pub are_played : (c : Config) (life : LifeSpan) (end : LifeEnd) → IsWholeLife c life end → IsPlayedInPlaces c life.view
are_played c life end whole = by_boot c life.boot life.view whole.between life.after end whole.went_on
