-- What a refused call changes.
use Rattle.std.proofs.Common.{rules, ◌≡◌, ℕ, ◌≤◌, nat_lt, nat_eq, Bool, true, false, refl, sym, length, arith, [], ◌∷◌, List}
use Rattle.std.proofs.lemmas.Bool.{cond_both}
use Rattle.std.proofs.lemmas.List.{length-append, nil_from_length}
use Rattle.flt_queue.specs.declared.job.Job.{Job}
use Rattle.flt_queue.specs.declared.job.QueueOp.TheVariants as ops
use Rattle.flt_queue.specs.Queue.{History, Posted, posted, waiting, pending, taken, some_urgent, without_earliest, next_of, answer_q, handed_out}
use Rattle.flt_queue.specs.Stands.{jobs}
use Rattle.flt_queue.specs.Laws.{is_call_refused, IsSame, RefusedChangesNothing, FewWait}
use Rattle.flt_queue.proofs.Steps.{HandsOut, hands_out, some_waits, none_waits, as_many, with_post, is_accepted, idle_at, refused_at, idle_take_at}

post_same : (urgent : Bool) (job : Job) (past : History) → is_accepted past job.block ≡ false → IsSame past (ops.Post urgent job ∷ past)
unfolding waiting
post_same urgent job past refused = record { waiting = rw refused refl; blocks = λ block. sym (refused_at urgent job block past (nat_eq job.block block) refl refused) }

posts : (urgent : Bool) (job : Job) (past : History) (busy room : Bool) → pending job.block past ≡ busy → nat_lt (length (waiting past)) 32 ≡ room
    → is_call_refused (answer_q past (ops.Post urgent job)) ≡ true → IsSame past (ops.Post urgent job ∷ past)
posts urgent job past true room is_busy is_room told = post_same urgent job past (rw is_busy refl)
posts urgent job past false false is_busy is_room told = post_same urgent job past (rw (is_busy, is_room) refl)
posts urgent job past false true is_busy is_room told =
    let never = rw (is_busy, is_room) at told in
    absurd (search rules)

none_at : (posts : List Posted) (us ss : List Job) → jobs true posts ≡ us → jobs false posts ≡ ss → is_call_refused (handed_out (next_of posts)) ≡ true → posts ≡ []
none_at posts (job ∷ us) ss are others told =
    let h : HandsOut true posts job us = hands_out true posts job us are in
    let never = rw (some_waits posts job us are, h.first) at told in
    absurd (search rules)
none_at posts [] (job ∷ ss) none are told =
    let h : HandsOut false posts job ss = hands_out false posts job ss are in
    let never = rw (none_waits posts none, h.first) at told in
    absurd (search rules)
none_at posts [] [] none nothing told =
    let count = as_many posts in
    let many : length posts ≡ 0 = grind (arith, count, none, nothing) in
    nil_from_length posts many

takes : (past : History) → waiting past ≡ [] → IsSame past (ops.Take ∷ past)
unfolding waiting
takes past none = record { waiting = rw none refl; blocks = λ block. sym (idle_take_at block past none) }

dones : (done : ℕ) (written : Bool) (past : History) (was_taken : Bool) → taken done past ≡ was_taken → is_call_refused (answer_q past (ops.Done done written)) ≡ true → IsSame past (ops.Done done written ∷ past)
unfolding waiting
dones done written past true is told =
    let never = rw is at told in
    absurd (search rules)
dones done written past false is told = record { waiting = refl; blocks = λ block. sym (idle_at done block written past (nat_eq done block) refl is) }

pub refused_changes_nothing : RefusedChangesNothing
refused_changes_nothing past (ops.Post urgent job) told = posts urgent job past (pending job.block past) (nat_lt (length (waiting past)) 32) refl refl told
refused_changes_nothing past ops.Take told = takes past (none_at (waiting past) (jobs true (waiting past)) (jobs false (waiting past)) refl refl told)
refused_changes_nothing past (ops.Done block written) told = dones block written past (taken block past) refl told
refused_changes_nothing past (ops.Ask block) told = absurd (search rules)

few_left : (kind : Bool) (posts : List Posted) → length (without_earliest kind posts) ≤ length posts
few_left true [] = omega arith
few_left false [] = omega arith
few_left true (post ∷ posts) = cond_both post.urgent posts (post ∷ without_earliest true posts) (λ l. length l ≤ length (post ∷ posts)) (λ _. omega arith) (λ _. omega (arith, few_left true posts))
few_left false (post ∷ posts) = cond_both post.urgent (post ∷ without_earliest false posts) posts (λ l. length l ≤ length (post ∷ posts)) (λ _. omega (arith, few_left false posts)) (λ _. omega arith)

pub few_wait : FewWait
unfolding waiting
few_wait [] = omega arith
few_wait (ops.Post urgent job ∷ past) =
    with_post (λ l. length l ≤ 32) urgent job past (pending job.block past) (nat_lt (length (waiting past)) 32) refl refl (few_wait past)
    (λ less. omega (arith, less, length-append (waiting past) (posted urgent job ∷ [])))
few_wait (ops.Take ∷ past) = omega (arith, few_wait past, few_left (some_urgent (waiting past)) (waiting past))
few_wait (ops.Done done written ∷ past) = few_wait past
few_wait (ops.Ask block ∷ past) = few_wait past
