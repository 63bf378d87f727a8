-- What is reported of a block, and how a post of it is answered.
use Rattle.std.proofs.Common.{rules, ◌≡◌, ◌≢◌, ◌∙◌, ℕ, ◌+◌, ◌<◌, ◌≤◌, if◌then◌else◌, nat_lt, nat_eq, Bool, true, false, refl, ap, sym, subst, length, arith, eqb-true, [], ◌∷◌}
use Rattle.std.proofs.lemmas.Bool.{cond_both}
use Rattle.std.proofs.lemmas.List.{length-append}
use Rattle.flt_queue.specs.declared.job.Job.{Job}
use Rattle.flt_queue.specs.declared.job.LastResult.{LastResult}
use Rattle.flt_queue.specs.declared.job.LastResult.TheVariants.{Pending}
use Rattle.flt_queue.specs.declared.job.QueueOp.TheVariants as ops
use Rattle.flt_queue.specs.declared.job.QueueReplyOf.TheVariants as replies
use Rattle.flt_queue.specs.Queue.{History, waiting, pending, taken, last_of, last_result_of, answer_q}
use Rattle.flt_queue.specs.Stands.{jobs}
use Rattle.flt_queue.specs.Laws.{accepted_jobs, handed, count_made, result_by, result_told, AskTellsLast, PostIsAnswered, PostsAreAnswered}
use Rattle.flt_queue.proofs.Orders.{first_in_first_out}
use Rattle.flt_queue.proofs.Steps.{as_many}
use Rattle.flt_queue.proofs.Refusals.{few_wait}

-- What the queue reports of a block.
abbrev tells : ℕ → History → LastResult
tells block past = if pending block past then Pending else last_of block past

post_at : (block : ℕ) (urgent : Bool) (job : Job) (past : History) (before : LastResult) (same busy room : Bool) → nat_eq job.block block ≡ same → pending job.block past ≡ busy → nat_lt (length (waiting past)) 32 ≡ room
    → tells block past ≡ before → tells block (ops.Post urgent job ∷ past) ≡ result_by block (ops.Post urgent job) (answer_q past (ops.Post urgent job)) before
unfolding pending
post_at block urgent job past before false true room is is_busy is_room was = rw (is, is_busy) was
post_at block urgent job past before false false false is is_busy is_room was = rw (is, is_busy, is_room) was
post_at block urgent job past before false false true is is_busy is_room was = rw (is, is_busy, is_room, is) was
post_at block urgent job past before true true room is is_busy is_room was = rw (is, is_busy) was
post_at block urgent job past before true false false is is_busy is_room was = rw (is, is_busy, is_room) was
post_at block urgent job past before true false true is is_busy is_room was = rw (is, is_busy, is_room, is) refl

done_here : (block : ℕ) (written : Bool) (past : History) (before : LastResult) (was_taken : Bool) → nat_eq block block ≡ true → taken block past ≡ was_taken → tells block past ≡ before
    → tells block (ops.Done block written ∷ past) ≡ result_by block (ops.Done block written) (answer_q past (ops.Done block written)) before
unfolding pending
done_here block true past before true is is_taken was = rw (is, is_taken, is) refl
done_here block false past before true is is_taken was = rw (is, is_taken, is) refl
done_here block true past before false is is_taken was = rw (is, is_taken) was
done_here block false past before false is is_taken was = rw (is, is_taken) was

done_else : (block done : ℕ) (written : Bool) (past : History) (before : LastResult) (was_taken : Bool) → nat_eq done block ≡ false → taken done past ≡ was_taken → tells block past ≡ before
    → tells block (ops.Done done written ∷ past) ≡ result_by block (ops.Done done written) (answer_q past (ops.Done done written)) before
unfolding pending
done_else block done true past before true is is_taken was = rw (is, is_taken, is) was
done_else block done false past before true is is_taken was = rw (is, is_taken, is) was
done_else block done true past before false is is_taken was = rw (is, is_taken) was
done_else block done false past before false is is_taken was = rw (is, is_taken) was

done_at : (block done : ℕ) (written : Bool) (past : History) (before : LastResult) (same : Bool) → nat_eq done block ≡ same → tells block past ≡ before
    → tells block (ops.Done done written ∷ past) ≡ result_by block (ops.Done done written) (answer_q past (ops.Done done written)) before
done_at block done written past before false is was = done_else block done written past before (taken done past) is refl was
done_at block done written past before true is was =
    let one : done ≡ block = eqb-true done block is in
    subst (λ d. tells block (ops.Done d written ∷ past) ≡ result_by block (ops.Done d written) (answer_q past (ops.Done d written)) before) (sym one)
    (done_here block written past before (taken block past) (subst (λ d. nat_eq d block ≡ true) one is) refl was)

told : (block : ℕ) (past : History) → tells block past ≡ result_told block past
unfolding pending
told block [] = refl
told block (ops.Post urgent job ∷ past) = post_at block urgent job past (result_told block past) (nat_eq job.block block) (pending job.block past) (nat_lt (length (waiting past)) 32) refl refl refl (told block past)
told block (ops.Take ∷ past) = told block past
told block (ops.Done done written ∷ past) = done_at block done written past (result_told block past) (nat_eq done block) refl (told block past)
told block (ops.Ask asked ∷ past) = told block past

pub ask_tells_last : AskTellsLast
ask_tells_last block past = ap replies.Last (told block past)

-- ---- how a post is answered

-- As many wait as were accepted and not handed out.
waits : (past : History) → count_made accepted_jobs past ≡ count_made handed past + length (waiting past)
waits past =
    let urgents = ap length (first_in_first_out true past) ∙ length-append (handed true past) (jobs true (waiting past)) in
    let standards = ap length (first_in_first_out false past) ∙ length-append (handed false past) (jobs false (waiting past)) in
    let all = as_many (waiting past) in
    omega (arith, urgents, standards, all)

-- No result that counted is that a job is pending.
result_ends : (written : Bool) → last_result_of written ≢ Pending
result_ends true = λ is. cc is
result_ends false = λ is. cc is

last_ends : (block : ℕ) (past : History) → last_of block past ≢ Pending
last_ends block [] = λ is. cc is
last_ends block (ops.Post urgent job ∷ past) = last_ends block past
last_ends block (ops.Take ∷ past) = last_ends block past
last_ends block (ops.Done done written ∷ past) =
    let before = last_ends block past in
    let ends = λ (result : LastResult). result ≢ Pending in
    let counted = cond_both (taken block past) (last_result_of written) (last_of block past) ends (λ _. result_ends written) (λ _. before) in
    cond_both (nat_eq done block) (if taken block past then last_result_of written else last_of block past) (last_of block past) ends (λ _. counted) (λ _. before)
last_ends block (ops.Ask asked ∷ past) = last_ends block past

answered : (past : History) (urgent : Bool) (job : Job) (busy room : Bool) → pending job.block past ≡ busy → nat_lt (length (waiting past)) 32 ≡ room → PostIsAnswered past urgent job
answered past urgent job true room is_busy is_room =
    let is : tells job.block past ≡ Pending = rw is_busy refl in record {
      busy = λ _. rw is_busy refl;
      full = λ other. absurd (other (sym (told job.block past) ∙ is));
      taken = λ other _. absurd (other (sym (told job.block past) ∙ is));
    }
answered past urgent job false false is_busy is_room =
    let is : tells job.block past ≡ last_of job.block past = rw is_busy refl in
    let few = few_wait past in
    let count = waits past in
    let full : 32 ≤ length (waiting past) = search rules in record {
      busy = λ waits. absurd (last_ends job.block past (sym is ∙ told job.block past ∙ waits));
      full = λ _. (λ _. omega (arith, few, count, full), λ _. rw (is_busy, is_room) refl);
      taken = λ _ less. absurd (omega (arith, less, count, full));
    }
answered past urgent job false true is_busy is_room =
    let is : tells job.block past ≡ last_of job.block past = rw is_busy refl in
    let count = waits past in
    let less : length (waiting past) < 32 = search rules in record {
      busy = λ waits. absurd (last_ends job.block past (sym is ∙ told job.block past ∙ waits));
      full = λ _. (λ refused. (let never = rw (is_busy, is_room) at refused in absurd (cc never)), λ all. absurd (omega (arith, all, count, less)));
      taken = λ _ _. rw (is_busy, is_room) refl;
    }

pub posts_are_answered : PostsAreAnswered
posts_are_answered past urgent job = answered past urgent job (pending job.block past) (nat_lt (length (waiting past)) 32) refl refl
