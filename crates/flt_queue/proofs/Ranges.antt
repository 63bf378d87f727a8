-- The jobs in answers are jobs for the queue's blocks.
use Rattle.std.proofs.Common.{◌≡◌, ℕ, ◌<◌, ◌-◌, nat_lt, Bool, true, false, refl, length, All, [], ◌∷◌, List, reverse, arith, Result, Ok, Err, IfOk}
use Rattle.std.proofs.lemmas.Bool.{cond_both}
use Rattle.std.proofs.lemmas.List.{length-reverse, get_or-reverse}
use Rattle.std.proofs.lemmas.List.Elements.{All-nil, All-cons, All-head, All-tail, All-push, All-take, All-map}
use Rattle.flt_queue.specs.declared.job.Job.{Job}
use Rattle.flt_queue.specs.declared.job.QueueOp.{QueueOp}
use Rattle.flt_queue.specs.declared.job.QueueOp.TheVariants as ops
use Rattle.flt_queue.specs.Reply.{QueueKind, QueueReply, job_reply_with}
use Rattle.flt_queue.specs.Queue.{History, Posted, posted, IsJob, IsQueueCallFor, IsFor, waiting, pending, some_urgent, earliest, without_earliest, handed_out}
use Rattle.flt_queue.specs.Call.{Seat, IsCall, whole}
use Rattle.flt_turn.specs.Call.{past}
use Rattle.flt_turn.specs.declared.answer.Answer.{Answer}
use Rattle.flt_turn.specs.declared.answer.HistoryFull.{HistoryFull}
use Rattle.flt_turn.specs.Seats.{ops_before}
use Rattle.flt_queue.proofs.Steps.{with_post}

abbrev IsPost : ℕ → Posted → Type 0
IsPost blocks post = IsJob blocks post.job

without_all : (P : Posted → Type 0) (kind : Bool) (posts : List Posted) → All P posts → All P (without_earliest kind posts)
without_all P true [] all = All-nil P
without_all P false [] all = All-nil P
without_all P true (post ∷ posts) all =
    let rest = All-tail P post posts all in
    cond_both post.urgent posts (post ∷ without_earliest true posts) (All P) (λ _. rest) (λ _. All-cons P post (without_earliest true posts) (All-head P post posts all) (without_all P true posts rest))
without_all P false (post ∷ posts) all =
    let rest = All-tail P post posts all in
    cond_both post.urgent (post ∷ without_earliest false posts) posts (All P) (λ _. All-cons P post (without_earliest false posts) (All-head P post posts all) (without_all P false posts rest)) (λ _. rest)

earliest_at : (blocks : ℕ) (kind : Bool) (post : Posted) (posts : List Posted) (e : Bool) → post.urgent ≡ e → All (IsPost blocks) (post ∷ posts) → IsFor blocks (handed_out (earliest kind posts))
    → IsFor blocks (handed_out (earliest kind (post ∷ posts)))
earliest_at blocks true post posts true is all rest = rw is (All-head (IsPost blocks) post posts all)
earliest_at blocks true post posts false is all rest = rw is rest
earliest_at blocks false post posts true is all rest = rw is rest
earliest_at blocks false post posts false is all rest = rw is (All-head (IsPost blocks) post posts all)

earliest_for : (blocks : ℕ) (kind : Bool) (posts : List Posted) → All (IsPost blocks) posts → IsFor blocks (handed_out (earliest kind posts))
earliest_for blocks true [] all = tt
earliest_for blocks false [] all = tt
earliest_for blocks kind (post ∷ posts) all = earliest_at blocks kind post posts post.urgent refl all (earliest_for blocks kind posts (All-tail (IsPost blocks) post posts all))

waiting_for : (blocks : ℕ) (calls : History) → All (IsQueueCallFor blocks) calls → All (IsPost blocks) (waiting calls)
unfolding waiting
waiting_for blocks [] all = All-nil (IsPost blocks)
waiting_for blocks (ops.Post urgent job ∷ calls) all =
    let before = waiting_for blocks calls (All-tail (IsQueueCallFor blocks) (ops.Post urgent job) calls all) in
    with_post (All (IsPost blocks)) urgent job calls (pending job.block calls) (nat_lt (length (waiting calls)) 32) refl refl before
    (λ _. All-push (IsPost blocks) (waiting calls) (posted urgent job) before (All-head (IsQueueCallFor blocks) (ops.Post urgent job) calls all))
waiting_for blocks (ops.Take ∷ calls) all = without_all (IsPost blocks) (some_urgent (waiting calls)) (waiting calls) (waiting_for blocks calls (All-tail (IsQueueCallFor blocks) ops.Take calls all))
waiting_for blocks (ops.Done block written ∷ calls) all = waiting_for blocks calls (All-tail (IsQueueCallFor blocks) (ops.Done block written) calls all)
waiting_for blocks (ops.Ask block ∷ calls) all = waiting_for blocks calls (All-tail (IsQueueCallFor blocks) (ops.Ask block) calls all)

reverse_all : {X : Type 0} (P : X → Type 0) (xs : List X) → All P xs → All P (reverse xs)
reverse_all P xs all = λ k d lt.
    let within : k < length xs = rw (length-reverse xs) at lt in
    rw (get_or-reverse xs k d within) (all (length xs - 1 - k) d (omega (arith, within)))

-- What a call of a lock that takes a job is answered.
taken_for : (before after : Seat) (told : Answer QueueReply) → IsCall before after ops.Take told → IsFor before.start told.reply
taken_for before after told call =
    let ops_all : All (IsQueueCallFor before.start) (ops_before told.place after.seen) = All-map (IsQueueCallFor before.start) (λ entry. entry.op) _ (All-take (λ entry. IsQueueCallFor before.start entry.op) told.place after.seen call.admitted) in
    let calls_all : All (IsQueueCallFor before.start) (past told.place after.seen) = reverse_all (IsQueueCallFor before.start) (ops_before told.place after.seen) ops_all in
    rw call.reply (earliest_for before.start (some_urgent (waiting (past told.place after.seen))) (waiting (past told.place after.seen)) (waiting_for before.start (past told.place after.seen) calls_all))

pub take_for : (before after : Seat) (told : Result (Answer QueueReply) (HistoryFull QueueOp)) → IfOk told (IsCall before after ops.Take) → IfOk told (λ told. IsFor before.start told.reply)
take_for before after (Ok told) call = taken_for before after told call
take_for before after (Err full) call = tt

pub take_into_for : (before after : Seat) (job : Job) (told : Result (Answer QueueKind) (HistoryFull QueueOp)) → IfOk told (λ told. IsCall before after ops.Take (whole told job)) → IfOk told (λ told. IsFor before.start (job_reply_with told.reply job))
take_into_for before after job (Ok told) call = taken_for before after (whole told job) call
take_into_for before after job (Err full) call = tt
