-- In what order jobs are handed out.
use Rattle.std.proofs.Common.{◌≡◌, nat_lt, Bool, true, false, refl, length, append_assoc, arith, [], ◌∷◌, ◌++◌, List}
use Rattle.std.proofs.lemmas.List.{nil_from_length}
use Rattle.flt_queue.specs.declared.job.Job.{Job}
use Rattle.flt_queue.specs.declared.job.QueueOp.TheVariants as ops
use Rattle.flt_queue.specs.Queue.{History, Posted, posted, waiting, pending, some_urgent, without_earliest, next_of, handed_out}
use Rattle.flt_queue.specs.Stands.{jobs}
use Rattle.flt_queue.specs.Laws.{with_job, with_handed, accepted_jobs, handed, FirstInFirstOut}
use Rattle.flt_queue.proofs.Steps.{jobs_posted, HandsOut, hands_out, some_waits, none_waits, as_many}

-- A job moves from those that wait to those that were handed out.
moves_at : (kind : Bool) (posts : List Posted) (before us ss : List Job) → jobs true posts ≡ us → jobs false posts ≡ ss
    → with_handed kind (some_urgent posts) (handed_out (next_of posts)) before ++ jobs kind (without_earliest (some_urgent posts) posts) ≡ before ++ jobs kind posts
moves_at true posts before (job ∷ us) ss are others =
    let h : HandsOut true posts job us = hands_out true posts job us are in
    rw (some_waits posts job us are, h.first, h.same, are) (append_assoc before (job ∷ []) us)
moves_at false posts before (job ∷ us) ss are others =
    let h : HandsOut true posts job us = hands_out true posts job us are in
    rw (some_waits posts job us are, h.first, h.others) refl
moves_at true posts before [] (job ∷ ss) none are =
    let h : HandsOut false posts job ss = hands_out false posts job ss are in
    rw (none_waits posts none, h.first, h.others) refl
moves_at false posts before [] (job ∷ ss) none are =
    let h : HandsOut false posts job ss = hands_out false posts job ss are in
    rw (none_waits posts none, h.first, h.same, are) (append_assoc before (job ∷ []) ss)
moves_at kind posts before [] [] none nothing =
    let count = as_many posts in
    let many : length posts ≡ 0 = grind (arith, count, none, nothing) in
    rw (nil_from_length posts many) refl

joins : (kind urgent : Bool) (job : Job) (posts : List Posted) (before all : List Job) → all ≡ before ++ jobs kind posts
    → with_job kind urgent job all ≡ before ++ jobs kind (posts ++ posted urgent job ∷ [])
joins true true job posts before all are = rw (are, jobs_posted true true job posts) (append_assoc before (jobs true posts) (job ∷ []))
joins true false job posts before all are = rw (are, jobs_posted true false job posts) refl
joins false true job posts before all are = rw (are, jobs_posted false true job posts) refl
joins false false job posts before all are = rw (are, jobs_posted false false job posts) (append_assoc before (jobs false posts) (job ∷ []))

posts_at : (kind urgent : Bool) (job : Job) (past : History) (busy room : Bool) → pending job.block past ≡ busy → nat_lt (length (waiting past)) 32 ≡ room
    → accepted_jobs kind past ≡ handed kind past ++ jobs kind (waiting past)
    → accepted_jobs kind (ops.Post urgent job ∷ past) ≡ handed kind (ops.Post urgent job ∷ past) ++ jobs kind (waiting (ops.Post urgent job ∷ past))
unfolding waiting
posts_at kind urgent job past true room is_busy is_room before = rw is_busy before
posts_at kind urgent job past false false is_busy is_room before = rw (is_busy, is_room) before
posts_at kind urgent job past false true is_busy is_room before = rw (is_busy, is_room) (joins kind urgent job (waiting past) (handed kind past) (accepted_jobs kind past) before)

pub first_in_first_out : FirstInFirstOut
unfolding waiting
first_in_first_out true [] = refl
first_in_first_out false [] = refl
first_in_first_out kind (ops.Post urgent job ∷ past) = posts_at kind urgent job past (pending job.block past) (nat_lt (length (waiting past)) 32) refl refl (first_in_first_out kind past)
first_in_first_out kind (ops.Take ∷ past) = rw (moves_at kind (waiting past) (handed kind past) (jobs true (waiting past)) (jobs false (waiting past)) refl refl) (first_in_first_out kind past)
first_in_first_out kind (ops.Done block written ∷ past) = first_in_first_out kind past
first_in_first_out kind (ops.Ask block ∷ past) = first_in_first_out kind past
