-- One job of a block at most waits or is taken.
use Rattle.std.proofs.Common.{rules, ◌≡◌, ℕ, ◌+◌, if◌then◌else◌, nat_lt, nat_eq, Bool, true, false, refl, length, arith, Some, None, Option, [], ◌∷◌, ◌++◌, List}
use Rattle.flt_queue.specs.declared.job.Job.{Job}
use Rattle.flt_queue.specs.declared.job.QueueOp.TheVariants as ops
use Rattle.flt_queue.specs.declared.job.QueueReplyOf.TheVariants as replies
use Rattle.flt_queue.specs.Queue.{History, Posted, posted, waiting, pending, taken, is_job_of, earliest, some_urgent, without_earliest, next_of, handed_out}
use Rattle.flt_turn.specs.Sums.{one_if}
use Rattle.flt_queue.specs.Laws.{many_of, is_due, OneOfABlock, HandedOutIsDue}

pub record Sound (block : ℕ) (past : History) : Type 0 where
  pub one : many_of block (waiting past) ≡ one_if (is_due block past)
  pub meets : taken block past ≡ true → pending block past ≡ true

many_append : (block : ℕ) (posts more : List Posted) → many_of block (posts ++ more) ≡ many_of block posts + many_of block more
many_append block [] more = omega arith
many_append block (post ∷ posts) more = omega (arith, many_append block posts more)

without_at : (block : ℕ) (kind : Bool) (post : Posted) (posts : List Posted) (e : Bool) → post.urgent ≡ e
    → many_of block (without_earliest kind posts) + one_if (is_job_of block (earliest kind posts)) ≡ many_of block posts
    → many_of block (without_earliest kind (post ∷ posts)) + one_if (is_job_of block (earliest kind (post ∷ posts))) ≡ many_of block (post ∷ posts)
without_at block true post posts true is rest = rw is (omega arith)
without_at block true post posts false is rest = rw is (omega (arith, rest))
without_at block false post posts true is rest = rw is (omega (arith, rest))
without_at block false post posts false is rest = rw is (omega arith)

many_without : (block : ℕ) (kind : Bool) (posts : List Posted) → many_of block (without_earliest kind posts) + one_if (is_job_of block (earliest kind posts)) ≡ many_of block posts
many_without block true [] = refl
many_without block false [] = refl
many_without block kind (post ∷ posts) = without_at block kind post posts post.urgent refl (many_without block kind posts)

refuses : (block : ℕ) (urgent : Bool) (job : Job) (past : History) (same : Bool) → nat_eq job.block block ≡ same → (if pending job.block past then false else nat_lt (length (waiting past)) 32) ≡ false
    → Sound block past → Sound block (ops.Post urgent job ∷ past)
unfolding waiting pending taken
refuses block urgent job past true is refused before = record { one = rw (refused, is) before.one; meets = rw (is, refused) before.meets }
refuses block urgent job past false is refused before = record { one = rw (refused, is) before.one; meets = rw is before.meets }

accepts : (block : ℕ) (urgent : Bool) (job : Job) (past : History) (same was_taken : Bool) → nat_eq job.block block ≡ same → taken block past ≡ was_taken → pending job.block past ≡ false → nat_lt (length (waiting past)) 32 ≡ true
    → Sound block past → Sound block (ops.Post urgent job ∷ past)
unfolding waiting pending taken
accepts block urgent job past true true is is_taken free room before =
    let busy : pending block past ≡ true = before.meets is_taken in
    absurd (grind (arith))
accepts block urgent job past true false is is_taken free room before =
    let idle : pending block past ≡ false = grind (arith) in
    let none : many_of block (waiting past) ≡ 0 = rw (is_taken, idle) at before.one in
    record { one = rw (free, room, is, is_taken, many_append block (waiting past) (posted urgent job ∷ []), is) (omega (arith, none)); meets = λ never. rw (is, free, room) refl }
accepts block urgent job past false was_taken is is_taken free room before =
    record { one = rw (free, room, is, many_append block (waiting past) (posted urgent job ∷ []), is) (omega (arith, before.one)); meets = rw is before.meets }

takes_at : (block : ℕ) (past : History) (mine was_taken was_pending : Bool) → is_job_of block (next_of (waiting past)) ≡ mine → taken block past ≡ was_taken → pending block past ≡ was_pending
    → Sound block past → Sound block (ops.Take ∷ past)
unfolding waiting pending taken
takes_at block past false was_taken was_pending is is_taken is_pending before =
    let moved = many_without block (some_urgent (waiting past)) (waiting past) in
    let stays = rw is at moved in
    record { one = rw is (omega (arith, stays, before.one)); meets = rw is before.meets }
takes_at block past true true was_pending is is_taken is_pending before =
    let moved = many_without block (some_urgent (waiting past)) (waiting past) in
    let leaves = rw is at moved in
    let none : many_of block (waiting past) ≡ 0 = rw is_taken at before.one in
    absurd (omega (arith, leaves, none))
takes_at block past true false false is is_taken is_pending before =
    let moved = many_without block (some_urgent (waiting past)) (waiting past) in
    let leaves = rw is at moved in
    let none : many_of block (waiting past) ≡ 0 = rw (is_taken, is_pending) at before.one in
    absurd (omega (arith, leaves, none))
takes_at block past true false true is is_taken is_pending before =
    let moved = many_without block (some_urgent (waiting past)) (waiting past) in
    let leaves = rw is at moved in
    let one : many_of block (waiting past) ≡ 1 = rw (is_taken, is_pending) at before.one in
    record { one = rw is (omega (arith, leaves, one)); meets = λ now. is_pending }

dones_at : (block done : ℕ) (written : Bool) (past : History) (same was_taken : Bool) → nat_eq done block ≡ same → taken block past ≡ was_taken
    → Sound block past → Sound block (ops.Done done written ∷ past)
unfolding waiting pending taken
dones_at block done written past true true is is_taken before = record { one = rw (is, is_taken) (rw is_taken at before.one); meets = λ never. absurd (search rules) }
dones_at block done written past true false is is_taken before = record { one = rw (is, is_taken) (rw is_taken at before.one); meets = λ never. absurd (search rules) }
dones_at block done written past false was_taken is is_taken before = record { one = rw is before.one; meets = rw is before.meets }

posts : (block : ℕ) (urgent : Bool) (job : Job) (past : History) (busy room : Bool) → pending job.block past ≡ busy → nat_lt (length (waiting past)) 32 ≡ room → Sound block past → Sound block (ops.Post urgent job ∷ past)
posts block urgent job past true room is_busy is_room before = refuses block urgent job past (nat_eq job.block block) refl (rw is_busy refl) before
posts block urgent job past false false is_busy is_room before = refuses block urgent job past (nat_eq job.block block) refl (rw (is_busy, is_room) refl) before
posts block urgent job past false true is_busy is_room before = accepts block urgent job past (nat_eq job.block block) (taken block past) refl refl is_busy is_room before

pub sound : (block : ℕ) (past : History) → Sound block past
unfolding waiting pending taken
sound block [] = record { one = refl; meets = λ never. absurd (search rules) }
sound block (ops.Post urgent job ∷ past) = posts block urgent job past (pending job.block past) (nat_lt (length (waiting past)) 32) refl refl (sound block past)
sound block (ops.Take ∷ past) = takes_at block past (is_job_of block (next_of (waiting past))) (taken block past) (pending block past) refl refl refl (sound block past)
sound block (ops.Done done written ∷ past) = dones_at block done written past (nat_eq done block) (taken block past) refl refl (sound block past)
sound block (ops.Ask asked ∷ past) = let before = sound block past in record { one = before.one; meets = before.meets }

pub one_of_a_block : OneOfABlock
one_of_a_block block past = (sound block past).one

is_due_at : (block many : ℕ) (past : History) (due : Bool) → is_due block past ≡ due → many + 1 ≡ many_of block (waiting past) → Sound block past → is_due block past ≡ true
is_due_at block many past true is some now = is
is_due_at block many past false is some now =
    let none : many_of block (waiting past) ≡ 0 = rw is at now.one in
    absurd (omega (arith, some, none))

handed_is : (found : Option Job) (job : Job) → handed_out found ≡ replies.Job job → is_job_of job.block found ≡ true
handed_is None job told = absurd (search rules)
handed_is (Some other) job told =
    let same : other ≡ job = search rules in
    rw same (grind (arith))

pub handed_out_is_due : HandedOutIsDue
handed_out_is_due past job told =
    let moved = many_without job.block (some_urgent (waiting past)) (waiting past) in
    let leaves = rw (handed_is (next_of (waiting past)) job told) at moved in
    is_due_at job.block _ past (is_due job.block past) refl leaves (sound job.block past)
