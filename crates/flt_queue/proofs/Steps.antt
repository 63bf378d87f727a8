-- A queue that stands for some calls, one call later.
use Rattle.std.proofs.Common.{rules, ◌≡◌, ℕ, ◌<◌, ◌+◌, if◌then◌else◌, nat_lt, Bool, true, false, not, refl, ap, nat_eq, slice_index_or, slice_set, length, replicate, append-nil, subst, All, Some, [], ◌∷◌, ◌++◌, List, arith}
use Rattle.std.proofs.lemmas.List.{length-set, get_or-set_same, get_or-set_other, get_or-replicate, nil_from_length}
use Rattle.std.proofs.lemmas.List.Elements.{All-head}
use Rattle.flt_queue.specs.declared.job.Job.{Job}
use Rattle.flt_queue.specs.declared.job.LastResult.TheVariants.{Never}
use Rattle.flt_queue.specs.declared.job.QueueOp.TheVariants as ops
use Rattle.flt_queue.specs.declared.queue.BlockState.{BlockState}
use Rattle.flt_queue.specs.declared.queue.JobQueue.{JobQueue}
use Rattle.flt_queue.specs.Queue.{History, Posted, posted, waiting, pending, taken, last_result_of, some_urgent, earliest, without_earliest, next_of}
use Rattle.flt_queue.specs.Stands.{QueueStands, block_state, jobs}
use Rattle.flt_queue.specs.Laws.{with_job}

pub asked : (blocks block : ℕ) (past : History) (queue : JobQueue) → QueueStands blocks past queue → QueueStands blocks (ops.Ask block ∷ past) queue
unfolding waiting pending taken
asked blocks block past queue s = record { urgent = s.urgent; standard = s.standard; table = s.table }

abbrev pub resting : BlockState
resting = record { pending = false; taken = false; last = Never }

pub nothing_waits : (urgent : Bool) → jobs urgent (waiting []) ≡ []
unfolding waiting
nothing_waits true = refl
nothing_waits false = refl

pub resting_at : (block : ℕ) (d : BlockState) → block < 40 → slice_index_or (replicate 40 resting) block d ≡ block_state block []
unfolding pending taken
resting_at block d lt = get_or-replicate 40 block resting d lt

done_at : (table : List BlockState) (done block : ℕ) (written : Bool) (past : History) (d : BlockState) (e : Bool) → nat_eq done block ≡ e → done < length table → taken done past ≡ true
    → slice_index_or table block d ≡ block_state block past
    → slice_index_or (slice_set table done (record { pending = false; taken = false; last = last_result_of written })) block d ≡ block_state block (ops.Done done written ∷ past)
unfolding pending taken
done_at table done block written past d true is lt counts before = grind (arith, get_or-set_same table done (record { pending = false; taken = false; last = last_result_of written }) d)
done_at table done block written past d false is lt counts before = grind (arith, get_or-set_other table done block (record { pending = false; taken = false; last = last_result_of written }) d)

pub idle_at : (done block : ℕ) (written : Bool) (past : History) (e : Bool) → nat_eq done block ≡ e → taken done past ≡ false
    → block_state block past ≡ block_state block (ops.Done done written ∷ past)
unfolding pending taken
idle_at done block written past true is idle = grind (arith)
idle_at done block written past false is idle = grind (arith)

pub done_counts : (blocks done : ℕ) (written : Bool) (past : History) (old new : JobQueue) → QueueStands blocks past old → done < length old.table → taken done past ≡ true
    → new.urgent ≡ old.urgent → new.standard ≡ old.standard → new.table ≡ slice_set old.table done (record { pending = false; taken = false; last = last_result_of written })
    → QueueStands blocks (ops.Done done written ∷ past) new
unfolding waiting
done_counts blocks done written past old new s lt counts urgent standard table = record {
  urgent = rw urgent s.urgent;
  standard = rw standard s.standard;
  table = λ block d less. rw table (done_at old.table done block written past d (nat_eq done block) refl lt counts (s.table block d less));
}

pub done_idles : (blocks done : ℕ) (written : Bool) (past : History) (queue : JobQueue) → QueueStands blocks past queue → taken done past ≡ false → QueueStands blocks (ops.Done done written ∷ past) queue
unfolding waiting
done_idles blocks done written past queue s idle = record {
  urgent = s.urgent;
  standard = s.standard;
  table = λ block d less. rw (← idle_at done block written past (nat_eq done block) refl idle) (s.table block d less);
}

-- Whether a post for the block is accepted.
abbrev pub is_accepted : History → ℕ → Bool
is_accepted past block = if pending block past then false else nat_lt (length (waiting past)) 32

pub refused_at : (urgent : Bool) (job : Job) (block : ℕ) (past : History) (e : Bool) → nat_eq job.block block ≡ e → is_accepted past job.block ≡ false
    → block_state block past ≡ block_state block (ops.Post urgent job ∷ past)
unfolding pending taken
refused_at urgent job block past true is refused = grind (arith)
refused_at urgent job block past false is refused = grind (arith)

pub post_refused : (blocks : ℕ) (urgent : Bool) (job : Job) (past : History) (queue : JobQueue) → QueueStands blocks past queue → is_accepted past job.block ≡ false
    → QueueStands blocks (ops.Post urgent job ∷ past) queue
unfolding waiting
post_refused blocks urgent job past queue s refused = record {
  urgent = rw refused s.urgent;
  standard = rw refused s.standard;
  table = λ block d less. rw (← refused_at urgent job block past (nat_eq job.block block) refl refused) (s.table block d less);
}

as_many_at : (post : Posted) (posts : List Posted) (e : Bool) → post.urgent ≡ e → length (jobs true posts) + length (jobs false posts) ≡ length posts
    → length (jobs true (post ∷ posts)) + length (jobs false (post ∷ posts)) ≡ length (post ∷ posts)
as_many_at post posts true is rest = rw is (omega (arith, rest))
as_many_at post posts false is rest = rw is (omega (arith, rest))

pub as_many : (posts : List Posted) → length (jobs true posts) + length (jobs false posts) ≡ length posts
as_many [] = refl
as_many (post ∷ posts) = as_many_at post posts post.urgent refl (as_many posts)

-- What holds of the posts that wait, and of them with one after them where there is room, holds when it was asked for.
pub with_post : (P : List Posted → Type 0) (urgent : Bool) (job : Job) (past : History) (busy room : Bool) → pending job.block past ≡ busy → nat_lt (length (waiting past)) 32 ≡ room
    → P (waiting past) → (length (waiting past) < 32 → P (waiting past ++ posted urgent job ∷ [])) → P (waiting (ops.Post urgent job ∷ past))
unfolding waiting
with_post P urgent job past true room is_busy is_room before more = rw is_busy before
with_post P urgent job past false false is_busy is_room before more = rw (is_busy, is_room) before
with_post P urgent job past false true is_busy is_room before more = let less : length (waiting past) < 32 = search rules in rw (is_busy, is_room) (more less)

-- ---- a post that is accepted

jobs_append_at : (kind : Bool) (post : Posted) (posts more : List Posted) (e : Bool) → post.urgent ≡ e → jobs kind (posts ++ more) ≡ jobs kind posts ++ jobs kind more
    → jobs kind (post ∷ (posts ++ more)) ≡ jobs kind (post ∷ posts) ++ jobs kind more
jobs_append_at true post posts more true is rest = rw is (ap (λ js. post.job ∷ js) rest)
jobs_append_at true post posts more false is rest = rw is rest
jobs_append_at false post posts more true is rest = rw is rest
jobs_append_at false post posts more false is rest = rw is (ap (λ js. post.job ∷ js) rest)

pub jobs_append : (kind : Bool) (posts more : List Posted) → jobs kind (posts ++ more) ≡ jobs kind posts ++ jobs kind more
jobs_append true [] more = refl
jobs_append false [] more = refl
jobs_append kind (post ∷ posts) more = jobs_append_at kind post posts more post.urgent refl (jobs_append kind posts more)

accepted_at : (table : List BlockState) (urgent : Bool) (job : Job) (block : ℕ) (past : History) (x d : BlockState) (e : Bool) → nat_eq job.block block ≡ e → job.block < length table → is_accepted past job.block ≡ true
    → x ≡ block_state job.block past → slice_index_or table block d ≡ block_state block past
    → slice_index_or (slice_set table job.block (record { pending = true; taken = x.taken; last = x.last })) block d ≡ block_state block (ops.Post urgent job ∷ past)
unfolding pending taken
accepted_at table urgent job block past x d true is lt free here before = grind (arith, get_or-set_same table job.block (record { pending = true; taken = x.taken; last = x.last }) d)
accepted_at table urgent job block past x d false is lt free here before = grind (arith, get_or-set_other table job.block block (record { pending = true; taken = x.taken; last = x.last }) d)

pub jobs_posted : (kind urgent : Bool) (job : Job) (posts : List Posted) → jobs kind (posts ++ posted urgent job ∷ []) ≡ with_job kind urgent job (jobs kind posts)
jobs_posted true true job posts = jobs_append true posts (posted true job ∷ [])
jobs_posted true false job posts = rw (jobs_append true posts (posted false job ∷ [])) (append-nil (jobs true posts))
jobs_posted false true job posts = rw (jobs_append false posts (posted true job ∷ [])) (append-nil (jobs false posts))
jobs_posted false false job posts = jobs_append false posts (posted false job ∷ [])

pub post_accepted : (blocks : ℕ) (urgent : Bool) (job : Job) (past : History) (old new : JobQueue) (x : BlockState) → QueueStands blocks past old → job.block < length old.table → is_accepted past job.block ≡ true
    → x ≡ block_state job.block past
    → new.urgent.items ≡ with_job true urgent job old.urgent.items → new.standard.items ≡ with_job false urgent job old.standard.items
    → new.table ≡ slice_set old.table job.block (record { pending = true; taken = x.taken; last = x.last })
    → QueueStands blocks (ops.Post urgent job ∷ past) new
unfolding waiting
post_accepted blocks urgent job past old new x s lt free here urgents standards table = record {
  urgent = rw (free, jobs_posted true urgent job (waiting past), ← s.urgent) urgents;
  standard = rw (free, jobs_posted false urgent job (waiting past), ← s.standard) standards;
  table = λ block d less. rw table (accepted_at old.table urgent job block past x d (nat_eq job.block block) refl lt free here (s.table block d less));
}

-- ---- a take

pub whole_after : (table : List BlockState) (block : ℕ) (state : BlockState) → length table ≡ 40 → length (slice_set table block state) ≡ 40
whole_after table block state whole = rw (length-set table block state) whole

-- What becomes of the posts when the earliest of a kind is taken.
pub record HandsOut (kind : Bool) (posts : List Posted) (job : Job) (rest : List Job) : Type 0 where
  pub first : earliest kind posts ≡ Some job
  pub same : jobs kind (without_earliest kind posts) ≡ rest
  pub others : jobs (not kind) (without_earliest kind posts) ≡ jobs (not kind) posts

hands_out_at : (kind : Bool) (post : Posted) (posts : List Posted) (job : Job) (rest : List Job) (e : Bool) → post.urgent ≡ e → jobs kind (post ∷ posts) ≡ job ∷ rest
    → (jobs kind posts ≡ job ∷ rest → HandsOut kind posts job rest) → HandsOut kind (post ∷ posts) job rest
hands_out_at true post posts job rest true is are before = record { first = grind (arith); same = grind (arith); others = grind (arith) }
hands_out_at true post posts job rest false is are before =
    let there : jobs true posts ≡ job ∷ rest = grind (arith) in
    let h = before there in
    let first = h.first in
    let same = h.same in
    let others = h.others in
    record { first = grind (arith); same = grind (arith); others = grind (arith) }
hands_out_at false post posts job rest true is are before =
    let there : jobs false posts ≡ job ∷ rest = grind (arith) in
    let h = before there in
    let first = h.first in
    let same = h.same in
    let others = h.others in
    record { first = grind (arith); same = grind (arith); others = grind (arith) }
hands_out_at false post posts job rest false is are before = record { first = grind (arith); same = grind (arith); others = grind (arith) }

pub hands_out : (kind : Bool) (posts : List Posted) (job : Job) (rest : List Job) → jobs kind posts ≡ job ∷ rest → HandsOut kind posts job rest
hands_out true [] job rest are = absurd (search rules)
hands_out false [] job rest are = absurd (search rules)
hands_out kind (post ∷ posts) job rest are = hands_out_at kind post posts job rest post.urgent refl are (hands_out kind posts job rest)

some_at : (post : Posted) (posts : List Posted) (job : Job) (rest : List Job) (e : Bool) → post.urgent ≡ e → jobs true (post ∷ posts) ≡ job ∷ rest
    → (jobs true posts ≡ job ∷ rest → some_urgent posts ≡ true) → some_urgent (post ∷ posts) ≡ true
some_at post posts job rest true is are before = rw is refl
some_at post posts job rest false is are before =
    let there : jobs true posts ≡ job ∷ rest = grind (arith) in
    rw is (before there)

pub some_waits : (posts : List Posted) (job : Job) (rest : List Job) → jobs true posts ≡ job ∷ rest → some_urgent posts ≡ true
some_waits [] job rest are = absurd (search rules)
some_waits (post ∷ posts) job rest are = some_at post posts job rest post.urgent refl are (some_waits posts job rest)

none_at : (post : Posted) (posts : List Posted) (e : Bool) → post.urgent ≡ e → jobs true (post ∷ posts) ≡ []
    → (jobs true posts ≡ [] → some_urgent posts ≡ false) → some_urgent (post ∷ posts) ≡ false
none_at post posts true is are before = absurd (search rules)
none_at post posts false is are before =
    let there : jobs true posts ≡ [] = grind (arith) in
    rw is (before there)

pub none_waits : (posts : List Posted) → jobs true posts ≡ [] → some_urgent posts ≡ false
none_waits [] are = refl
none_waits (post ∷ posts) are = none_at post posts post.urgent refl are (none_waits posts)

taken_at : (table : List BlockState) (job : Job) (block : ℕ) (past : History) (x d : BlockState) (e : Bool) → nat_eq job.block block ≡ e → job.block < length table → next_of (waiting past) ≡ Some job
    → x ≡ block_state job.block past → slice_index_or table block d ≡ block_state block past
    → slice_index_or (slice_set table job.block (record { pending = x.pending; taken = true; last = x.last })) block d ≡ block_state block (ops.Take ∷ past)
unfolding pending taken
taken_at table job block past x d true is lt next here before = rw next (grind (arith, get_or-set_same table job.block (record { pending = x.pending; taken = true; last = x.last }) d))
taken_at table job block past x d false is lt next here before = rw next (grind (arith, get_or-set_other table job.block block (record { pending = x.pending; taken = true; last = x.last }) d))

-- The earliest urgent job is taken.
pub take_urgent : (blocks : ℕ) (job : Job) (rest : List Job) (past : History) (old new : JobQueue) (x : BlockState) → QueueStands blocks past old → job.block < length old.table
    → x ≡ block_state job.block past
    → old.urgent.items ≡ job ∷ rest → new.urgent.items ≡ rest → new.standard.items ≡ old.standard.items
    → new.table ≡ slice_set old.table job.block (record { pending = x.pending; taken = true; last = x.last })
    → QueueStands blocks (ops.Take ∷ past) new
unfolding waiting
take_urgent blocks job rest past old new x s lt here are urgents standards table =
    let jobs_are : jobs true (waiting past) ≡ job ∷ rest = rw (← s.urgent) are in
    let kind : some_urgent (waiting past) ≡ true = some_waits (waiting past) job rest jobs_are in
    let h : HandsOut true (waiting past) job rest = hands_out true (waiting past) job rest jobs_are in
    let next : next_of (waiting past) ≡ Some job = rw kind h.first in
    record {
      urgent = rw (kind, h.same) urgents;
      standard = rw (kind, h.others, ← s.standard) standards;
      table = λ block d less. rw table (taken_at old.table job block past x d (nat_eq job.block block) refl lt next here (s.table block d less));
    }

pub next_urgent : (blocks : ℕ) (job : Job) (rest : List Job) (past : History) (old : JobQueue) → QueueStands blocks past old → old.urgent.items ≡ job ∷ rest → next_of (waiting past) ≡ Some job
next_urgent blocks job rest past old s are =
    let jobs_are : jobs true (waiting past) ≡ job ∷ rest = rw (← s.urgent) are in
    let kind : some_urgent (waiting past) ≡ true = some_waits (waiting past) job rest jobs_are in
    rw kind (hands_out true (waiting past) job rest jobs_are).first

-- No urgent job waits, and the earliest standard job is taken.
pub take_standard : (blocks : ℕ) (job : Job) (rest : List Job) (past : History) (old new : JobQueue) (x : BlockState) → QueueStands blocks past old → job.block < length old.table
    → x ≡ block_state job.block past
    → old.urgent.items ≡ [] → old.standard.items ≡ job ∷ rest → new.urgent.items ≡ [] → new.standard.items ≡ rest
    → new.table ≡ slice_set old.table job.block (record { pending = x.pending; taken = true; last = x.last })
    → QueueStands blocks (ops.Take ∷ past) new
unfolding waiting
take_standard blocks job rest past old new x s lt here none are urgents standards table =
    let none_urgent : jobs true (waiting past) ≡ [] = rw (← s.urgent) none in
    let jobs_are : jobs false (waiting past) ≡ job ∷ rest = rw (← s.standard) are in
    let kind : some_urgent (waiting past) ≡ false = none_waits (waiting past) none_urgent in
    let h : HandsOut false (waiting past) job rest = hands_out false (waiting past) job rest jobs_are in
    let next : next_of (waiting past) ≡ Some job = rw kind h.first in
    record {
      urgent = rw (kind, h.others, none_urgent) urgents;
      standard = rw (kind, h.same) standards;
      table = λ block d less. rw table (taken_at old.table job block past x d (nat_eq job.block block) refl lt next here (s.table block d less));
    }

pub next_standard : (blocks : ℕ) (job : Job) (rest : List Job) (past : History) (old : JobQueue) → QueueStands blocks past old → old.urgent.items ≡ [] → old.standard.items ≡ job ∷ rest → next_of (waiting past) ≡ Some job
next_standard blocks job rest past old s none are =
    let none_urgent : jobs true (waiting past) ≡ [] = rw (← s.urgent) none in
    let jobs_are : jobs false (waiting past) ≡ job ∷ rest = rw (← s.standard) are in
    let kind : some_urgent (waiting past) ≡ false = none_waits (waiting past) none_urgent in
    rw kind (hands_out false (waiting past) job rest jobs_are).first

-- Nothing waits.
pub nothing_left : (blocks : ℕ) (past : History) (queue : JobQueue) → QueueStands blocks past queue → length queue.urgent.items ≡ 0 → length queue.standard.items ≡ 0 → waiting past ≡ []
nothing_left blocks past queue s urgents standards =
    let many : length queue.urgent.items + length queue.standard.items ≡ length (waiting past) = rw (s.urgent, s.standard) (as_many (waiting past)) in
    let none : length (waiting past) ≡ 0 = omega (arith, many, urgents, standards) in
    nil_from_length (waiting past) none

pub idle_take_at : (block : ℕ) (past : History) → waiting past ≡ [] → block_state block past ≡ block_state block (ops.Take ∷ past)
unfolding pending taken
idle_take_at block past none = rw none refl

pub take_idles : (blocks : ℕ) (past : History) (old new : JobQueue) → QueueStands blocks past old → waiting past ≡ [] → new.urgent ≡ old.urgent → new.standard ≡ old.standard → new.table ≡ old.table → QueueStands blocks (ops.Take ∷ past) new
unfolding waiting
take_idles blocks past old new s none urgent standard table = record {
  urgent = rw (urgent, none) (rw none at s.urgent);
  standard = rw (standard, none) (rw none at s.standard);
  table = λ block d less. rw (table, ← idle_take_at block past none) (s.table block d less);
}

pub head_all : {X : Type 0} (P : X → Type 0) (xs : List X) (x : X) (rest : List X) → xs ≡ x ∷ rest → All P xs → P x
head_all P xs x rest is all = All-head P x rest (subst (All P) is all)
