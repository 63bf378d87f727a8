use Rattle.std.proofs.Common.{rules, refl, ◌≡◌, ◌<◌, ◌≤◌, ◌+◌, nat_lt, length, true, false, slice_index_or}
use native.Mathlib.Omega.{arith}
use Rattle.flt_queue.specs.Queue.{pending, waiting}
use Rattle.flt_queue.specs.Stands.{block_state}
use Rattle.flt_queue.proofs.Steps.{post_refused, post_accepted, resting, is_accepted, as_many}
use Rattle.flt_queue.proofs.queue.JobQueue.post.Goals as goal
use Rattle.flt_queue.proofs.queue.JobQueue.post.Goals.{then-urgent, else-urgent}

pub returns-then-self-block-clause-stands : goal.returns-then-self-block-clause-stands
returns-then-self-block-clause-stands c = λ past s.
    let less : c.args.job.now.block < 40 = search rules in
    let here : slice_index_or c.args.self.now.table c.args.job.now.block resting ≡ block_state c.args.job.now.block past = s.table c.args.job.now.block resting less in
    let busy : pending c.args.job.now.block past ≡ true = search rules in
    let no : is_accepted past c.args.job.now.block ≡ false = search rules in
    post_refused _ _ _ past _ s no

pub returns-then-len-ge-WAITING-clause-stands : goal.returns-then-len-ge-WAITING-clause-stands
returns-then-len-ge-WAITING-clause-stands c = λ past s.
    let many : length c.args.self.now.urgent.items + length c.args.self.now.standard.items ≡ length (waiting past) = rw (s.urgent, s.standard) (as_many (waiting past)) in
    let full : 32 ≤ length (waiting past) = omega (arith, many, c.if-len-ge-WAITING.true, c.len.ensures.len, c.len-2.ensures.len) in
    let not_less : nat_lt (length (waiting past)) 32 ≡ false = search rules in
    let refused : is_accepted past c.args.job.now.block ≡ false = search rules in
    post_refused _ _ _ past _ s refused

pub returns-then-len-ge-WAITING-clause-answer : goal.returns-then-len-ge-WAITING-clause-answer
returns-then-len-ge-WAITING-clause-answer c = λ past s.
    let many : length c.args.self.now.urgent.items + length c.args.self.now.standard.items ≡ length (waiting past) = rw (s.urgent, s.standard) (as_many (waiting past)) in
    let full : 32 ≤ length (waiting past) = omega (arith, many, c.if-len-ge-WAITING.true, c.len.ensures.len, c.len-2.ensures.len) in
    let not_less : nat_lt (length (waiting past)) 32 ≡ false = search rules in
    let less : c.args.job.now.block < 40 = search rules in
    let here : slice_index_or c.args.self.now.table c.args.job.now.block resting ≡ block_state c.args.job.now.block past = s.table c.args.job.now.block resting less in
    let free : pending c.args.job.now.block past ≡ false = search rules in
    λ job. rw (free, not_less) refl

pub returns-clause-stands : goal.returns-clause-stands
returns-clause-stands c = λ past s.
    let many : length c.args.self.now.urgent.items + length c.args.self.now.standard.items ≡ length (waiting past) = rw (s.urgent, s.standard) (as_many (waiting past)) in
    let room : length (waiting past) < 32 = omega (arith, many, c.if-len-ge-WAITING.false, c.len.ensures.len, c.len-2.ensures.len) in
    let is_less : nat_lt (length (waiting past)) 32 ≡ true = search rules in
    let less : c.args.job.now.block < 40 = search rules in
    let within : c.args.job.now.block < length c.args.self.now.table = search rules in
    let here : slice_index_or c.args.self.now.table c.args.job.now.block resting ≡ block_state c.args.job.now.block past = s.table c.args.job.now.block resting less in
    let free : pending c.args.job.now.block past ≡ false = search rules in
    let accepted : is_accepted past c.args.job.now.block ≡ true = rw (free, is_less) refl in
    elim c.if-urgent.branch [
      | then-urgent w ↦ post_accepted _ c.args.urgent c.args.job.now past c.args.self.now _ (slice_index_or c.args.self.now.table c.args.job.now.block resting) s within accepted here (rw (w.self-is, w.if-urgent.true, w.put_last.ensures, w.copy_of.ensures) refl) (rw (w.self-is, w.if-urgent.true) refl) refl
      | else-urgent w ↦ post_accepted _ c.args.urgent c.args.job.now past c.args.self.now _ (slice_index_or c.args.self.now.table c.args.job.now.block resting) s within accepted here (rw (w.self-is, w.if-urgent.false) refl) (rw (w.self-is, w.if-urgent.false, w.put_last-else-urgent.ensures, w.copy_of-else-urgent.ensures) refl) refl
    ]

pub returns-clause-answer : goal.returns-clause-answer
returns-clause-answer c = λ past s.
    let many : length c.args.self.now.urgent.items + length c.args.self.now.standard.items ≡ length (waiting past) = rw (s.urgent, s.standard) (as_many (waiting past)) in
    let room : length (waiting past) < 32 = omega (arith, many, c.if-len-ge-WAITING.false, c.len.ensures.len, c.len-2.ensures.len) in
    let is_less : nat_lt (length (waiting past)) 32 ≡ true = search rules in
    let less : c.args.job.now.block < 40 = search rules in
    let here : slice_index_or c.args.self.now.table c.args.job.now.block resting ≡ block_state c.args.job.now.block past = s.table c.args.job.now.block resting less in
    let free : pending c.args.job.now.block past ≡ false = search rules in
    λ job. rw (free, is_less) refl
