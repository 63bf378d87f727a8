use Rattle.std.proofs.Common.{rules, refl, ◌≡◌, ◌<◌, ◌∷◌, [], length, slice_index_or}
use Rattle.std.proofs.lemmas.List.{nil_from_length}
use Rattle.std.proofs.lemmas.List.Elements.{All-rest}
use Rattle.flt_queue.specs.Queue.{IsJob}
use Rattle.flt_queue.specs.Stands.{block_state}
use Rattle.flt_queue.proofs.Steps.{resting, whole_after, take_urgent, take_standard, next_urgent, next_standard, nothing_left, take_idles, head_all}
use Rattle.flt_queue.proofs.queue.JobQueue.take.Goals as goal
use Rattle.flt_queue.proofs.queue.JobQueue.take.Goals.{then-not-is_empty, else-not-is_empty+then-not-is_empty-2}

pub returns-else-not-is_empty-2-clause-stands : goal.returns-else-not-is_empty-2-clause-stands
returns-else-not-is_empty-2-clause-stands c = λ past s.
    let no_urgent : length c.args.self.now.urgent.items ≡ 0 = search rules in
    let no_standard : length c.args.self.now.standard.items ≡ 0 = search rules in
    take_idles _ past c.args.self.now _ s (nothing_left _ past c.args.self.now s no_urgent no_standard) refl refl refl

pub returns-else-not-is_empty-2-clause-answer : goal.returns-else-not-is_empty-2-clause-answer
returns-else-not-is_empty-2-clause-answer c = λ past s.
    let no_urgent : length c.args.self.now.urgent.items ≡ 0 = search rules in
    let no_standard : length c.args.self.now.standard.items ≡ 0 = search rules in
    rw (nothing_left _ past c.args.self.now s no_urgent no_standard) refl

pub invariant_of-self-2-clause-whole : goal.invariant_of-self-2-clause-whole
invariant_of-self-2-clause-whole c = whole_after c.args.self.now.table _ _ c.args.self.now.whole

pub invariant_of-self-2-clause-urgent_jobs : goal.invariant_of-self-2-clause-urgent_jobs
invariant_of-self-2-clause-urgent_jobs c =
    elim c.if-not-is_empty.branch [
      | then-not-is_empty w ↦
          let are : c.args.self.now.urgent.items ≡ c.if-not-is_empty.job ∷ w.take_first.new.jobs.items = rw w.job-is w.take_first.ensures.jobs in
          rw w.self-is (All-rest (IsJob c.args.self.now.blocks) _ _ _ are c.args.self.now.urgent_jobs)
      | else-not-is_empty+then-not-is_empty-2 w ↦ rw w.self-is c.args.self.now.urgent_jobs
    ]

pub invariant_of-self-2-clause-standard_jobs : goal.invariant_of-self-2-clause-standard_jobs
invariant_of-self-2-clause-standard_jobs c =
    elim c.if-not-is_empty.branch [
      | then-not-is_empty w ↦ rw w.self-is c.args.self.now.standard_jobs
      | else-not-is_empty+then-not-is_empty-2 w ↦
          let are : c.args.self.now.standard.items ≡ c.if-not-is_empty.job ∷ w.take_first-then-not-is_empty-2.new.jobs.items = rw w.job-is w.take_first-then-not-is_empty-2.ensures.jobs in
          rw w.self-is (All-rest (IsJob c.args.self.now.blocks) _ _ _ are c.args.self.now.standard_jobs)
    ]

pub returns-clause-stands : goal.returns-clause-stands
returns-clause-stands c = λ past s.
    elim c.if-not-is_empty.branch [
      | then-not-is_empty w ↦
          let are : c.args.self.now.urgent.items ≡ c.if-not-is_empty.job ∷ w.take_first.new.jobs.items = rw w.job-is w.take_first.ensures.jobs in
          let is_job : IsJob c.args.self.now.blocks c.if-not-is_empty.job = head_all (IsJob c.args.self.now.blocks) _ _ _ are c.args.self.now.urgent_jobs in
          let less : c.if-not-is_empty.job.block < 40 = search rules in
          let within : c.if-not-is_empty.job.block < length c.args.self.now.table = search rules in
          let here : slice_index_or c.args.self.now.table c.if-not-is_empty.job.block resting ≡ block_state c.if-not-is_empty.job.block past = s.table c.if-not-is_empty.job.block resting less in
          take_urgent _ c.if-not-is_empty.job w.take_first.new.jobs.items past c.args.self.now _ (slice_index_or c.args.self.now.table c.if-not-is_empty.job.block resting) s within here are (rw w.self-is refl) (rw w.self-is refl) refl
      | else-not-is_empty+then-not-is_empty-2 w ↦
          let none : c.args.self.now.urgent.items ≡ [] = nil_from_length c.args.self.now.urgent.items (search rules) in
          let are : c.args.self.now.standard.items ≡ c.if-not-is_empty.job ∷ w.take_first-then-not-is_empty-2.new.jobs.items = rw w.job-is w.take_first-then-not-is_empty-2.ensures.jobs in
          let is_job : IsJob c.args.self.now.blocks c.if-not-is_empty.job = head_all (IsJob c.args.self.now.blocks) _ _ _ are c.args.self.now.standard_jobs in
          let less : c.if-not-is_empty.job.block < 40 = search rules in
          let within : c.if-not-is_empty.job.block < length c.args.self.now.table = search rules in
          let here : slice_index_or c.args.self.now.table c.if-not-is_empty.job.block resting ≡ block_state c.if-not-is_empty.job.block past = s.table c.if-not-is_empty.job.block resting less in
          take_standard _ c.if-not-is_empty.job w.take_first-then-not-is_empty-2.new.jobs.items past c.args.self.now _ (slice_index_or c.args.self.now.table c.if-not-is_empty.job.block resting) s within here none are (rw w.self-is none) (rw w.self-is refl) refl
    ]

pub returns-clause-answer : goal.returns-clause-answer
returns-clause-answer c = λ past s.
    elim c.if-not-is_empty.branch [
      | then-not-is_empty w ↦
          let are : c.args.self.now.urgent.items ≡ c.if-not-is_empty.job ∷ w.take_first.new.jobs.items = rw w.job-is w.take_first.ensures.jobs in
          rw (next_urgent _ _ _ past c.args.self.now s are) refl
      | else-not-is_empty+then-not-is_empty-2 w ↦
          let none : c.args.self.now.urgent.items ≡ [] = nil_from_length c.args.self.now.urgent.items (search rules) in
          let are : c.args.self.now.standard.items ≡ c.if-not-is_empty.job ∷ w.take_first-then-not-is_empty-2.new.jobs.items = rw w.job-is w.take_first-then-not-is_empty-2.ensures.jobs in
          rw (next_standard _ _ _ past c.args.self.now s none are) refl
    ]

pub returns-clause-job : goal.returns-clause-job
returns-clause-job c =
    elim c.if-not-is_empty.branch [
      | then-not-is_empty w ↦
          let are : c.args.self.now.urgent.items ≡ c.if-not-is_empty.job ∷ w.take_first.new.jobs.items = rw w.job-is w.take_first.ensures.jobs in
          head_all (IsJob c.args.self.now.blocks) _ _ _ are c.args.self.now.urgent_jobs
      | else-not-is_empty+then-not-is_empty-2 w ↦
          let are : c.args.self.now.standard.items ≡ c.if-not-is_empty.job ∷ w.take_first-then-not-is_empty-2.new.jobs.items = rw w.job-is w.take_first-then-not-is_empty-2.ensures.jobs in
          head_all (IsJob c.args.self.now.blocks) _ _ _ are c.args.self.now.standard_jobs
    ]
