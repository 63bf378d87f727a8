-- What each call of the queue leaves of what the application blocks may hold: histories begin with the newest call.
use Rattle.std.proofs.Common.{◌≡◌, ◌≢◌, ◌⊎◌, inl, inr, ⊎_elim, ℕ, ◌<◌, ◌≤◌, ◌+◌, Bool, true, false, List, [], ◌∷◌, Some, refl, ap, eq-eqb, subst, sym, arith, ◌∙◌}
use Rattle.std.specs.Prelude.{◌&&◌, ◌==◌}
use Rattle.std.proofs.lemmas.Bool.{and_parts, eqb-true, le-leb, lt-leb, false≢true, true≢false}
use Rattle.flt_flash.specs.Content.{Content, missing, invalid, bytes as holding}
use Rattle.flt_store_model.specs.Holding.{SameApplications}
use Rattle.flt_store_model.specs.Layout.{applications, application_number}
use Rattle.flt_store.specs.Store.{Gets}
use Rattle.flt_queue.specs.declared.job.Job.{Job}
use Rattle.flt_queue.specs.declared.job.QueueOp.{QueueOp}
use Rattle.flt_queue.specs.declared.job.QueueOp.TheVariants as ops
use Rattle.flt_queue.specs.Queue.{History, is_job_of}
use Rattle.flt_life_model.specs.Actions.{IsQueueCall, action_of}
use Rattle.flt_life_model.specs.Answers.{Told}
use Rattle.flt_life_model.specs.Applications.{AreGot, AreHeld, Choose, GetsBy, HoldApplications, IsBytesOf, MayHold, answers_of, done_count, is_done, job_behind, jobs_told, last_taken, up_to_done}
use Rattle.flt_life_model.specs.Ordered.{Deed}
use Rattle.flt_life_model.specs.declared.action.Action.{Action}
use Rattle.flt_life_model.specs.declared.answer.StepAnswer.TheVariants as answers
use Rattle.flt_life_model.proofs.Reading.{gets_also}

-- ---- the calls up to a result

pub apart : (op : QueueOp) → IsQueueCall op → is_done op ≡ false
apart (ops.Post urgent job) is = refl
apart ops.Take is = absurd is
apart (ops.Done block written) is = absurd is
apart (ops.Ask block) is = refl

-- Those before a call, where they have as many results.
pub up_to_fewer : (jobs : ℕ) (op : QueueOp) (past : History) → jobs ≤ done_count past → up_to_done jobs (op ∷ past) ≡ up_to_done jobs past
up_to_fewer jobs op past few = rw (le-leb jobs (done_count past) few) refl

-- All of them, where the newest is the last result.
up_to_last : (jobs block : ℕ) (written : Bool) (past : History) → jobs ≡ done_count past + 1 → up_to_done jobs (ops.Done block written ∷ past) ≡ ops.Done block written ∷ past
up_to_last jobs block written past is = rw (lt-leb jobs (done_count past) (omega (arith, is))) refl

count_beside : (op : QueueOp) (past : History) → is_done op ≡ false → done_count (op ∷ past) ≡ done_count past
count_beside op past is = rw is refl

-- ---- what a block may hold

module _ (block : ℕ) (first held : Content) where
  -- After a call of a step.
  pub may_beside : (op : QueueOp) (past : History) → IsQueueCall op → MayHold block first past held → MayHold block first (op ∷ past) held
  may_beside (ops.Post urgent job) past is may = may
  may_beside ops.Take past is may = absurd is
  may_beside (ops.Done done written) past is may = absurd is
  may_beside (ops.Ask asked) past is may = may

  -- After all calls, where it may after those up to the last result.
  pub may_whole : (past : History) (jobs : ℕ) → jobs ≡ done_count past → MayHold block first (up_to_done jobs past) held → MayHold block first past held
  may_whole [] jobs is may = may
  may_whole (ops.Post urgent job ∷ past) jobs is may = may_whole past jobs is (subst (λ l. MayHold block first l held) (up_to_fewer jobs (ops.Post urgent job) past (omega (arith, is))) may)
  may_whole (ops.Take ∷ past) jobs is may = inr (may_whole past jobs is (subst (λ l. MayHold block first l held) (up_to_fewer jobs ops.Take past (omega (arith, is))) may))
  may_whole (ops.Done done written ∷ past) jobs is may = subst (λ l. MayHold block first l held) (up_to_last jobs done written past is) may
  may_whole (ops.Ask asked ∷ past) jobs is may = may_whole past jobs is (subst (λ l. MayHold block first l held) (up_to_fewer jobs (ops.Ask asked) past (omega (arith, is))) may)

  choose_of : (b : Bool) (P Q : Type 0) → (b ≡ true → P) → Q → Choose b P Q
  choose_of true P Q first second = first refl
  choose_of false P Q first second = second

  -- After a result: where it is that the job was written, the block holds its bytes.
  pub may_done : (past : History) (done : ℕ) (written : Bool) → (written ≡ true → done ≡ block → IsBytesOf (last_taken block past) held) → MayHold block first past held
      → MayHold block first (ops.Done done written ∷ past) held
  may_done past done written by_job may =
      choose_of (written && (done == block)) (IsBytesOf (last_taken block past) held) (MayHold block first past held)
      (λ both. (let parts = and_parts written (done == block) both in by_job parts.0 (eqb-true done block parts.1))) may

-- The job that was taken last, after a call of a step.
last_beside : (block : ℕ) (op : QueueOp) (past : History) → IsQueueCall op → last_taken block (op ∷ past) ≡ last_taken block past
last_beside block (ops.Post urgent job) past is = refl
last_beside block ops.Take past is = absurd is
last_beside block (ops.Done done written) past is = absurd is
last_beside block (ops.Ask asked) past is = refl

-- ---- what reads were answered

module _ (first : ℕ → Content) where
  -- After one call more.
  gets_more : (op : QueueOp) (past : History) (earlier : List Deed) (does : Action) (told : Told) → jobs_told (answers_of earlier) ≤ done_count past → GetsBy first past earlier does told → GetsBy first (op ∷ past) earlier does told
  gets_more op past earlier does told few = gets_also first first past (op ∷ past) earlier does told
      (λ block found is. subst (λ l. MayHold block (first (application_number block)) l found) (sym (up_to_fewer (jobs_told (answers_of earlier)) op past few)))

  told_more : (told : Told) (earlier : List Told) → jobs_told earlier ≤ jobs_told (told ∷ earlier)
  told_more (answers.Dem reply) earlier = omega arith
  told_more (answers.Saved number) earlier = omega arith
  told_more (answers.SaveFailed fault) earlier = omega arith
  told_more (answers.Queue reply) earlier = omega arith
  told_more (answers.Drained written failed) earlier = omega arith
  told_more (answers.Bytes found) earlier = omega arith
  told_more answers.NoBlock earlier = omega arith
  told_more answers.BlockFlash earlier = omega arith
  told_more answers.Armed earlier = omega arith
  told_more answers.Dark earlier = omega arith

  pub got_more : (op : QueueOp) (past : History) (deeds : List Deed) → jobs_told (answers_of deeds) ≤ done_count past → AreGot first past deeds → AreGot first (op ∷ past) deeds
  got_more op past [] few got = tt
  got_more op past (deed ∷ earlier) few got =
      let more = told_more deed.1 (answers_of earlier) in
      let fewer : jobs_told (answers_of earlier) ≤ done_count past = omega (arith, more, few) in
      (gets_more op past earlier (action_of deed.0) deed.1 fewer got.0, got_more op past earlier fewer got.1)

-- ---- all of it

module _ (first : ℕ → Content) (jobs : ℕ) (deeds : List Deed) (values : ℕ → Content) where
  -- After a call that is no result.
  pub held_beside : (op : QueueOp) (past : History) → is_done op ≡ false → AreHeld first past jobs deeds values → AreHeld first (op ∷ past) jobs deeds values
  held_beside op past is held =
      let done = held.counts_jobs in
      let few : jobs ≤ done_count past = omega (arith, done) in
      record {
        counts_jobs = done ∙ sym (count_beside op past is);
        held = subst (λ l. HoldApplications first l values) (sym (up_to_fewer jobs op past few)) held.held;
        got = (let told = held.told in got_more first op past deeds (omega (arith, told, few)) held.got);
        told = held.told;
      }

-- ---- a deed that is no drain

module _ (first : ℕ → Content) (earlier : List Deed) (deed : Deed) (values now : ℕ → Content) (same : SameApplications values now)
    (no_job : jobs_told (deed.1 ∷ answers_of earlier) ≡ jobs_told (answers_of earlier)) where
  pub held_deed : (past : History) → (AreHeld first past (jobs_told (answers_of earlier)) earlier values → GetsBy first past earlier (action_of deed.0) deed.1)
      → AreHeld first past (jobs_told (answers_of earlier)) earlier values → AreHeld first past (jobs_told (answers_of (deed ∷ earlier))) (deed ∷ earlier) now
  held_deed past gets held =
      let jobs = jobs_told (answers_of earlier) in
      let told = held.told in
      record {
        counts_jobs = no_job ∙ held.counts_jobs;
        held = subst (λ n. HoldApplications first (up_to_done n past) now) (sym no_job)
            (λ block below. subst (MayHold block (first (application_number block)) (up_to_done jobs past)) (sym (same block below)) (held.held block below));
        got = (gets held, held.got);
        told = omega arith;
      }

-- What a read of an application block says of it.
pub gets_bytes : (content : Content) (found : Bool) (out : List ℕ) → Gets content found out → found ≡ true → content ≡ holding out
gets_bytes missing found out gets is = absurd (false≢true (sym gets.0 ∙ is))
gets_bytes invalid found out gets is = absurd gets
gets_bytes (holding held) found out gets is = ap holding (sym gets.1)

pub gets_none : (content : Content) (found : Bool) (out : List ℕ) → Gets content found out → found ≡ false → content ≡ missing
gets_none missing found out gets is = refl
gets_none invalid found out gets is = absurd gets
gets_none (holding held) found out gets is = absurd (true≢false (sym gets.0 ∙ is))

-- The block holds this by the drains before.
pub held_by : (first : ℕ → Content) (past : History) (earlier : List Deed) (values : ℕ → Content) (block : ℕ) (content : Content) → block < applications → values (application_number block) ≡ content → AreHeld first past (jobs_told (answers_of earlier)) earlier values
    → MayHold block (first (application_number block)) (up_to_done (jobs_told (answers_of earlier)) past) content
held_by first past earlier values block content below is held = subst (MayHold block (first (application_number block)) (up_to_done (jobs_told (answers_of earlier)) past)) is (held.held block below)

-- ---- a job that was taken

-- It was taken last of its block, and the block may hold its bytes.
pub record IsInHand (job : Job) (past : History) : Type 0 where
  pub last : last_taken job.block past ≡ Some job
  pub may : (first : Content) → MayHold job.block first past (holding job.bytes.items)

pub hand_taken : (job : Job) (past : History) → job_behind past ≡ Some job → IsInHand job (ops.Take ∷ past)
hand_taken job past is =
    let own : is_job_of job.block (job_behind past) ≡ true = ap (is_job_of job.block) is ∙ eq-eqb job.block job.block refl in
    record {
      last = rw own is;
      may = λ first. inl (own, subst (λ o. IsBytesOf o (holding job.bytes.items)) (sym is) refl);
    }

pub hand_beside : (job : Job) (op : QueueOp) (past : History) → IsQueueCall op → IsInHand job past → IsInHand job (op ∷ past)
hand_beside job op past is hand = record {
  last = last_beside job.block op past is ∙ hand.last;
  may = λ first. may_beside job.block first (holding job.bytes.items) op past is (hand.may first);
}

number_apart : (block other : ℕ) → block ≢ other → application_number block ≢ application_number other
number_apart block other differ same = differ (omega (arith, same))

-- What writing a job leaves of the blocks.
pub record IsWritten (job : Job) (written : Bool) (before after : ℕ → Content) : Type 0 where
  pub either : (after (application_number job.block) ≡ before (application_number job.block)) ⊎ (after (application_number job.block) ≡ holding job.bytes.items)
  pub all : written ≡ true → after (application_number job.block) ≡ holding job.bytes.items
  pub others : (other : ℕ) → other ≢ application_number job.block → after other ≡ before other

module _ (first : ℕ → Content) (jobs : ℕ) (deeds : List Deed) (before after : ℕ → Content) (job : Job) (written : Bool) (past : History) (wrote : IsWritten job written before after) (hand : IsInHand job past)
    (held : AreHeld first past jobs deeds before) where
  -- What each block may hold before the result is noted.
  may_now : (block : ℕ) → block < applications → MayHold block (first (application_number block)) past (before (application_number block))
  may_now block below = may_whole block (first (application_number block)) (before (application_number block)) past jobs held.counts_jobs (held.held block below)

  may_own : MayHold job.block (first (application_number job.block)) past (before (application_number job.block)) → MayHold job.block (first (application_number job.block)) past (after (application_number job.block))
  may_own may =
      ⊎_elim (λ same. subst (MayHold job.block (first (application_number job.block)) past) (sym same) may)
      (λ new. subst (MayHold job.block (first (application_number job.block)) past) (sym new) (hand.may (first (application_number job.block)))) wrote.either

  may_after : (block : ℕ) → block < applications → (job.block ≡ block) ⊎ (job.block ≢ block) → MayHold block (first (application_number block)) (ops.Done job.block written ∷ past) (after (application_number block))
  may_after block below (inl own) =
      subst (λ b. MayHold b (first (application_number b)) (ops.Done job.block written ∷ past) (after (application_number b))) own
      (may_done job.block (first (application_number job.block)) (after (application_number job.block)) past job.block written
      (λ is same. subst (λ o. IsBytesOf o (after (application_number job.block))) (sym hand.last) (wrote.all is))
      (may_own (may_now job.block (subst (λ b. b < applications) (sym own) below))))
  may_after block below (inr differ) =
      may_done block (first (application_number block)) (after (application_number block)) past job.block written (λ is same. absurd (differ same))
      (subst (MayHold block (first (application_number block)) past) (sym (wrote.others (application_number block) (number_apart block job.block (λ same. differ (sym same))))) (may_now block below))

  cases : (block : ℕ) → (job.block ≡ block) ⊎ (job.block ≢ block)
  cases block = by_test (job.block == block) refl
    where
      by_test : (b : Bool) → (job.block == block) ≡ b → (job.block ≡ block) ⊎ (job.block ≢ block)
      by_test true is = inl (eqb-true job.block block is)
      by_test false is = inr (λ same. false≢true (sym is ∙ eq-eqb job.block block same))

  -- One job more was done.
  pub held_done : AreHeld first (ops.Done job.block written ∷ past) (jobs + 1) deeds after
  held_done =
      let done = held.counts_jobs in
      let told = held.told in
      record {
        counts_jobs = omega (arith, done);
        held = subst (λ l. HoldApplications first l after) (sym (up_to_last (jobs + 1) job.block written past (omega (arith, done)))) (λ block below. may_after block below (cases block));
        got = got_more first (ops.Done job.block written) past deeds (omega (arith, done, told)) held.got;
        told = omega (arith, told);
      }
