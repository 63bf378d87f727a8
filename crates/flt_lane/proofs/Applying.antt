-- What a journal of the queue leaves of what the application blocks may hold: journals begin with the oldest call, and histories with the
-- newest.
use Rattle.std.proofs.Common.{◌≡◌, ℕ, ◌+◌, List, [], ◌∷◌, ◌++◌, All, reverse, ap, subst, sym, arith, ◌∙◌}
use Rattle.std.proofs.lemmas.List.{append-nil, append_assoc, reverse-append, map-append}
use Rattle.std.proofs.lemmas.List.Elements.{All-nil, All-cons, All-head, All-tail}
use Rattle.flt_flash.specs.Content.{Content}
use Rattle.flt_queue.specs.declared.job.Job.{Job}
use Rattle.flt_queue.specs.declared.job.QueueOp.{QueueOp}
use Rattle.flt_queue.specs.declared.job.QueueOp.TheVariants as ops
use Rattle.flt_queue.specs.Queue.{History}
use Rattle.flt_turn.specs.declared.vault.Entry.{Entry}
use Rattle.flt_turn.specs.Journal.{ops_of}
use Rattle.flt_life_model.specs.Actions.{IsQueueCall}
use Rattle.flt_life_model.specs.Applications.{AreHeld}
use Rattle.flt_life_model.specs.Ordered.{Deed}
use Rattle.flt_life_model.proofs.HeldBlocks.{IsInHand, apart, hand_beside, held_beside}
use Rattle.flt_lane.specs.Living.{drain_call, drains_in}

-- ---- how many calls of drains there are

pub drains-append : (journal more : List (Entry QueueOp)) → drains_in (journal ++ more) ≡ drains_in journal + drains_in more
drains-append [] more = omega arith
drains-append (e ∷ journal) more = let rest = drains-append journal more in omega (arith, rest)

queue_call : (op : QueueOp) → drain_call op ≡ 0 → IsQueueCall op
queue_call (ops.Post urgent job) is = tt
queue_call ops.Take is = absurd (omega (arith, is))
queue_call (ops.Done block written) is = absurd (omega (arith, is))
queue_call (ops.Ask block) is = tt

-- Calls of which none is one of a drain.
pub queue_calls : (journal : List (Entry QueueOp)) → drains_in journal ≡ 0 → All (λ (e : Entry QueueOp). IsQueueCall e.op) journal
queue_calls [] none = All-nil (λ (e : Entry QueueOp). IsQueueCall e.op)
queue_calls (e ∷ journal) none = All-cons (λ (e : Entry QueueOp). IsQueueCall e.op) e journal (queue_call e.op (omega (arith, none))) (queue_calls journal (omega (arith, none)))

-- The calls of a journal, the newest first.
abbrev pub newest_of : List (Entry QueueOp) → History
newest_of journal = reverse (ops_of journal)

pub newest_more : (journal : List (Entry QueueOp)) (e : Entry QueueOp) → newest_of (journal ++ e ∷ []) ≡ e.op ∷ newest_of journal
newest_more journal e = ap reverse (map-append (λ (e : Entry QueueOp). e.op) journal (e ∷ [])) ∙ reverse-append (ops_of journal) (e.op ∷ [])

-- ---- after calls of steps

module _ (first : ℕ → Content) (jobs : ℕ) (deeds : List Deed) (values : ℕ → Content) where
  pub held_further : (journal more : List (Entry QueueOp)) → All (λ (e : Entry QueueOp). IsQueueCall e.op) more → AreHeld first (newest_of journal) jobs deeds values → AreHeld first (newest_of (journal ++ more)) jobs deeds values
  held_further journal [] are held = subst (λ j. AreHeld first (newest_of j) jobs deeds values) (sym (append-nil journal)) held
  held_further journal (e ∷ more) are held =
      let one = held_beside first jobs deeds values e.op (newest_of journal) (apart e.op (All-head (λ (e : Entry QueueOp). IsQueueCall e.op) e more are)) held in
      subst (λ j. AreHeld first (newest_of j) jobs deeds values) (append_assoc journal (e ∷ []) more)
      (held_further (journal ++ e ∷ []) more (All-tail (λ (e : Entry QueueOp). IsQueueCall e.op) e more are) (subst (λ l. AreHeld first l jobs deeds values) (sym (newest_more journal e)) one))

pub hand_further : (job : Job) (journal more : List (Entry QueueOp)) → All (λ (e : Entry QueueOp). IsQueueCall e.op) more → IsInHand job (newest_of journal) → IsInHand job (newest_of (journal ++ more))
hand_further job journal [] are hand = subst (λ j. IsInHand job (newest_of j)) (sym (append-nil journal)) hand
hand_further job journal (e ∷ more) are hand =
    let one = hand_beside job e.op (newest_of journal) (All-head (λ (e : Entry QueueOp). IsQueueCall e.op) e more are) hand in
    subst (λ j. IsInHand job (newest_of j)) (append_assoc journal (e ∷ []) more)
    (hand_further job (journal ++ e ∷ []) more (All-tail (λ (e : Entry QueueOp). IsQueueCall e.op) e more are) (subst (IsInHand job) (sym (newest_more journal e)) one))
