use Rattle.std.proofs.Common.{◌≡◌, ◌∙◌, inl, ℕ, zero, suc, List, [], ◌∷◌, ◌++◌, All, Some, length, map, refl, ap, sym, subst}
use Rattle.std.specs.Prelude.{slice_get}
use Rattle.std.proofs.lemmas.List.Elements.{All-head}
use Rattle.flt_config.specs.declared.config.Config.{Config}
use Rattle.flt_config.specs.declared.persist.Persist.{Persist}
use Rattle.flt_turn.specs.declared.answer.Answer.{Answer}
use Rattle.flt_turn.specs.declared.vault.Entry.{Entry}
use Rattle.flt_turn.specs.Journal.{entry}
use Rattle.flt_turn.specs.Seats.{ops_before}
use Rattle.flt_fork.specs.Mixing.{BlockTold, Call, IsToldInPlace}
use Rattle.flt_queue.specs.Call as queued
use Rattle.flt_queue.specs.Queue.{answer_q, pending, taken, waiting}
use Rattle.flt_queue.specs.declared.job.LastResult.TheVariants.{Never}
use Rattle.flt_queue.specs.declared.job.QueueOp.{QueueOp}
use Rattle.flt_queue.specs.declared.job.QueueOp.TheVariants as queue
use Rattle.flt_queue.specs.Reply.{QueueReply}
use Rattle.flt_queue.specs.declared.job.QueueReplyOf.TheVariants as replies
use Rattle.flt_step.specs.declared.step.Step.TheVariants as steps
use Rattle.flt_life_model.specs.declared.answer.StepAnswer.TheVariants as answers
use Rattle.flt_life_model.specs.Answers.{Told}
use Rattle.flt_life_model.specs.Chain.{start_from}
use Rattle.flt_life_model.specs.Making.{PartsMake}
use Rattle.flt_life_model.specs.Played.{IsMade, StepQueues}
use Rattle.flt_lives.proofs.Playing.{life_with, no_parts}
use Rattle.flt_live.specs.Examples.{one_question}
use Rattle.flt_live.specs.Laws.{IsPlayedInPlaces, without_place}
use Rattle.flt_live.proofs.worked.one_question_is_played.Goals as goal

abbrev asked : List (Entry QueueOp)
asked = entry 0 (queue.Ask 2) ∷ []

-- The queue's answer to a question before which nothing was asked.
never : answer_q [] (queue.Ask 2) ≡ replies.Last Never
unfolding waiting pending taken
never = refl

at_first : (place : ℕ) → slice_get asked place ≡ Some (entry 0 (queue.Ask 2)) → place ≡ 0
at_first zero is = refl
at_first (suc place) is = absurd (cc is)

module _ (blocks : ℕ) (own : List Told) where
  -- The one answer, which is the queue's.
  one_answer : IsMade StepQueues queued.reply_after blocks (inl (steps.Ask 2) ∷ []) own [] asked
      → (reply : Answer QueueReply) × (own ≡ answers.Queue reply ∷ []) × (reply.reply ≡ replies.Last Never)
  unfolding PartsMake
  one_answer is =
      let made = is.made in
      let makes = made.9 in
      let reply = makes.5.0 in
      let first : BlockTold queued.reply_after blocks asked made.4 = All-head (BlockTold queued.reply_after blocks asked) made.4 made.5 (subst (All (BlockTold queued.reply_after blocks asked)) made.8 is.told) in
      let lane = All-head (λ (l : ℕ × List (Call QueueOp QueueReply)). All (IsToldInPlace queued.reply_after blocks asked l.0) l.1) (0, makes.1) []
      (subst (BlockTold queued.reply_after blocks asked) makes.4 first) in
      let call : IsToldInPlace queued.reply_after blocks asked 0 (record { op = queue.Ask 2; told = reply }) =
      All-head (IsToldInPlace queued.reply_after blocks asked 0) (record { op = queue.Ask 2; told = reply }) [] (subst (All (IsToldInPlace queued.reply_after blocks asked 0)) makes.5.2 lane) in
      (reply, made.6 ∙ (λ i. makes.2 i ++ made.10.0 i) ∙ ap (λ told. told ∷ []) makes.5.1, by_place reply (at_first reply.place call.stands) call.reply)
    where
      by_place : (reply : Answer QueueReply) → reply.place ≡ 0 → reply.reply ≡ queued.reply_after blocks (ops_before reply.place asked) (queue.Ask 2) → reply.reply ≡ replies.Last Never
      by_place reply first is = is ∙ ap (λ place. queued.reply_after blocks (ops_before place asked) (queue.Ask 2)) first ∙ never

-- So without its place it is that of the life.
one_is : (c : Config) (state : Persist) (own : List Told) → IsPlayedInPlaces c (one_question state own) → answers.Queue (record { place = 0; reply = replies.Last Never }) ∷ [] ≡ map without_place own
one_is c state own is =
    let one = one_answer c.blocks is.own is.played.jobs in
    ap (λ reply. answers.Queue (record { place = 0; reply = reply }) ∷ []) (sym one.2) ∙ ap (map without_place) (sym one.1) ∙ is.same

abbrev first_reply : List Told → QueueReply
first_reply (answers.Queue told ∷ more) = told.reply
first_reply _ = replies.Accepted

pub returns : goal.returns
returns c = λ config state. record {
  played = λ place. record {
    own = answers.Queue (record { place = 0; reply = replies.Last Never }) ∷ [];
    same = refl;
    played = life_with (start_from config state) [] [] [] [] [] (steps.Ask 2) (answers.Queue (record { place = 0; reply = replies.Last Never })) [] (queue.Ask 2 ∷ []) (no_parts (start_from config state)) refl
        (_, refl, ap (λ reply. record { op = queue.Ask 2; told = record { place = 0; reply = reply } } ∷ []) never);
  };
  other_reply = λ is. absurd (cc (ap first_reply (one_is config state _ is)));
  no_answer = λ is. absurd (cc (ap length (one_is config state _ is)));
  one_more = λ is. absurd (cc (ap length (one_is config state _ is)));
}
