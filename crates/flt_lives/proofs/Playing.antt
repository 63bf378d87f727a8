-- One more step that was carried out, and the life as its parts give it.
use Rattle.std.proofs.Common.{◌≡◌, ◌∙◌, inl, ℕ, ◌+◌, List, [], ◌∷◌, ◌++◌, All, Some, length, map, take, reverse, refl, ap, sym, subst, arith}
use Rattle.std.specs.Prelude.{slice_get}
use Rattle.std.proofs.lemmas.List.{append-nil, append_assoc, length-append, reverse-append, reverse-reverse, length-reverse, map-append}
use Rattle.std.proofs.lemmas.List.Elements.{All-nil, All-cons, All-append}
use Rattle.flt_turn.specs.declared.vault.Entry.{Entry}
use Rattle.flt_turn.specs.Journal.{entry, ops_of, calls_of}
use Rattle.flt_turn.proofs.Journals.{calls_of-append, calls_of_other}
use Rattle.flt_model.specs.Start.{Start}
use Rattle.flt_model.specs.Answer.{answer}
use Rattle.flt_model.specs.declared.call.Op.{Op}
use Rattle.flt_model.specs.declared.call.Op.TheVariants as ops
use Rattle.flt_queue.specs.Call as queued
use Rattle.flt_step.specs.declared.step.Step.{Step}
use Rattle.flt_step.specs.Part.{PartOf}
use Rattle.flt_life_model.specs.declared.action.Action.{Action}
use Rattle.flt_life_model.specs.declared.action.Action.TheVariants as actions
use Rattle.flt_life_model.specs.declared.answer.StepAnswer.TheVariants as answers
use Rattle.flt_life_model.specs.Actions.{action_of}
use Rattle.flt_life_model.specs.Answers.{Told}
use Rattle.flt_life_model.specs.Journal.{Journal}
use Rattle.flt_life_model.specs.Making.{PartsMake}
use Rattle.flt_fork.specs.Mixing.{Call, Block, Mixes, HasInOrder, asked_of, ops_asked, IsToldInPlace, BlockTold, Rise}
use Rattle.flt_life_model.specs.Parts.{widths}
use Rattle.flt_config.specs.declared.config.Config.{Config}
use Rattle.flt_config.specs.declared.persist.Persist.{Persist}
use Rattle.flt_life_model.specs.declared.life.Boot.{Boot}
use Rattle.flt_life_model.specs.declared.life.Boot.TheVariants.{Started}
use Rattle.flt_life_model.specs.declared.replies.LaneReplies.{LaneReplies}
use Rattle.flt_life_model.specs.Chain.{LifeView, start_from}
use Rattle.flt_life_model.specs.Room.{told_in}
use Rattle.flt_queue.specs.declared.job.QueueOp.{QueueOp}
use Rattle.flt_life_model.specs.Played.{ActionMakes, ActionQueues, IsLife, IsMade, IsPlayed, StepMakes, StepQueues, reply_after}
use Rattle.flt_life_model.proofs.Makings.{parts_more, parts_none}
use Rattle.flt_fork.proofs.Mixings.{blocks_longer, follow_more, one_follows}
use Rattle.flt_fork.proofs.Rising.{rise_alone, rise_more, rise_none}
use Rattle.flt_lives.specs.Carried.{IsAnsweredBy, IsAtPlace, IsCarriedOut, with_calls}

-- ---- a step that was made, with its calls in a journal

pub carried_out : (start : Start) (before after : Journal) (action : Action) (told : Told) → IsAnsweredBy start before action told → IsAtPlace (length before) told
    → after ≡ with_calls action told before → IsCarriedOut start before action after told
carried_out start before after (actions.Call op) (answers.Dem told) reply place written = (written, ap answers.Dem (λ i. record { place = place i; reply = reply i }))
carried_out start before after (actions.Call op) (answers.Queue told) reply place written = absurd reply
carried_out start before after (actions.Call op) (answers.Saved number) reply place written = absurd reply
carried_out start before after (actions.Call op) (answers.SaveFailed fault) reply place written = absurd reply
carried_out start before after (actions.Call op) (answers.Drained done failed) reply place written = absurd reply
carried_out start before after (actions.Call op) (answers.Bytes found) reply place written = absurd reply
carried_out start before after (actions.Call op) answers.NoBlock reply place written = absurd reply
carried_out start before after (actions.Call op) answers.BlockFlash reply place written = absurd reply
carried_out start before after (actions.Call op) answers.Armed reply place written = absurd reply
carried_out start before after (actions.Call op) answers.Dark reply place written = absurd reply
carried_out start before after actions.Save (answers.Saved number) saved place written = written
carried_out start before after actions.Save (answers.SaveFailed fault) saved place written = written
carried_out start before after actions.Save (answers.Dem told) saved place written = absurd saved
carried_out start before after actions.Save (answers.Queue told) saved place written = absurd saved
carried_out start before after actions.Save (answers.Drained done failed) saved place written = absurd saved
carried_out start before after actions.Save (answers.Bytes found) saved place written = absurd saved
carried_out start before after actions.Save answers.NoBlock saved place written = absurd saved
carried_out start before after actions.Save answers.BlockFlash saved place written = absurd saved
carried_out start before after actions.Save answers.Armed saved place written = absurd saved
carried_out start before after actions.Save answers.Dark saved place written = absurd saved
carried_out start before after (actions.Arm arm) told armed place written = (written, armed)
carried_out start before after (actions.Queue op) told none place written = none
carried_out start before after actions.Drain told none place written = none
carried_out start before after (actions.Get block) told none place written = none

module _ {X : Type 0} where
  get_at : (front : List X) (x : X) (rest : List X) → slice_get (front ++ x ∷ rest) (length front) ≡ Some x
  get_at [] x rest = refl
  get_at (y ∷ front) x rest = get_at front x rest

  take_at : (front rest : List X) → take (length front) (front ++ rest) ≡ front
  take_at [] rest = refl
  take_at (y ∷ front) rest = ap (λ l. y ∷ l) (take_at front rest)

pub reverse_map : {X Y : Type 0} (f : X → Y) (xs : List X) → map f (reverse xs) ≡ reverse (map f xs)
reverse_map f [] = refl
reverse_map f (x ∷ xs) =
    ap (map f) (reverse-append (x ∷ []) xs) ∙ map-append f (reverse xs) (x ∷ []) ∙ ap (λ l. l ++ f x ∷ []) (reverse_map f xs) ∙ sym (reverse-append (f x ∷ []) (map f xs))

-- ---- calls of lane 0 after a journal, of any machine

module _ {S O R : Type 0} (answer : S → List O → O → R) (start : S) where
  abbrev pub calls_at : List (Entry O) → List O → List (Call O R)
  calls_at journal [] = []
  calls_at journal (op ∷ ops) =
      record { op = op; told = record { place = length journal; reply = answer start (ops_of journal) op } } ∷ calls_at (journal ++ entry 0 op ∷ []) ops

  asked_at : (journal : List (Entry O)) (ops : List O) → ops_asked (calls_at journal ops) ≡ ops
  asked_at journal [] = refl
  asked_at journal (op ∷ ops) = ap (λ l. op ∷ l) (asked_at (journal ++ entry 0 op ∷ []) ops)

  told_at : (journal : List (Entry O)) (ops : List O) → All (IsToldInPlace answer start (journal ++ map (λ op. entry 0 op) ops) 0) (calls_at journal ops)
  told_at journal [] = All-nil _
  told_at journal (op ∷ ops) =
      let rest = map (λ o. entry 0 o) ops in
      let whole = journal ++ entry 0 op ∷ rest in
      All-cons (IsToldInPlace answer start whole 0) _ (calls_at (journal ++ entry 0 op ∷ []) ops)
      record {
        stands = get_at journal (entry 0 op) rest;
        reply = ap (λ l. answer start (ops_of l) op) (sym (take_at journal (entry 0 op ∷ rest)));
      }
      (subst (λ j. All (IsToldInPlace answer start j 0) (calls_at (journal ++ entry 0 op ∷ []) ops)) (append_assoc journal (entry 0 op ∷ []) rest) (told_at (journal ++ entry 0 op ∷ []) ops))

  rise_at : (journal : List (Entry O)) (ops : List O) → Rise (length journal) (calls_at journal ops)
  unfolding Rise
  rise_at journal [] = tt
  rise_at journal (op ∷ ops) =
      (omega arith, subst (λ n. Rise n (calls_at (journal ++ entry 0 op ∷ []) ops)) (length-append journal (entry 0 op ∷ [])) (rise_at (journal ++ entry 0 op ∷ []) ops))

  own_calls : (ops : List O) → calls_of 0 (map (λ op. entry 0 op) ops) ≡ ops
  own_calls [] = refl
  own_calls (op ∷ ops) = ap (λ l. op ∷ l) (own_calls ops)

  other_calls : (n : ℕ) → ¬ (0 ≡ n) → (ops : List O) → calls_of n (map (λ op. entry 0 op) ops) ≡ []
  other_calls n apart [] = refl
  other_calls n apart (op ∷ ops) =
      calls_of-append n (entry 0 op ∷ []) (map (λ o. entry 0 o) ops) ∙ (λ i. calls_of_other n 0 op [] apart i ++ other_calls n apart ops i)

  mixes_at : (journal : List (Entry O)) (ops : List O) → Mixes (map (λ op. entry 0 op) ops) (asked_of ((0, calls_at journal ops) ∷ []))
  mixes_at journal ops = record {
    each = All-cons (λ (lane : ℕ × List O). calls_of lane.0 (map (λ op. entry 0 op) ops) ≡ lane.1) (0, ops_asked (calls_at journal ops)) [] (own_calls ops ∙ sym (asked_at journal ops))
        (All-nil (λ (lane : ℕ × List O). calls_of lane.0 (map (λ op. entry 0 op) ops) ≡ lane.1));
    others = λ n apart. other_calls n (λ same. apart (0, omega arith, same)) ops;
  }

  module _ (MadeBy : Step → Told → List (Call O R) → Type 0) where
    -- No step.
    made_none : IsMade MadeBy answer start [] [] [] []
    unfolding HasInOrder
    made_none = record { blocks = []; made = parts_none MadeBy 1; in_order = refl; told = All-nil (BlockTold answer start []); rising = λ number. rise_none 0 [] refl }

    -- A step more, which made these calls.
    made_more : (parts : List (PartOf Step)) (own : List Told) (lanes : List (List Told)) (journal : List (Entry O)) (step : Step) (told : Told) (ops : List O) → IsMade MadeBy answer start parts own lanes journal
        → MadeBy step told (calls_at journal ops) → IsMade MadeBy answer start (parts ++ inl step ∷ []) (own ++ told ∷ []) lanes (journal ++ map (λ op. entry 0 op) ops)
    made_more parts own lanes journal step told ops is makes =
        let calls = calls_at journal ops in
        let more = map (λ op. entry 0 op) ops in
        let block : Block O R = (0, calls) ∷ [] in
        let whole = journal ++ more in
        record {
          blocks = is.blocks ++ block ∷ [];
          made = subst (λ l. PartsMake MadeBy 1 (parts ++ inl step ∷ []) (own ++ told ∷ []) l (is.blocks ++ block ∷ [])) (append-nil lanes)
              (parts_more MadeBy 1 (1 + widths parts) parts own lanes is.blocks (inl step) (told ∷ []) [] block refl is.made (told, calls, refl, refl, refl, makes));
          in_order = follow_more is.blocks (block ∷ []) journal more is.in_order (one_follows block more (mixes_at journal ops));
          told = All-append (BlockTold answer start whole) is.blocks (block ∷ [])
              (blocks_longer answer start journal whole is.blocks (more, refl) is.told)
              (All-cons (BlockTold answer start whole) block []
              (All-cons (λ (lane : ℕ × List (Call O R)). All (IsToldInPlace answer start whole lane.0) lane.1) (0, calls) [] (told_at journal ops)
              (All-nil (λ (lane : ℕ × List (Call O R)). All (IsToldInPlace answer start whole lane.0) lane.1)))
              (All-nil (BlockTold answer start whole)));
          rising = λ number. rise_more answer start journal 0 is.blocks (block ∷ []) (omega arith) is.told number (is.rising number) (rise_alone (length journal) calls (rise_at journal ops) number);
        }

-- ---- what a step of lane 0 adds to the journal of the status machine

module _ (start : Start) where
  record AddsOps (journal after : Journal) (action : Action) (told : Told) : Type 0 where
    ops : List Op
    makes : ActionMakes action told (calls_at reply_after start journal ops)
    is : after ≡ journal ++ map (λ op. entry 0 op) ops

  module _ (journal after : Journal) where
    -- The newest entries are those at the end.
    behind : (newest : Journal) → reverse after ≡ newest ++ reverse journal → after ≡ journal ++ reverse newest
    behind newest is =
        sym (reverse-reverse after) ∙ ap reverse is ∙ reverse-append newest (reverse journal) ∙ ap (λ l. l ++ reverse newest) (reverse-reverse journal)

    place_is : length (reverse journal) ≡ length journal
    place_is = length-reverse journal

    past_is : map (λ e. e.op) (reverse journal) ≡ reverse (ops_of journal)
    past_is = reverse_map (λ e. e.op) journal

    ops_by : (action : Action) (told : Told) → IsCarriedOut start (reverse journal) action (reverse after) told → AddsOps journal after action told
    ops_by (actions.Call op) told carried = record {
      ops = op ∷ [];
      makes = (_, carried.1 ∙ (λ i. answers.Dem (record { place = place_is i; reply = answer start (past_is i) op })), refl);
      is = behind (entry 0 op ∷ []) carried.0;
    }
    ops_by actions.Save (answers.Saved number) carried = record {
      ops = ops.Snapshot ∷ ops.Saved number ∷ [];
      makes = (_, _, refl);
      is = behind (entry 0 (ops.Saved number) ∷ entry 0 ops.Snapshot ∷ []) carried;
    }
    ops_by actions.Save (answers.SaveFailed fault) carried = record {
      ops = ops.Snapshot ∷ [];
      makes = (_, refl);
      is = behind (entry 0 ops.Snapshot ∷ []) carried;
    }
    ops_by actions.Save (answers.Dem reply) carried = absurd carried
    ops_by actions.Save (answers.Queue reply) carried = absurd carried
    ops_by actions.Save (answers.Drained written failed) carried = absurd carried
    ops_by actions.Save (answers.Bytes bytes) carried = absurd carried
    ops_by actions.Save answers.NoBlock carried = absurd carried
    ops_by actions.Save answers.BlockFlash carried = absurd carried
    ops_by actions.Save answers.Armed carried = absurd carried
    ops_by actions.Save answers.Dark carried = absurd carried
    ops_by (actions.Queue op) told carried = absurd carried
    ops_by actions.Drain told carried = absurd carried
    ops_by (actions.Get block) told carried = absurd carried
    ops_by (actions.Arm arm) told carried = record { ops = []; makes = (carried.1, refl); is = behind [] carried.0 }

  -- It makes no call of the queue.
  queues_none : (before after : Journal) (action : Action) (told : Told) → IsCarriedOut start before action after told → ActionQueues action told []
  queues_none before after (actions.Call op) told carried = refl
  queues_none before after (actions.Queue op) told carried = absurd carried
  queues_none before after actions.Save told carried = refl
  queues_none before after actions.Drain told carried = absurd carried
  queues_none before after (actions.Get block) told carried = absurd carried
  queues_none before after (actions.Arm arm) told carried = refl

-- No step.
pub no_parts : (start : Start) → IsLife start [] [] [] [] []
no_parts start = record { dem = made_none reply_after start StepMakes; jobs = made_none queued.reply_after start.config.blocks StepQueues }

-- And one more, by the calls that it makes of both machines.
pub life_with : (start : Start) (parts : List (PartOf Step)) (own : List Told) (lanes : List (List Told)) (journal : Journal) (queue : List (Entry QueueOp)) (step : Step) (told : Told) (ops : List Op)
    (jobs : List QueueOp) → IsLife start parts own lanes journal queue → StepMakes step told (calls_at reply_after start journal ops)
    → StepQueues step told (calls_at queued.reply_after start.config.blocks queue jobs)
    → IsLife start (parts ++ inl step ∷ []) (own ++ told ∷ []) lanes (journal ++ map (λ op. entry 0 op) ops) (queue ++ map (λ op. entry 0 op) jobs)
life_with start parts own lanes journal queue step told ops jobs life makes queues = record {
  dem = made_more reply_after start StepMakes parts own lanes journal step told ops life.dem makes;
  jobs = made_more queued.reply_after start.config.blocks StepQueues parts own lanes queue step told jobs life.jobs queues;
}

-- And one more that leaves the queue alone.
pub life_more : (start : Start) (parts : List (PartOf Step)) (own : List Told) (lanes : List (List Told)) (journal after : Journal) (step : Step) (told : Told)
    → IsLife start parts own lanes journal [] → IsCarriedOut start (reverse journal) (action_of step) (reverse after) told
    → IsLife start (parts ++ inl step ∷ []) (own ++ told ∷ []) lanes after []
life_more start parts own lanes journal after step told life carried =
    let adds = ops_by start journal after (action_of step) told carried in
    subst (λ j. IsLife start (parts ++ inl step ∷ []) (own ++ told ∷ []) lanes j []) (sym adds.is)
    (life_with start parts own lanes journal [] step told adds.ops [] life adds.makes (queues_none start (reverse journal) (reverse after) (action_of step) told carried))

-- A life of lane 0 alone, as it is reported.
abbrev pub alone_view : List (PartOf Step) → Boot → Journal → List Told → LifeView
alone_view parts boot journal own = record { parts = parts; boot = boot; journal = journal; queue = []; own = own; lanes = [] }

-- What holds of it.
pub alone : (P : LifeView → Type 0) {life : LifeView} {parts : List (PartOf Step)} {boot : Boot} (journal : Journal) {queue : List (Entry QueueOp)} {own : List Told} {told : List LaneReplies} → queue ≡ [] → told ≡ []
    → life ≡ record { parts = parts; boot = boot; journal = reverse journal; queue = reverse queue; own = own; lanes = map told_in told }
    → P (alone_view parts boot (reverse journal) own) → P life
alone P {parts = parts} {boot = boot} journal {own = own} none no_lanes is =
    subst P (sym (is ∙ (λ i. record { parts = parts; boot = boot; journal = reverse journal; queue = reverse (none i); own = own; lanes = map told_in (no_lanes i) })))

pub played_by : (c : Config) (parts : List (PartOf Step)) (generation : ℕ) (state start : Persist) (journal : Journal) (own : List Told) → start ≡ state
    → IsLife (start_from c state) parts own [] journal []
    → IsPlayed c (alone_view parts (Started generation start) (reverse journal) own)
played_by c parts generation state start journal own same life =
    subst (λ s. IsLife (start_from c s) parts own [] (reverse (reverse journal)) []) (sym same)
    (subst (λ j. IsLife (start_from c state) parts own [] j []) (sym (reverse-reverse journal)) life)
