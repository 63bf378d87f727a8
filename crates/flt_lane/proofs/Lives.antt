-- A life after some of its parts, on both locks.
use Rattle.std.proofs.Common.{◌≡◌, ℕ, sum_by, inl, inr, ◌≤◌, ◌+◌, List, [], ◌∷◌, ◌++◌, map, arith, refl, sym, ap, subst, ◌∙◌}
use Rattle.std.specs.Prelude.{All, vec_len}
use Rattle.std.specs.Vec.{vec_capacity}
use Rattle.std.proofs.lemmas.List.Sums.{sum_by-cons, sum_by_push}
use Rattle.std.proofs.lemmas.List.Elements.{All-head, All-tail}
use Rattle.std.proofs.lemmas.List.{append-nil, get_or-map, length-map}
use Rattle.flt_flash.specs.declared.arm.Arm.{Arm}
use Rattle.flt_config.specs.declared.config.Config.{Config}
use Rattle.flt_step.specs.declared.step.Step.{Step}
use Rattle.flt_step.specs.Part.{PartOf}
use Rattle.flt_turn.specs.Seats as turn
use Rattle.flt_turn.specs.Seats.{Seated}
use Rattle.flt_queue.specs.Call as queued
use Rattle.flt_queue.specs.Queue as queue
use Rattle.flt_life_model.specs.declared.replies.LaneReplies.{LaneReplies}
use Rattle.flt_life_model.specs.Actions.{action_of, all_arms, arm_count, arms_of}
use Rattle.flt_life_model.specs.Answers.{Told}
use Rattle.flt_fork.specs.Mixing.{Call}
use Rattle.flt_life_model.specs.Ordered.{Deed, deeds_in, with_deed}
use Rattle.flt_life_model.specs.Parts.{arms_in, calls_in, own_actions, own_steps, queued_in, width, widths}
use Rattle.flt_life_model.specs.Played.{StepMakes, StepQueues}
use Rattle.flt_life_model.specs.Room.{HasRoomForSteps, told_in}
use Rattle.flt_life_model.proofs.Giving.{all_arms-append}
use Rattle.flt_life_model.proofs.Makings.{widths_more, parts_none, parts_more}
use Rattle.flt_shared.specs.Call.{MayBeAsked, reply_after}
use Rattle.flt_lane.specs.Views.{BlockRoom, IsOfLock, KnownLocks, Seats}
use Rattle.flt_lane.specs.declared.living.LifeAnswers.{LifeAnswers}
use Rattle.flt_fork.specs.Runs.{HasRunBlock, MakesBy}
use Rattle.flt_lane.specs.Block.{HasRunPart, HasRunParts}
use Rattle.flt_lane.specs.BlockRun.{GainsPart, HasRunLanes}
use Rattle.flt_fork.specs.Lived.{IsMain, HasLived}
use Rattle.flt_lane.specs.Keeping.{IsAllowedPart, Keeping, KeepingLaws, TakesStepWith}
use Rattle.flt_lane.specs.Parts.{CanRunParts, HasRoomForParts, HaveLivedParts}
use Rattle.flt_lane.specs.Room.{AreRoomsOf, IsPartFor, lanes_of}
use Rattle.flt_lane.specs.Runs.{calls_by, queued_by}
use Rattle.flt_lane.proofs.LaneDeeds.{all_lanes_count, all_own_count, deeds_more, deeds_of_block, lanes_told_count}
use Rattle.flt_lane.proofs.Rooms.{next_room}
use Rattle.flt_lane.proofs.Starts.{config_stays}
use Rattle.flt_fork.proofs.Parts.{chain_part, lived_none as chain_none, lived_more as chain_more}

-- ---- on one lock

module _ {S O R : Type 0} (admits : S → O → Type 0) (answer : S → List O → O → R) (MadeBy : Step → Told → List (Call O R) → Type 0) (count : Step → ℕ) where
  -- A step of lane 0 is a part.
  pub part_one : (main after : Seated S O) (step : Step) (told : Told) → IsMain main → MakesBy admits answer MadeBy count main step told after → HasRunPart answer MadeBy main after (inl step) (told ∷ []) []
  part_one main after step told is makes = record {
    made = (0, makes.calls) ∷ [];
    makes = (told, makes.calls, refl, refl, refl, makes.made);
    lived = chain_part admits answer main makes.calls after is makes.chain;
  }

  -- And so is a block.
  pub part_block : (main after : Seated S O) (lanes : List (List Step)) (told : List (List Told)) → HasRunBlock answer MadeBy main after lanes told → HasRunPart answer MadeBy main after (inr lanes) [] told
  part_block main after lanes told ran = record { made = ran.made; makes = (refl, ran.makes); lived = ran.lived }

  -- No part yet.
  pub runs_none : (main : Seated S O) (own : List Told) (lanes : List (List Told)) → IsMain main → own ≡ [] → lanes ≡ [] → HasRunParts answer MadeBy main main [] own lanes
  runs_none main own lanes is no_own no_lanes =
      subst (λ l. HasRunParts answer MadeBy main main [] l lanes) (sym no_own)
      (subst (λ l. HasRunParts answer MadeBy main main [] [] l) (sym no_lanes)
      (record { blocks = []; made = parts_none MadeBy (main.children + 1); lived = chain_none admits answer main is }))

  -- One part more.
  pub runs_more : (main now after : Seated S O) (parts : List (PartOf Step)) (own : List Told) (lanes : List (List Told)) (part : PartOf Step) (mine : List Told) (others : List (List Told)) (own_after : List Told) (lanes_after : List (List Told))
      → HasRunParts answer MadeBy main now parts own lanes → HasRunPart answer MadeBy now after part mine others → own_after ≡ own ++ mine → lanes_after ≡ lanes ++ others
      → HasRunParts answer MadeBy main after (parts ++ part ∷ []) own_after lanes_after
  runs_more main now after parts own lanes part mine others own_after lanes_after ran one own_are lanes_are =
      let wide : widths (parts ++ part ∷ []) ≡ widths parts + width part = widths_more parts part in
      let blocks = ran.blocks ++ one.made ∷ [] in
      let children = ran.lived.children_is in
      let number : now.children + 1 ≡ (main.children + 1) + widths parts = omega (arith, children) in
      subst (λ l. HasRunParts answer MadeBy main after (parts ++ part ∷ []) l lanes_after) (sym own_are)
      (subst (λ l. HasRunParts answer MadeBy main after (parts ++ part ∷ []) (own ++ mine) l) (sym lanes_are) (record {
        blocks = blocks;
        made = parts_more MadeBy (main.children + 1) (now.children + 1) parts own lanes ran.blocks part mine others one.made number ran.made one.makes;
        lived = subst (λ n. HasLived answer main after n blocks) (sym wide) (chain_more admits answer main now after (widths parts) (width part) ran.blocks (one.made ∷ []) ran.lived one.lived);
      }))

-- ---- a part on both

module _ {K : Type 0} (k : Keeping K) (c : Config) (main after : Seats) (x y : K) where
  pub gains_one : (step : Step) (own own_after : LaneReplies) (lanes : List (List Told)) → IsMain main.dem → IsMain main.queue → TakesStepWith k c main after step own own_after x y
      → GainsPart k c main after (inl step) (told_in own) (told_in own_after) lanes lanes x y
  gains_one step own own_after lanes is is_queue one = record {
    mine = one.made.answer ∷ [];
    others = [];
    gains = record {
      own_are = one.made.keeps.told;
      lanes_are = sym (append-nil lanes);
      dem = part_one MayBeAsked reply_after StepMakes calls_by main.dem after.dem step one.made.answer is one.made.dem;
      queue = part_one queue.IsQueueCallFor queued.reply_after StepQueues queued_by main.queue after.queue step one.made.answer is_queue one.made.queue;
    };
    goes_on = subst (λ l. k.goes_on c main after (with_deed step one.made.answer []) l (arm_count (action_of step)) x y) (sym (append-nil (arms_of (action_of step)))) one.goes_on;
  }

  pub gains_block : (lanes : List (List Step)) (own : List Told) (told told_after : List (List Told)) → HasRunLanes k c main after lanes told told_after x y → GainsPart k c main after (inr lanes) own own told told_after x y
  gains_block lanes own told told_after ran =
      let size = lanes_told_count StepMakes (main.dem.children + 1) lanes ran.run.others ran.run.dem.made ran.run.dem.makes in
      record {
        mine = [];
        others = ran.run.others;
        gains = record {
          own_are = sym (append-nil own);
          lanes_are = ran.run.told_are;
          dem = part_block MayBeAsked reply_after StepMakes calls_by main.dem after.dem lanes ran.run.others ran.run.dem;
          queue = part_block queue.IsQueueCallFor queued.reply_after StepQueues queued_by main.queue after.queue lanes ran.run.others ran.run.queue;
        };
        goes_on = subst (λ l. k.goes_on c main after l [] 0 x y) (sym (deeds_of_block lanes ran.run.others size)) ran.goes_on;
      }

-- ---- room

-- There is room for the later parts after the first one.
pub room_behind : (answers kept : LifeAnswers) (part : PartOf Step) (rest : List (PartOf Step)) → HasRoomForParts answers (part ∷ rest) → vec_len kept.own.answers ≤ vec_len answers.own.answers + 1 → HasRoomForSteps kept.own (own_steps rest)
    → vec_len kept.told ≡ vec_len answers.told + width part → vec_capacity kept.told ≡ vec_capacity answers.told → HasRoomForParts kept rest
room_behind answers kept part rest room own_len own_room told_len told_capacity = record {
  few = omega (arith, room.few, own_len);
  own = own_room;
  told = omega (arith, room.told, told_len, told_capacity);
}

-- What holds of each that is mapped holds of each by the map.
pub all_mapped : {X Y : Type 0} (f : X → Y) (P : Y → Type 0) (xs : List X) → All P (map f xs) → All (λ x. P (f x)) xs
all_mapped f P xs all = λ k d within. subst P (get_or-map f xs k d (f d) within) (all k (f d) (let same = length-map xs f in omega (arith, same, within)))

-- ---- the parts that are ahead

module _ {K : Type 0} (k : Keeping K) (laws : KeepingLaws k) (locks : KnownLocks) (c : Config) (seats : Seats) (x : K) (rooms : List BlockRoom) (answers : LifeAnswers) (part : PartOf Step) (rest : List (PartOf Step))
    (can : CanRunParts k locks c seats x rooms answers (part ∷ rest)) where
  -- What the first of them needs.
  pub part_for : IsPartFor c part
  part_for = All-head (IsPartFor c) part rest can.steps

  pub part_allowed : IsAllowedPart k part
  part_allowed = All-head (IsAllowedPart k) part rest can.allowed

  pub able_for : k.is_ready c (arms_in part) x
  able_for = let sum = sum_by-cons arms_in part rest in laws.for_fewer c (sum_by arms_in (part ∷ rest)) (arms_in part) x (omega (arith, sum)) can.able

  pub calls_for : calls_in part ≤ seats.dem.left
  calls_for = let sum = sum_by-cons calls_in part rest in omega (arith, sum, can.calls.dem)

  pub queued_for : queued_in part ≤ seats.queue.left
  queued_for = let sum = sum_by-cons queued_in part rest in omega (arith, sum, can.calls.queue)

  -- What the later ones need, after it.
  pub can_behind : (after : Seats) (y : K) (left : List BlockRoom) (kept : LifeAnswers) → GainsPart k c seats after part (told_in answers.own) (told_in kept.own) (map told_in answers.told.items) (map told_in kept.told.items) x y
      → IsOfLock locks.dem after.dem → turn.IsSeatOf locks.queue.turn after.queue → seats.dem.left ≤ after.dem.left + calls_in part → seats.queue.left ≤ after.queue.left + queued_in part
      → vec_len kept.own.answers ≤ vec_len answers.own.answers + 1 → HasRoomForSteps kept.own (own_steps rest)
      → vec_len kept.told ≡ vec_len answers.told + width part → vec_capacity kept.told ≡ vec_capacity answers.told → AreRoomsOf rest left → CanRunParts k locks c after y left kept rest
  can_behind after y left kept gains seat queue_seat dem_left queue_left own_len own_room told_len told_capacity rooms_are =
      let dem = gains.gains.dem.lived in
      let queue = gains.gains.queue.lived in
      let calls_sum = sum_by-cons calls_in part rest in
      let queued_sum = sum_by-cons queued_in part rest in
      record {
        ready = record {
          dem = record { lock = seat; has = config_stays c seats.dem after.dem dem.start_is can.ready.dem.has };
          queue = record { lock = queue_seat; blocks = queue.start_is ∙ can.ready.queue.blocks; valid = can.ready.queue.valid };
        };
        main = (dem.main_after, queue.main_after);
        able = laws.still_ready c seats after _ _ (arms_in part) (sum_by arms_in rest) x y (subst (λ n. k.is_ready c n x) (sum_by-cons arms_in part rest) can.able) gains.goes_on;
        steps = All-tail (IsPartFor c) part rest can.steps;
        allowed = All-tail (IsAllowedPart k) part rest can.allowed;
        calls = record {
          dem = omega (arith, calls_sum, can.calls.dem, dem_left);
          queue = omega (arith, queued_sum, can.calls.queue, queue_left);
          dem_numbers = omega (arith, can.calls.dem_numbers, dem.children_is);
          queue_numbers = omega (arith, can.calls.queue_numbers, queue.children_is);
        };
        rooms_are = rooms_are;
        room = room_behind answers kept part rest can.room own_len own_room told_len told_capacity;
      }

-- The next room is that of the block.
pub can_next : {K : Type 0} (k : Keeping K) (locks : KnownLocks) (c : Config) (seats : Seats) (x : K) (answers : LifeAnswers) (part : PartOf Step) (block : List (List Step)) (rest : List (PartOf Step)) (room : BlockRoom) (rooms left : List BlockRoom)
    → part ≡ inr block → rooms ≡ room ∷ left → CanRunParts k locks c seats x rooms answers (part ∷ rest) → CanRunParts k locks c seats x (room ∷ left) answers (inr (lanes_of room) ∷ rest)
can_next k locks c seats x answers part block rest room rooms left is next can =
    subst (λ (p : PartOf Step). CanRunParts k locks c seats x (room ∷ left) answers (p ∷ rest)) (next_room part block rest room rooms left is next can.rooms_are)
    (subst (λ (l : List BlockRoom). CanRunParts k locks c seats x l answers (part ∷ rest)) next can)

-- ---- the parts that were carried out

actions-append : (parts more : List (PartOf Step)) → own_actions (parts ++ more) ≡ own_actions parts ++ own_actions more
actions-append [] more = refl
actions-append (inl step ∷ parts) more = ap (λ l. action_of step ∷ l) (actions-append parts more)
actions-append (inr lanes ∷ parts) more = actions-append parts more

arms_more_parts : (parts : List (PartOf Step)) (part : PartOf Step) → all_arms (own_actions (parts ++ part ∷ [])) ≡ all_arms (own_actions parts) ++ all_arms (own_actions (part ∷ []))
arms_more_parts parts part = ap all_arms (actions-append parts (part ∷ [])) ∙ all_arms-append (own_actions parts) (own_actions (part ∷ []))

module _ {K : Type 0} (k : Keeping K) (laws : KeepingLaws k) (c : Config) (seats : Seats) (x : K) where
  -- None yet.
  pub lived_none : (answers : LifeAnswers) → IsMain seats.dem → IsMain seats.queue → told_in answers.own ≡ [] → (answers.told.items ≡ []) × (vec_len answers.told ≡ 0) → HaveLivedParts k c seats seats x x answers []
  lived_none answers main jobs no_own none_told =
      let no_lanes : map told_in answers.told.items ≡ [] = ap (map told_in) none_told.0 in
      record {
        ran = record {
          dem = runs_none MayBeAsked reply_after StepMakes calls_by seats.dem _ _ main no_own no_lanes;
          queue = runs_none queue.IsQueueCallFor queued.reply_after StepQueues queued_by seats.queue _ _ jobs no_own no_lanes;
        };
        told_len = none_told.1;
        goes_on = laws.none c seats x;
      }

  -- One part more.
  pub lived_more : (now after : Seats) (y z : K) (answers kept : LifeAnswers) (parts : List (PartOf Step)) (part : PartOf Step) → HaveLivedParts k c seats now x y answers parts
      → GainsPart k c now after part (told_in answers.own) (told_in kept.own) (map told_in answers.told.items) (map told_in kept.told.items) y z → vec_len kept.told ≡ vec_len answers.told + width part
      → HaveLivedParts k c seats after x z kept (parts ++ part ∷ [])
  lived_more now after y z answers kept parts part so_far gains told_len =
      let own = told_in answers.own in
      let lanes = map told_in answers.told.items in
      let more = gains.gains in
      let ran = so_far.ran in
      let wide = widths_more parts part in
      let before = deeds_in parts own lanes in
      let gained = deeds_in (part ∷ []) gains.mine gains.others in
      let own_count = all_own_count StepMakes (seats.dem.children + 1) parts own lanes ran.dem.blocks ran.dem.made in
      let lanes_count = all_lanes_count StepMakes (seats.dem.children + 1) parts own lanes ran.dem.blocks ran.dem.made in
      let deeds : deeds_in (parts ++ part ∷ []) (told_in kept.own) (map told_in kept.told.items) ≡ before ++ gained =
      (λ i. deeds_in (parts ++ part ∷ []) (more.own_are i) (more.lanes_are i)) ∙ deeds_more parts own lanes part gains.mine gains.others own_count lanes_count in
      record {
        ran = record {
          dem = runs_more MayBeAsked reply_after StepMakes calls_by seats.dem now.dem after.dem parts own lanes part gains.mine gains.others _ _ ran.dem more.dem more.own_are more.lanes_are;
          queue = runs_more queue.IsQueueCallFor queued.reply_after StepQueues queued_by seats.queue now.queue after.queue parts own lanes part gains.mine gains.others _ _ ran.queue more.queue more.own_are more.lanes_are;
        };
        told_len = omega (arith, told_len, so_far.told_len, wide);
        goes_on = subst (λ (l : List Deed). k.goes_on c seats after l (all_arms (own_actions (parts ++ part ∷ []))) (sum_by arms_in (parts ++ part ∷ [])) x z) (sym deeds)
            (subst (λ (l : List Arm). k.goes_on c seats after (before ++ gained) l (sum_by arms_in (parts ++ part ∷ [])) x z) (sym (arms_more_parts parts part))
            (subst (λ (n : ℕ). k.goes_on c seats after (before ++ gained) (all_arms (own_actions parts) ++ all_arms (own_actions (part ∷ []))) n x z) (sym (sum_by_push arms_in parts part))
            (laws.further c seats now after before gained _ _ _ _ x y z ran.dem.lived.start_is so_far.goes_on gains.goes_on)));
      }
