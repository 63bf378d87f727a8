-- The deeds of parts: those of one step more, and what the application blocks hold by them.
use Rattle.std.proofs.Common.{◌≡◌, ◌∙◌, inl, inr, ℕ, ◌<◌, Bool, true, false, List, [], ◌∷◌, ◌++◌, length, map, take, drop, reverse, refl, ap, sym, subst, arith}
use Rattle.std.specs.Prelude.{All}
use Rattle.std.proofs.lemmas.List.{append-nil, append_assoc, reverse-append}
use Rattle.std.proofs.lemmas.List.Elements.{All-nil, All-cons, All-head, All-tail, All-append, All-weaker}
use Rattle.flt_flash.specs.Content.{Content}
use Rattle.flt_config.specs.declared.config.Config.{Config}
use Rattle.flt_config.specs.Validity.{IsValid}
use Rattle.flt_store_model.specs.Holding.{SameApplications}
use Rattle.flt_store_model.specs.Layout.{applications, application_number}
use Rattle.flt_queue.specs.Queue.{History}
use Rattle.flt_step.specs.declared.step.Step.{Step}
use Rattle.flt_step.specs.Part.{PartOf}
use Rattle.flt_step.specs.Step.{is_store_step}
use Rattle.flt_life_model.specs.Actions.{IsPossible, action_of}
use Rattle.flt_life_model.specs.Answers.{Told}
use Rattle.flt_life_model.specs.Applications.{AreGot, GetsBy, HoldApplications, MayHold, jobs_told, up_to_done}
use Rattle.flt_life_model.specs.declared.action.Action.{Action}
use Rattle.flt_life_model.specs.declared.action.Action.TheVariants as action
use Rattle.flt_life_model.specs.Chain.{KeepsApplications, LifeView, deeds_of, queue_of}
use Rattle.flt_life_model.specs.Moment.{Moment}
use Rattle.flt_life_model.specs.Ordered.{Deed, block_deeds, deed_if, deeds_in, lane_deeds, with_deed}
use Rattle.flt_life_model.specs.Parts.{IsPossibleInLane, IsPossiblePart, own_steps}
use Rattle.flt_life_model.proofs.DeedLists.{deed_if-append}
use Rattle.flt_life_model.proofs.ByAction.{touches_by, touches_store}
use Rattle.flt_life_model.proofs.Reading.{gets_also}
use Rattle.flt_lives.specs.Alone.{AreAlone, IsAlone, IsPlain}
use Rattle.flt_lives.specs.Living.{deeds_told, with_answer}

-- ---- one step more

-- Its deed comes after those of the parts before it.
pub deeds_more : (parts : List (PartOf Step)) (own : List Told) (lanes : List (List Told)) (step : Step) (told : Told) → length own ≡ length (own_steps parts)
    → deeds_in (parts ++ inl step ∷ []) (own ++ told ∷ []) lanes ≡ deeds_in parts own lanes ++ with_deed step told []
deeds_more [] [] lanes step told size = refl
deeds_more [] (answer ∷ own) lanes step told size = absurd (omega (arith, size))
deeds_more (inl first ∷ parts) [] lanes step told size = absurd (omega (arith, size))
deeds_more (inl first ∷ parts) (answer ∷ own) lanes step told size =
    ap (with_deed first answer) (deeds_more parts own lanes step told (omega (arith, size))) ∙ deed_if-append (is_store_step first) first answer (deeds_in parts own lanes) (with_deed step told [])
deeds_more (inr block ∷ parts) own lanes step told size =
    let front = block_deeds block (take (length block) lanes) in
    let back = drop (length block) lanes in
    ap (λ rest. front ++ rest) (deeds_more parts own back step told size) ∙ sym (append_assoc front (deeds_in parts own back) (with_deed step told []))

-- The answers, the newest first.
abbrev answers_of : List Deed → List Told
answers_of deeds = map (λ d. d.1) (reverse deeds)

deed_added : (step : Step) (told : Told) (deeds : List Deed) → answers_of (deeds ++ (step, told) ∷ []) ≡ told ∷ answers_of deeds
deed_added step told deeds = ap (map (λ (d : Deed). d.1)) (reverse-append deeds ((step, told) ∷ []))

deed_none : (deeds : List Deed) → answers_of (deeds ++ []) ≡ answers_of deeds
deed_none deeds = ap answers_of (append-nil deeds)

answer_of : (does : Action) (step : Step) (told : Told) (deeds : List Deed) → answers_of (deeds ++ deed_if (touches_store does) step told []) ≡ with_answer does told (answers_of deeds)
answer_of (action.Call op) step told deeds = deed_none deeds
answer_of (action.Queue op) step told deeds = deed_none deeds
answer_of action.Save step told deeds = deed_added step told deeds
answer_of action.Drain step told deeds = deed_added step told deeds
answer_of (action.Get block) step told deeds = deed_added step told deeds
answer_of (action.Arm arm) step told deeds = deed_none deeds

answer_added : (step : Step) (told : Told) (deeds : List Deed) → answers_of (deeds ++ with_deed step told []) ≡ with_answer (action_of step) told (answers_of deeds)
answer_added step told deeds = ap (λ is. answers_of (deeds ++ deed_if is step told [])) (touches_by step) ∙ answer_of (action_of step) step told deeds

-- The answers of the deeds of parts, and of one step more.
pub deeds_told_more : (parts : List (PartOf Step)) (own : List Told) (step : Step) (told : Told) → length own ≡ length (own_steps parts)
    → deeds_told (parts ++ inl step ∷ []) (own ++ told ∷ []) ≡ with_answer (action_of step) told (deeds_told parts own)
deeds_told_more parts own step told size = ap answers_of (deeds_more parts own [] step told size) ∙ answer_added step told (deeds_in parts own [])

-- ---- what holds of the steps of parts holds of those of their deeds

module _ (P : Step → Type 0) where
  -- Of each step of a part.
  abbrev pub OfPart : PartOf Step → Type 0
  OfPart (inl step) = P step
  OfPart (inr lanes) = All (λ lane. All P lane) lanes

  abbrev pub OfDeed : Deed → Type 0
  OfDeed deed = P deed.0

  if_all : (b : Bool) (step : Step) (told : Told) (deeds : List Deed) → P step → All OfDeed deeds → All OfDeed (deed_if b step told deeds)
  if_all true step told deeds is all = All-cons OfDeed (step, told) deeds is all
  if_all false step told deeds is all = all

  lane_all : (lane : List Step) (told : List Told) → All P lane → All OfDeed (lane_deeds lane told)
  lane_all [] told all = All-nil OfDeed
  lane_all (step ∷ lane) [] all = All-nil OfDeed
  lane_all (step ∷ lane) (answer ∷ told) all =
      if_all (is_store_step step) step answer (lane_deeds lane told) (All-head P step lane all) (lane_all lane told (All-tail P step lane all))

  block_all : (block : List (List Step)) (told : List (List Told)) → All (λ lane. All P lane) block → All OfDeed (block_deeds block told)
  block_all [] told all = All-nil OfDeed
  block_all (lane ∷ block) [] all = All-nil OfDeed
  block_all (lane ∷ block) (answers ∷ told) all =
      All-append OfDeed (lane_deeds lane answers) (block_deeds block told) (lane_all lane answers (All-head (λ lane. All P lane) lane block all))
      (block_all block told (All-tail (λ lane. All P lane) lane block all))

  all_deeds : (parts : List (PartOf Step)) (own : List Told) (lanes : List (List Told)) → All OfPart parts → All OfDeed (deeds_in parts own lanes)
  all_deeds [] own lanes all = All-nil OfDeed
  all_deeds (inl step ∷ parts) [] lanes all = all_deeds parts [] lanes (All-tail OfPart (inl step) parts all)
  all_deeds (inl step ∷ parts) (answer ∷ own) lanes all =
      if_all (is_store_step step) step answer (deeds_in parts own lanes) (All-head OfPart (inl step) parts all) (all_deeds parts own lanes (All-tail OfPart (inl step) parts all))
  all_deeds (inr block ∷ parts) own lanes all =
      All-append OfDeed (block_deeds block (take (length block) lanes)) (deeds_in parts own (drop (length block) lanes))
      (block_all block (take (length block) lanes) (All-head OfPart (inr block) parts all)) (all_deeds parts own (drop (length block) lanes) (All-tail OfPart (inr block) parts all))

  all_reverse : (deeds : List Deed) → All OfDeed deeds → All OfDeed (reverse deeds)
  all_reverse [] all = All-nil OfDeed
  all_reverse (deed ∷ deeds) all =
      subst (All OfDeed) (sym (reverse-append (deed ∷ []) deeds))
      (All-append OfDeed (reverse deeds) (deed ∷ []) (all_reverse deeds (All-tail OfDeed deed deeds all)) (All-cons OfDeed deed [] (All-head OfDeed deed deeds all) (All-nil OfDeed)))

  -- Also with the newest first.
  pub all_newest : (parts : List (PartOf Step)) (own : List Told) (lanes : List (List Told)) → All OfPart parts → All OfDeed (reverse (deeds_in parts own lanes))
  all_newest parts own lanes all = all_reverse (deeds_in parts own lanes) (all_deeds parts own lanes all)

-- ---- without a read of an application block each read is answered by the drains before it

module _ (first : ℕ → Content) (queue : History) where
  gets_none : (earlier : List Deed) (does : Action) (told : Told) → IsPlain does → GetsBy first queue earlier does told
  gets_none earlier (action.Call op) told plain = tt
  gets_none earlier (action.Queue op) told plain = tt
  gets_none earlier action.Save told plain = tt
  gets_none earlier action.Drain told plain = tt
  gets_none earlier (action.Get block) told plain = absurd plain
  gets_none earlier (action.Arm arm) told plain = tt

  none_got : (deeds : List Deed) → All (OfDeed (λ step. IsPlain (action_of step))) deeds → AreGot first queue deeds
  none_got [] plain = tt
  none_got (deed ∷ earlier) plain = (
    gets_none earlier (action_of deed.0) deed.1 (All-head (OfDeed (λ step. IsPlain (action_of step))) deed earlier plain),
    none_got earlier (All-tail (OfDeed (λ step. IsPlain (action_of step))) deed earlier plain),
  )

alone_plain : (part : PartOf Step) → IsAlone part → OfPart (λ step. IsPlain (action_of step)) part
alone_plain (inl step) alone = alone
alone_plain (inr lanes) alone = absurd alone

pub alone_got : (first : ℕ → Content) (queue : History) (parts : List (PartOf Step)) (own : List Told) (lanes : List (List Told)) → AreAlone parts → AreGot first queue (reverse (deeds_in parts own lanes))
alone_got first queue parts own lanes alone =
    none_got first queue (reverse (deeds_in parts own lanes))
    (all_newest (λ step. IsPlain (action_of step)) parts own lanes (All-weaker IsAlone (OfPart (λ step. IsPlain (action_of step))) alone_plain parts alone))

-- ---- the blocks before a start-up, which it leaves as they are

module _ (c : Config) (valid : IsValid c) (before after : ℕ → Content) (same : SameApplications before after) (queue : History) where
  hold_before : (block : ℕ) → block < applications → (past : History) (found : Content) → MayHold block (after (application_number block)) past found → MayHold block (before (application_number block)) past found
  hold_before block below past found = subst (λ first. MayHold block first past found) (same block below)

  gets_before : (earlier : List Deed) (does : Action) (told : Told) → IsPossible c does → GetsBy after queue earlier does told → GetsBy before queue earlier does told
  gets_before earlier does told possible = gets_also after before queue queue earlier does told
      (λ block found is. (let most = valid.blocks in let here : block < c.blocks = subst (IsPossible c) is possible in hold_before block (omega (arith, here, most)) (up_to_done (jobs_told (map (λ (d : Deed). d.1) earlier)) queue) found))

  got_before : (deeds : List Deed) → All (OfDeed (λ step. IsPossible c (action_of step))) deeds → AreGot after queue deeds → AreGot before queue deeds
  got_before [] possible got = tt
  got_before (deed ∷ earlier) possible got = (
    gets_before earlier (action_of deed.0) deed.1 (All-head (OfDeed (λ step. IsPossible c (action_of step))) deed earlier possible) got.0,
    got_before earlier (All-tail (OfDeed (λ step. IsPossible c (action_of step))) deed earlier possible) got.1,
  )

  held_before : (next : ℕ → Content) → HoldApplications after queue next → HoldApplications before queue next
  held_before next holds = λ block below. hold_before block below queue (next (application_number block)) (holds block below)

part_possible : (c : Config) (part : PartOf Step) → IsPossiblePart c part → OfPart (λ step. IsPossible c (action_of step)) part
part_possible c (inl step) possible = possible
part_possible c (inr lanes) possible =
    All-weaker (λ lane. All (IsPossibleInLane c) lane) (λ lane. All (λ step. IsPossible c (action_of step)) lane)
    (λ lane all. All-weaker (IsPossibleInLane c) (λ step. IsPossible c (action_of step)) (λ step one. one.1) lane all) lanes possible.0

-- What a life leaves in the application blocks that its start-up left, it leaves in those that its power-up found.
pub keeps_from_boot : (c : Config) (boot started next : Moment) (life : LifeView) → IsValid c → All (IsPossiblePart c) life.parts → SameApplications boot.value started.value → KeepsApplications started next life
    → KeepsApplications boot next life
keeps_from_boot c boot started next life valid possible same keeps = record {
  held = held_before c valid boot.value started.value same (queue_of life) next.value keeps.held;
  got = got_before c valid boot.value started.value same (queue_of life) (deeds_of life)
      (all_newest (λ step. IsPossible c (action_of step)) life.parts life.own life.lanes
      (All-weaker (IsPossiblePart c) (OfPart (λ step. IsPossible c (action_of step))) (part_possible c) life.parts possible)) keeps.got;
}
