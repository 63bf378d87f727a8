-- Each call of a life is one of a save, or of a step, whose answer is given at the place of the call.
use Rattle.std.proofs.Common.{◌≡◌, ◌⊎◌, inl, inr, ℕ, ◌+◌, ◌≤◌, leb, List, [], ◌∷◌, ◌++◌, length, true, refl, sym, subst}
use Rattle.std.specs.Prelude.{◌&&◌}
use Rattle.std.specs.List.{list_all}
use Rattle.std.proofs.lemmas.Bool.{and_parts}
use Rattle.flt_config.specs.declared.TheConstants.{EVENTS}
use Rattle.flt_config.specs.declared.config.Config.{Config}
use Rattle.flt_model.specs.declared.call.Op.{Op}
use Rattle.flt_model.specs.Reply.{Reply}
use Rattle.flt_step.specs.Part.{PartOf}
use Rattle.flt_step.specs.Step.{are_parts_in, is_lane_in, is_lane_step, is_part_in, is_step_in, store_lanes}
use Rattle.flt_step.specs.declared.step.Step.{Step}
use Rattle.flt_life_model.specs.Actions.{action_of}
use Rattle.flt_life_model.specs.Answers.{Told}
use Rattle.flt_fork.specs.Making.{AreMadeBy, LanesMake}
use Rattle.flt_life_model.specs.Making.{PartMakes, PartsMake}
use Rattle.flt_fork.specs.Mixing.{Block}
use Rattle.flt_life_model.specs.Parts.{width}
use Rattle.flt_fork.specs.Mixing as mixing
use Rattle.flt_life_model.specs.Played.{ActionMakes, SaveMakes, StepMakes}
use Rattle.flt_life_model.specs.declared.action.Action.{Action}
use Rattle.flt_life_model.specs.declared.action.Action.TheVariants.{Call, Queue, Save, Drain, Get, Arm}
use Rattle.flt_life_model.specs.declared.answer.StepAnswer.TheVariants as answers
use Rattle.flt_trace.specs.Call.{HasStep, IsSaveCall}
use Rattle.flt_trace.proofs.Each.{Each, both, each_as}
use Rattle.flt_trace.proofs.Filled.{HasPlace, HavePlace, IsToldAt}
use Rattle.flt_trace.proofs.Paired.{EachCall}

abbrev pub DemCall : Type 0
DemCall = mixing.Call Op Reply

module _ (c : Config) (few : length c.events.items ≤ EVENTS) where
  -- A call of a save, or of a step whose answer is given at its place.
  abbrev pub IsMadeAt : (ℕ → Type 0) → DemCall → Type 0
  IsMadeAt Has call = IsSaveCall call.op ⊎ (HasStep c call.op × Has call.told.place)

  wider : (Has More : ℕ → Type 0) → ((place : ℕ) → Has place → More place) → (call : DemCall) → IsMadeAt Has call → IsMadeAt More call
  wider Has More more call (inl save) = inl save
  wider Has More more call (inr step) = inr (step.0, more call.told.place step.1)

  wider_block : (Has More : ℕ → Type 0) → ((place : ℕ) → Has place → More place) → (block : Block Op Reply) → EachCall (IsMadeAt Has) block → EachCall (IsMadeAt More) block
  wider_block Has More more block each =
      each_as (λ (lane : ℕ × List DemCall). Each (IsMadeAt Has) lane.1) (λ (lane : ℕ × List DemCall). Each (IsMadeAt More) lane.1)
      (λ lane. each_as (IsMadeAt Has) (IsMadeAt More) (wider Has More more) lane.1) block each

  by_save : (told : Told) (calls : List DemCall) → SaveMakes told calls → Each (IsMadeAt (λ place. IsToldAt place told)) calls
  by_save (answers.Saved number) calls made = subst (Each _) (sym made.2) (inl tt, (inl tt, tt))
  by_save (answers.SaveFailed fault) calls made = subst (Each _) (sym made.1) (inl tt, tt)
  by_save (answers.Dem reply) calls made = absurd made
  by_save (answers.Queue reply) calls made = absurd made
  by_save (answers.Drained written failed) calls made = absurd made
  by_save (answers.Bytes found) calls made = absurd made
  by_save answers.NoBlock calls made = absurd made
  by_save answers.BlockFlash calls made = absurd made
  by_save answers.Armed calls made = absurd made
  by_save answers.Dark calls made = absurd made

  by_action : (action : Action) (told : Told) (calls : List DemCall) → ((op : Op) → action ≡ Call op → HasStep c op) → ActionMakes action told calls
      → Each (IsMadeAt (λ place. IsToldAt place told)) calls
  by_action (Call op) told calls has made =
      let place : IsToldAt made.0.place told = subst (IsToldAt made.0.place) (sym made.1) refl in
      subst (Each (IsMadeAt (λ place. IsToldAt place told))) (sym made.2) (inr (has op refl, place), tt)
  by_action (Queue op) told calls has made = subst (Each _) (sym made) tt
  by_action Save told calls has made = by_save told calls made
  by_action Drain told calls has made = subst (Each _) (sym made) tt
  by_action (Get block) told calls has made = subst (Each _) (sym made.1) tt
  by_action (Arm arm) told calls has made = subst (Each _) (sym made.1) tt

  by_step : (step : Step) (told : Told) (calls : List DemCall) → is_step_in c step ≡ true → StepMakes step told calls → Each (IsMadeAt (λ place. IsToldAt place told)) calls
  by_step step told calls within made = by_action (action_of step) told calls (λ op is. record { events = few; step = step; calls = is; within = within }) made

  by_steps : (steps : List Step) (told : List Told) (calls : List DemCall) → is_lane_in c steps ≡ true → AreMadeBy StepMakes steps told calls → Each (IsMadeAt (λ place. HasPlace place told)) calls
  unfolding AreMadeBy
  by_steps [] [] calls within made = subst (Each _) (sym made) tt
  by_steps [] (answer ∷ told) calls within made = absurd made
  by_steps (step ∷ steps) [] calls within made = absurd made
  by_steps (step ∷ steps) (answer ∷ told) calls within made =
      let parts = and_parts (is_step_in c step && is_lane_step step) (is_lane_in c steps) within in
      let this = and_parts (is_step_in c step) (is_lane_step step) parts.0 in
      let first = by_step step answer made.0 this.0 made.3 in
      let rest = by_steps steps told made.1 parts.1 made.4 in
      let Here = λ (place : ℕ). HasPlace place (answer ∷ told) in
      subst (Each (IsMadeAt Here)) (sym made.2) (both (IsMadeAt Here) made.0 made.1
      (each_as _ (IsMadeAt Here) (wider (λ place. IsToldAt place answer) Here (λ place is. inl is)) made.0 first)
      (each_as _ (IsMadeAt Here) (wider (λ place. HasPlace place told) Here (λ place is. inr is)) made.1 rest))

  by_lanes : (number : ℕ) (lanes : List (List Step)) (told : List (List Told)) (made : Block Op Reply) → list_all (is_lane_in c) lanes ≡ true → LanesMake StepMakes number lanes told made
      → EachCall (IsMadeAt (λ place. HavePlace place told)) made
  unfolding LanesMake
  by_lanes number [] [] made within makes = subst (EachCall _) (sym makes) tt
  by_lanes number [] (answers ∷ told) made within makes = absurd makes
  by_lanes number (steps ∷ lanes) [] made within makes = absurd makes
  by_lanes number (steps ∷ lanes) (answers ∷ told) made within makes =
      let parts = and_parts (is_lane_in c steps) (list_all (is_lane_in c) lanes) within in
      let first = by_steps steps answers makes.0 parts.0 makes.3 in
      let rest = by_lanes (number + 1) lanes told makes.1 parts.1 makes.4 in
      let Here = λ (place : ℕ). HavePlace place (answers ∷ told) in
      subst (EachCall (IsMadeAt Here)) (sym makes.2) (
        each_as _ (IsMadeAt Here) (wider (λ place. HasPlace place answers) Here (λ place is. inl is)) makes.0 first,
        wider_block (λ place. HavePlace place told) Here (λ place is. inr is) makes.1 rest,
      )

  -- What is given in a piece is given in the whole.
  in_front : (place : ℕ) (lane more : List Told) → HasPlace place lane → HasPlace place (lane ++ more)
  in_front place [] more has = absurd has
  in_front place (told ∷ lane) more (inl here) = inl here
  in_front place (told ∷ lane) more (inr later) = inr (in_front place lane more later)

  behind : (place : ℕ) (lane more : List Told) → HasPlace place more → HasPlace place (lane ++ more)
  behind place [] more has = has
  behind place (told ∷ lane) more has = inr (behind place lane more has)

  lanes_front : (place : ℕ) (lanes more : List (List Told)) → HavePlace place lanes → HavePlace place (lanes ++ more)
  lanes_front place [] more has = absurd has
  lanes_front place (lane ∷ lanes) more (inl here) = inl here
  lanes_front place (lane ∷ lanes) more (inr later) = inr (lanes_front place lanes more later)

  lanes_behind : (place : ℕ) (lanes more : List (List Told)) → HavePlace place more → HavePlace place (lanes ++ more)
  lanes_behind place [] more has = has
  lanes_behind place (lane ∷ lanes) more has = inr (lanes_behind place lanes more has)

  abbrev pub HasToldPlace : List Told → List (List Told) → ℕ → Type 0
  HasToldPlace own lanes place = HasPlace place own ⊎ HavePlace place lanes

  piece_in : (mine later : List Told) (others more : List (List Told)) (place : ℕ) → HasToldPlace mine others place → HasToldPlace (mine ++ later) (others ++ more) place
  piece_in mine later others more place (inl own) = inl (in_front place mine later own)
  piece_in mine later others more place (inr lanes) = inr (lanes_front place others more lanes)

  rest_in : (mine later : List Told) (others more : List (List Told)) (place : ℕ) → HasToldPlace later more place → HasToldPlace (mine ++ later) (others ++ more) place
  rest_in mine later others more place (inl own) = inl (behind place mine later own)
  rest_in mine later others more place (inr lanes) = inr (lanes_behind place others more lanes)

  by_part : (number : ℕ) (part : PartOf Step) (mine : List Told) (others : List (List Told)) (made : Block Op Reply) → is_part_in c part ≡ true → PartMakes StepMakes number part mine others made
      → EachCall (IsMadeAt (HasToldPlace mine others)) made
  by_part number (inl step) mine others made within makes =
      let first = by_step step makes.0 makes.1 within makes.5 in
      subst (EachCall _) (sym makes.4)
      (each_as _ (IsMadeAt (HasToldPlace mine others)) (wider (λ place. IsToldAt place makes.0) (HasToldPlace mine others) (λ place is. inl (subst (HasPlace place) (sym makes.2) (inl is)))) makes.1 first, tt)
  by_part number (inr lanes) mine others made within makes =
      let all = and_parts (leb 1 (length lanes) && leb (length lanes) 8 && list_all (is_lane_in c) lanes) (leb (store_lanes lanes) 1) within in
      let each = and_parts (leb 1 (length lanes) && leb (length lanes) 8) (list_all (is_lane_in c) lanes) all.0 in
      wider_block (λ place. HavePlace place others) (HasToldPlace mine others) (λ place is. inr is) made (by_lanes number lanes others made each.1 makes.1)

  pub by_parts : (number : ℕ) (parts : List (PartOf Step)) (own : List Told) (lanes : List (List Told)) (blocks : List (Block Op Reply)) → are_parts_in c parts ≡ true
      → PartsMake StepMakes number parts own lanes blocks → Each (EachCall (IsMadeAt (HasToldPlace own lanes))) blocks
  unfolding PartsMake
  by_parts number [] own lanes blocks within makes = subst (Each _) (sym makes.2) tt
  by_parts number (part ∷ parts) own lanes blocks within makes =
      let halves = and_parts (is_part_in c part) (are_parts_in c parts) within in
      let first = by_part number part makes.0 makes.2 makes.4 halves.0 makes.9 in
      let rest = by_parts (number + width part) parts makes.1 makes.3 makes.5 halves.1 makes.10 in
      let Whole = HasToldPlace own lanes in
      let is = λ (place : ℕ) (has : HasToldPlace (makes.0 ++ makes.1) (makes.2 ++ makes.3) place). subst (λ (l : List Told). HasToldPlace l lanes place) (sym makes.6) (subst (λ (l : List (List Told)). HasToldPlace (makes.0 ++ makes.1) l place) (sym makes.7) has) in
      subst (Each (EachCall (IsMadeAt Whole))) (sym makes.8) (
        wider_block (HasToldPlace makes.0 makes.2) Whole (λ place has. is place (piece_in makes.0 makes.1 makes.2 makes.3 place has)) makes.4 first,
        each_as (EachCall (IsMadeAt (HasToldPlace makes.1 makes.3))) (EachCall (IsMadeAt Whole))
            (wider_block (HasToldPlace makes.1 makes.3) Whole (λ place has. is place (rest_in makes.0 makes.1 makes.2 makes.3 place has))) makes.5 rest,
      )
