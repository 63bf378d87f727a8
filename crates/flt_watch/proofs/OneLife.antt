-- The one life of a script that a watch makes.
use Rattle.std.proofs.Common.{◌≡◌, ◌==◌, ◌+◌, ◌≤◌, false, true, inl, inr, List, [], ◌∷◌, length, get_or, All, arith, eqb-true, refl, sym, subst}
use Rattle.std.specs.Prelude.{Vec, IsTrue, ◌&&◌, sum_by}
use Rattle.std.specs.List.{list_all}
use Rattle.std.proofs.lemmas.Bool.{and_parts, false≢true}
use Rattle.std.proofs.lemmas.List.Elements.{All-nil, All-cons, All-head}
use Rattle.std.proofs.lemmas.List.Sums.{sum_by-cons}
use Rattle.flt_config.specs.declared.config.Config.{Config}
use Rattle.flt_step.specs.declared.step.Part.{Part}
use Rattle.flt_step.specs.declared.step.Step.{Step}
use Rattle.flt_step.specs.Part.{PartOf, parts_of}
use Rattle.flt_step.specs.Step.{are_parts_in, lanes_of_parts}
use Rattle.flt_step.specs.Step as script
use Rattle.flt_life_model.specs.declared.action.Action.{Action}
use Rattle.flt_life_model.specs.declared.action.Action.TheVariants.{Call, Queue, Save, Drain, Get, Arm}
use Rattle.flt_life_model.specs.Actions.{action_of}
use Rattle.flt_life_model.specs.Lives.{lists}
use Rattle.flt_life_model.specs.Parts.{IsPossiblePart, steps_in}
use Rattle.flt_report.proofs.Possible.{possible_lives, widths_same}
use Rattle.flt_step.specs.Step.{has_store_step, is_store_step}
use Rattle.std.proofs.lemmas.List.Folds.{list_any_none}
use Rattle.flt_lane.specs.Keeping.{AreAllowed, IsAllowedPart}
use Rattle.flt_lane.specs.Stepped.{IsLockCall}
use Rattle.flt_lane.proofs.OffStore.{leaves_store}
use Rattle.flt_watch.specs.Asked.{all_watched, are_watched, is_call, is_watched, is_watched_part}
use Rattle.flt_watch.specs.NoStore.{no_store}
use Rattle.flt_watch.specs.Watched.{CanBeWatched}

-- A step that a watch makes calls what is under a lock, and nothing else.
calls_lock : (action : Action) → is_call action ≡ true → IsLockCall action
calls_lock (Call op) is = tt
calls_lock (Queue op) is = absurd (false≢true is)
calls_lock Save is = absurd (false≢true is)
calls_lock Drain is = absurd (false≢true is)
calls_lock (Get block) is = absurd (false≢true is)
calls_lock (Arm arm) is = absurd (false≢true is)

allowed_lane : (lane : List Step) → list_all is_watched lane ≡ true → AreAllowed no_store lane
allowed_lane [] is = All-nil no_store.allows
allowed_lane (step ∷ rest) is =
    let both = and_parts (is_watched step) (list_all is_watched rest) is in
    All-cons no_store.allows step rest (calls_lock (action_of step) both.0) (allowed_lane rest both.1)

allowed_lanes : (lanes : List (List Step)) → list_all (λ lane. list_all is_watched lane) lanes ≡ true → All (AreAllowed no_store) lanes
allowed_lanes [] is = All-nil (AreAllowed no_store)
allowed_lanes (lane ∷ lanes) is =
    let both = and_parts (list_all is_watched lane) (list_all (λ lane. list_all is_watched lane) lanes) is in
    All-cons (AreAllowed no_store) lane lanes (allowed_lane lane both.0) (allowed_lanes lanes both.1)

allowed_part : (part : PartOf Step) → is_watched_part part ≡ true → IsAllowedPart no_store part
allowed_part (inl step) is = calls_lock (action_of step) is
allowed_part (inr lanes) is = allowed_lanes lanes is

pub allowed_parts : (parts : List (PartOf Step)) → are_watched parts ≡ true → All (IsAllowedPart no_store) parts
allowed_parts [] is = All-nil (IsAllowedPart no_store)
allowed_parts (part ∷ parts) is =
    let both = and_parts (is_watched_part part) (are_watched parts) is in
    All-cons (IsAllowedPart no_store) part parts (allowed_part part both.0) (allowed_parts parts both.1)

-- A lane of such steps does not touch the store.
pub off_store : (lane : List Step) → AreAllowed no_store lane → has_store_step lane ≡ false
off_store lane allowed = list_any_none is_store_step lane (λ k step within. leaves_store (get_or lane k step) (allowed k step within))

-- What the life needs to be made.
pub record IsLivable (c : Config) (lives : List (List (PartOf Step))) (parts : List Part) : Type 0 where
  pub one : lives ≡ parts_of parts ∷ []
  pub can : CanBeWatched c parts

pub livable : {A : Type 0} (c : Config) (lives : List (Vec Part A)) (life : Vec Part A) → IsTrue ((length (lists lives) == 1) && all_watched (lists lives)) → life ≡ get_or lives 0 life
    → list_all (λ (life : Vec Part A). are_parts_in c (parts_of life.items)) lives ≡ true → sum_by (λ (life : Vec Part A). script.steps_of_parts (parts_of life.items)) lives ≤ 65536
    → sum_by (λ (life : Vec Part A). length life.items + lanes_of_parts (parts_of life.items)) lives ≤ 1048577 → IsLivable c (lists lives) life.items
livable c [] life is same in_range few small = absurd (false≢true is)
livable {A} c (first ∷ []) life is same in_range few small =
    let watched = and_parts (are_watched (parts_of first.items)) true is in
    let possible = All-head (λ (life : Vec Part A). All (IsPossiblePart c) (parts_of life.items)) first [] (possible_lives c (first ∷ []) in_range) in
    let sum = sum_by-cons (λ (life : Vec Part A). script.steps_of_parts (parts_of life.items)) first [] in
    let wide = sum_by-cons (λ (life : Vec Part A). length life.items + lanes_of_parts (parts_of life.items)) first [] in
    let widths_are = widths_same (parts_of first.items) in
    let few_steps : sum_by steps_in (parts_of first.items) ≤ 65536 = omega (arith, sum, few) in
    subst (λ (l : Vec Part A). IsLivable c (parts_of first.items ∷ []) l.items) (sym same) (record {
      one = refl;
      can = record {
        possible = possible;
        watched = watched.0;
        few = few_steps;
        numbers = omega (arith, wide, small, widths_are);
        indices = omega (arith, wide, small, widths_are);
      };
    })
livable {A} c (first ∷ second ∷ rest) life is same in_range few small =
    let one = eqb-true (length (lists (first ∷ second ∷ rest))) 1 (and_parts (length (lists (first ∷ second ∷ rest)) == 1) (all_watched (lists (first ∷ second ∷ rest))) is).0 in
    absurd (omega (arith, one))
