-- The arms that steps give to the bench, one step after the other.
use Rattle.std.proofs.Common.{◌≡◌, ℕ, ◌+◌, List, [], ◌∷◌, ◌++◌, map, length, drop, refl, ap, sym, subst, append_assoc, ◌∙◌}
use Rattle.std.specs.Prelude.{Option, Some, None, All}
use Rattle.std.proofs.lemmas.List.{append-nil, map-append}
use Rattle.std.proofs.lemmas.List.Elements.{All-head, All-tail}
use Rattle.std.proofs.Math.Seq.{drop-append_seam}
use Rattle.flt_flash.specs.declared.arm.Arm.{Arm}
use Rattle.flt_flash.specs.declared.arm.ArmMade.{ArmMade}
use Rattle.flt_life_model.specs.declared.action.Action.{Action}
use Rattle.flt_life_model.specs.Actions.{all_arms, arms_of}
use Rattle.flt_life_model.specs.Chain.{LifeView}
use Rattle.flt_life_model.specs.Lives.{AreGiven, arms_by, arms_given, arms_in_life}
use Rattle.flt_life_model.specs.Going.{IsMadeIn, ArmsSince, WereAdded, WereGiven, WereGivenIn}

-- None.
pub none_added : {A : Type 0} (of : ArmMade → A) (arms : Option (List ArmMade)) → WereAdded of [] arms arms
none_added of None = tt
none_added of (Some made) = record { more = []; is = sym (append-nil made); arms_are = refl }

pub none_given : (arms : Option (List ArmMade)) → WereGiven [] arms arms
none_given arms = none_added (λ a. a.arm) arms

-- None, where the arms are as before.
pub none_since : (before after : Option (List ArmMade)) → after ≡ before → WereGiven [] before after
none_since before after same = subst (WereGiven [] before) (sym same) (none_given before)

-- Some, and then more.
pub added_further : {A : Type 0} (of : ArmMade → A) (one two : List A) (first second third : Option (List ArmMade))
    → WereAdded of one first second → WereAdded of two second third → WereAdded of (one ++ two) first third
added_further of one two first second None before after = tt
added_further of one two first None (Some made) before after = absurd after
added_further of one two None (Some middle) (Some made) before after = absurd before
added_further of one two (Some earlier) (Some middle) (Some made) before after = record {
  more = before.more ++ after.more;
  is = after.is ∙ ap (λ front. front ++ after.more) before.is ∙ append_assoc earlier before.more after.more;
  arms_are = map-append of before.more after.more ∙ (λ i. before.arms_are i ++ after.arms_are i);
}

pub given_further : (one two : List Arm) (first second third : Option (List ArmMade)) → WereGiven one first second → WereGiven two second third → WereGiven (one ++ two) first third
given_further = added_further (λ a. a.arm)

-- Those of one step more.
pub arms_more : (steps : List Action) (step : Action) → all_arms (steps ++ step ∷ []) ≡ all_arms steps ++ arms_of step
arms_more [] step = append-nil (arms_of step)
arms_more (first ∷ rest) step = ap (λ back. arms_of first ++ back) (arms_more rest step) ∙ sym (append_assoc (arms_of first) (all_arms rest) (arms_of step))

-- Those of more steps.
pub all_arms-append : (steps more : List Action) → all_arms (steps ++ more) ≡ all_arms steps ++ all_arms more
all_arms-append [] more = refl
all_arms-append (first ∷ rest) more = ap (λ back. arms_of first ++ back) (all_arms-append rest more) ∙ sym (append_assoc (arms_of first) (all_arms rest) (all_arms more))

-- Those of one life, each with the number of boots in it.
each_in : (boots count : ℕ) (more : List ArmMade) → All (IsMadeIn boots count) more → map (λ (a : ArmMade). (a.boots, a.arm)) more ≡ arms_in_life boots (map (λ (a : ArmMade). a.arm) more)
each_in boots count [] all = refl
each_in boots count (made ∷ more) all =
    let life = (All-head (IsMadeIn boots count) made more all).life in
    let rest = each_in boots count more (All-tail (IsMadeIn boots count) made more all) in
    λ i. (life i, made.arm) ∷ rest i

given_in : (boots count : ℕ) (arms : List Arm) (before after : Option (List ArmMade)) → ArmsSince boots count before after → WereGiven arms before after
    → WereGivenIn (arms_in_life boots arms) before after
given_in boots count arms before None since given = tt
given_in boots count arms None (Some made) since given = absurd given
given_in boots count arms (Some earlier) (Some made) since given =
    let same : given.more ≡ since.more = sym (drop-append_seam earlier given.more) ∙ ap (drop (length earlier)) (sym given.is ∙ since.is) ∙ drop-append_seam earlier since.more in
    record {
      more = given.more;
      is = given.is;
      arms_are = each_in boots count given.more (subst (All (IsMadeIn boots count)) (sym same) since.each) ∙ ap (arms_in_life boots) given.arms_are;
    }

-- Those of one life more.
pub more_given : (boots now_boots count : ℕ) (earlier : List LifeView) (life : LifeView) (before now next : Option (List ArmMade)) → now_boots ≡ boots + length earlier
    → WereGivenIn (arms_given boots earlier) before now → ArmsSince (now_boots + 1) count now next → WereGiven (arms_by life.parts life.boot) now next
    → WereGivenIn (arms_given boots (life ∷ earlier)) before next
more_given boots now_boots count earlier life before now next many given since adds =
    let arms = arms_by life.parts life.boot in
    let one = subst (λ n. WereGivenIn (arms_in_life (n + 1) arms) now next) many (given_in (now_boots + 1) count arms now next since adds) in
    added_further (λ a. (a.boots, a.arm)) (arms_given boots earlier) (arms_in_life (boots + length earlier + 1) arms) before now next given one

-- All of them.
pub all_given : (arms : List (ℕ × Arm)) (before after : Option (List ArmMade)) → WereGivenIn arms before after → AreGiven arms before after
all_given arms None None given = tt
all_given arms None (Some made) given = absurd given
all_given arms (Some earlier) None given = tt
all_given arms (Some earlier) (Some made) given =
    ap (map (λ (a : ArmMade). (a.boots, a.arm))) (ap (drop (length earlier)) given.is ∙ drop-append_seam earlier given.more) ∙ given.arms_are
