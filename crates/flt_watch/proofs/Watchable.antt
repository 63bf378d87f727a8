-- Which scripts a watch makes, by what is read of them.
use Rattle.std.proofs.Common.{◌≡◌, ◌==◌, Bool, true, false, List, [], ◌∷◌, length, get_or, map, arith, refl, sym, ap, ◌∙◌}
use Rattle.std.specs.Prelude.{Vec, ◌&&◌}
use Rattle.std.specs.List.{list_all}
use Rattle.std.proofs.lemmas.List.Folds.{list_all-map}
use Rattle.flt_step.specs.declared.step.Part.{Part}
use Rattle.flt_step.specs.declared.step.Step.{Step}
use Rattle.flt_step.specs.Part.{part_of, parts_of}
use Rattle.flt_life_model.specs.Lives.{lists}
use Rattle.flt_watch.specs.Asked.{all_watched, are_watched, is_watched, is_watched_part}

and_true : (b : Bool) → b ≡ (b && true)
and_true true = refl
and_true false = refl

pub lanes_watched : {A : Type 0} (lanes : List (Vec Step A)) → list_all (λ (lane : Vec Step A). list_all is_watched lane.items) lanes ≡ list_all (λ lane. list_all is_watched lane) (map (λ (lane : Vec Step A). lane.items) lanes)
lanes_watched {A} lanes = sym (list_all-map (λ lane. list_all is_watched lane) (λ (lane : Vec Step A). lane.items) lanes)

-- One life, of such steps.
pub one_watched : {A : Type 0} (lives : List (Vec Part A)) (life : Vec Part A) → length lives ≡ 1 → life ≡ get_or lives 0 life
    → list_all (λ part. is_watched_part (part_of part)) life.items ≡ ((length (lists lives) == 1) && all_watched (lists lives))
one_watched [] life one is = absurd (omega (arith, one))
one_watched {A} (first ∷ []) life one is =
    sym (list_all-map is_watched_part part_of life.items) ∙ ap (λ (l : Vec Part A). are_watched (parts_of l.items)) is ∙ and_true (are_watched (parts_of first.items))
one_watched (first ∷ second ∷ rest) life one is = absurd (omega (arith, one))
