-- The status of lives, by the last of them.
use Rattle.std.proofs.Common.{◌≡◌, ◌∙◌, suc, ◌-◌, List, [], ◌∷◌, ◌++◌, Some, arith, drop, drop-cons, length, reverse, take, ap, refl, sym}
use Rattle.std.specs.List.{slice_get}
use Rattle.std.proofs.lemmas.List.{reverse-append, take-append-drop}
use Rattle.std.proofs.lemmas.Option.{get_or_from_slice_get, slice_get_within}
use Rattle.std.proofs.Math.ListN.{drop_of_length-le}
use Rattle.flt_step.specs.declared.step.Step.{Step}
use Rattle.flt_step.specs.Part.{PartOf}
use Rattle.flt_life_model.specs.declared.life.Life.{Life}
use Rattle.flt_life_model.specs.Chain.{LifeView}
use Rattle.flt_life_model.specs.Lives.{lives_seen, view_of, views_of}
use Rattle.flt_life_model.specs.Statuses.{status_by, status_of_lives}

-- A life after others.
record LastView (script : List (List (PartOf Step))) (front : List Life) (life : Life) : Type 0 where
  view : LifeView
  seen : views_of script (front ++ life ∷ []) ≡ views_of script front ++ view ∷ []
  boot : view.boot ≡ life.boot

last_view : (script : List (List (PartOf Step))) (front : List Life) (life : Life) → LastView script front life
last_view [] [] life = record { view = view_of [] life; seen = refl; boot = refl }
last_view (parts ∷ script) [] life = record { view = view_of parts life; seen = refl; boot = refl }
last_view [] (first ∷ rest) life =
    let last = last_view [] rest life in
    record { view = last.view; seen = ap (λ views. view_of [] first ∷ views) last.seen; boot = last.boot }
last_view (parts ∷ script) (first ∷ rest) life =
    let last = last_view script rest life in
    record { view = last.view; seen = ap (λ views. view_of parts first ∷ views) last.seen; boot = last.boot }

-- The status of lives is that of the last.
behind : (script : List (List (PartOf Step))) (front : List Life) (life : Life) → status_of_lives (lives_seen script (front ++ life ∷ [])) ≡ status_by life.boot
behind script front life =
    let last = last_view script front life in
    ap (λ views. status_of_lives (reverse views)) last.seen
    ∙ ap status_of_lives (reverse-append (views_of script front) (last.view ∷ []))
    ∙ ap status_by last.boot

pub status_of_last : (script : List (List (PartOf Step))) (lives : List Life) (life : Life) → slice_get lives (length lives - 1) ≡ Some life → status_of_lives (lives_seen script lives) ≡ status_by life.boot
status_of_last script lives life last =
    let end = length lives - 1 in
    let within = slice_get_within lives end life last in
    let none : drop (suc end) lives ≡ [] = drop_of_length-le lives {i = suc end} (omega (arith, within)) in
    let rest : drop end lives ≡ life ∷ [] =
    drop-cons lives end life within ∙ (λ i. get_or_from_slice_get lives end life life last i ∷ none i) in
    let split : lives ≡ take end lives ++ life ∷ [] = sym (take-append-drop end lives) ∙ ap (λ more. take end lives ++ more) rest in
    ap (λ lives. status_of_lives (lives_seen script lives)) split ∙ behind script (take end lives) life
