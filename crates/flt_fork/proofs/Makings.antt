-- Which calls steps make: of one step more.
use Rattle.std.proofs.Common.{List, [], ◌∷◌, ◌++◌, refl, sym, ap, ◌∙◌}
use Rattle.std.proofs.lemmas.List.{append-nil, append_assoc}
use Rattle.flt_fork.specs.Mixing.{Call}
use Rattle.flt_fork.specs.Making.{AreMadeBy}

module _ {T A O R : Type 0} (MadeBy : T → A → List (Call O R) → Type 0) where
  pub made_more : (steps : List T) (answers : List A) (calls : List (Call O R)) (step : T) (answer : A) (more : List (Call O R)) → AreMadeBy MadeBy steps answers calls → MadeBy step answer more
      → AreMadeBy MadeBy (steps ++ step ∷ []) (answers ++ answer ∷ []) (calls ++ more)
  unfolding AreMadeBy
  made_more [] [] calls step answer more none made = (more, [], ap (λ l. l ++ more) none ∙ sym (append-nil more), made, refl)
  made_more [] (a ∷ answers) calls step answer more are made = absurd are
  made_more (s ∷ steps) [] calls step answer more are made = absurd are
  made_more (s ∷ steps) (a ∷ answers) calls step answer more are made =
      (are.0, are.1 ++ more, ap (λ l. l ++ more) are.2 ∙ append_assoc are.0 are.1 more, are.3, made_more steps answers are.1 step answer more are.4 made)
