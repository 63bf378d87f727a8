-- Which of some lives is the last, and whether it was started.
use Rattle.std.proofs.Common.{◌≡◌, ◌∙◌, ℕ, suc, ◌-◌, List, [], ◌∷◌, ◌++◌, Some, Result, Ok, Err, arith, drop, drop-cons, length, take, ap, inl, sym}
use Rattle.std.specs.Prelude.{IfOk}
use Rattle.std.specs.List.{slice_get}
use Rattle.std.proofs.lemmas.List.{take-append-drop}
use Rattle.std.proofs.lemmas.Option.{get_or_from_slice_get, slice_get_within}
use Rattle.std.proofs.Math.ListN.{drop_of_length-le}
use Rattle.flt_config.specs.declared.config.Config.{Config}
use Rattle.flt_config.specs.declared.persist.Persist.{Persist}
use Rattle.flt_life_model.specs.declared.life.Boot.TheVariants.{Started}
use Rattle.flt_life_model.specs.declared.life.Life.{Life}
use Rattle.flt_examine.specs.Lines.{IsLastLine, IsLineOf, LastStarts}

-- The lives before the last.
abbrev pub before_last : List Life → List Life
before_last lives = take (length lives - 1) lives

pub split_last : (lives : List Life) (life : Life) → slice_get lives (length lives - 1) ≡ Some life → lives ≡ before_last lives ++ life ∷ []
split_last lives life last =
    let end = length lives - 1 in
    let within = slice_get_within lives end life last in
    let none : drop (suc end) lives ≡ [] = drop_of_length-le lives {i = suc end} (omega (arith, within)) in
    let rest : drop end lives ≡ life ∷ [] =
    drop-cons lives end life within ∙ (λ i. get_or_from_slice_get lives end life life last i ∷ none i) in
    sym (take-append-drop end lives) ∙ ap (λ more. take end lives ++ more) rest

-- The last life was started.
pub starts : (lives : List Life) (life : Life) (number : ℕ) (start : Persist) → slice_get lives (length lives - 1) ≡ Some life → life.boot ≡ Started number start → LastStarts lives life start
starts lives life number start is begun = record {
  earlier = before_last lives;
  last = split_last lives life is;
  number = number;
  begun = begun;
}

-- Its line is the last line.
pub line_of_last : {V E : Type 0} (items : V → List ℕ) (c : Config) (bytes : List ℕ) (lives : List Life) (life : Life) (start : Persist) (made : Result V E) → LastStarts lives life start
    → IfOk made (λ line. IsLineOf c bytes start life (items line)) → IfOk made (λ line. IsLastLine c bytes lives (items line))
line_of_last items c bytes lives life start (Ok line) last is = inl (life, start, last, is)
line_of_last items c bytes lives life start (Err e) last is = tt
