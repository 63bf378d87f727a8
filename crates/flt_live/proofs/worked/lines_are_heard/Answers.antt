use Rattle.std.proofs.Common.{◌≡◌, ◌∙◌, [], ◌∷◌, ℕ, List, refl, sym, subst, arith}
use Rattle.std.specs.Prelude.{◌≢◌}
use Rattle.std.proofs.lemmas.List.Elements.{All-nil, All-cons}
use Rattle.flt_config.specs.declared.config.Config.{Config}
use Rattle.flt_step.specs.declared.step.Step.TheVariants as steps
use Rattle.flt_live.specs.declared.line.Due.{Due}
use Rattle.flt_live.specs.Examples.{SayNothing, fed}
use Rattle.flt_live.specs.Heard.{AreHeard, LineComesTo}
use Rattle.flt_live.specs.Made.{Made}
use Rattle.flt_live.proofs.worked.lines_are_heard.Goals as goal

none : (made : List Made) (line : List ℕ) (c : Config) (say : SayNothing c) → AreHeard c (fed [] line ∷ []) made → (line ≡ 10 ∷ []) × (made ≡ [])
none made line c say heard =
    let comes = subst (λ (what : Due). LineComesTo what line heard.0 made) say.empty heard.3 in
    (comes.0, comes.1 ∙ heard.1)

pub returns : goal.returns
returns c = λ config say. record {
  two = (
    [],
    ([], refl, All-nil (λ byte. byte ≢ 10), subst (λ (what : Due). LineComesTo what (10 ∷ []) [] []) (sym say.empty) (refl, refl)),
    (All-cons (λ byte. byte ≢ 10) 35 (120 ∷ []) (λ is. absurd (cc is)) (All-cons (λ byte. byte ≢ 10) 120 [] (λ is. absurd (cc is)) (All-nil (λ byte. byte ≢ 10))), omega arith),
    subst (λ (what : Due). LineComesTo what (10 ∷ []) [] []) (sym say.comment) (refl, refl),
  );
  taken = refl;
  written = refl;
  silent = λ made heard. absurd (cc (none made [] config say heard).0);
  twice = λ made heard. absurd (cc (none made (10 ∷ 10 ∷ []) config say heard).0);
  at_end = λ made heard. heard.2;
  none_made = λ told heard.
      (let comes = subst (λ (what : Due). LineComesTo what (10 ∷ []) heard.0 ((steps.Save, told) ∷ [])) say.comment heard.3 in
      let first = none heard.0 (10 ∷ []) config say heard.1 in
      absurd (cc (comes.1, first.1)));
}
