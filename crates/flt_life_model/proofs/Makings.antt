-- Which calls steps make: of one step more, and of one part more.
use Rattle.std.proofs.Common.{◌≡◌, ℕ, ◌+◌, List, [], ◌∷◌, ◌++◌, arith, refl, sym, ap, subst, ◌∙◌}
use Rattle.std.proofs.lemmas.List.{append-nil, append_assoc}
use Rattle.flt_step.specs.Part.{PartOf}
use Rattle.flt_fork.specs.Mixing.{Call, Block}
use Rattle.flt_life_model.specs.Parts.{width, widths}
use Rattle.flt_life_model.specs.Making.{PartMakes, PartsMake}

module _ {T : Type 0} where
  pub widths_more : (parts : List (PartOf T)) (part : PartOf T) → widths (parts ++ part ∷ []) ≡ widths parts + width part
  widths_more [] part = omega arith
  widths_more (p ∷ parts) part = let more = widths_more parts part in omega (arith, more)

  pub widths-append : (parts more : List (PartOf T)) → widths (parts ++ more) ≡ widths parts + widths more
  widths-append [] more = omega arith
  widths-append (p ∷ parts) more = let rest = widths-append parts more in omega (arith, rest)

module _ {T A O R : Type 0} (MadeBy : T → A → List (Call O R) → Type 0) where
  pub parts_none : (number : ℕ) → PartsMake MadeBy number [] [] [] []
  unfolding PartsMake
  parts_none number = (refl, refl, refl)

  pub parts_more : (number next : ℕ) (parts : List (PartOf T)) (own : List A) (lanes : List (List A)) (blocks : List (Block O R)) (part : PartOf T) (mine : List A) (others : List (List A)) (made : Block O R)
      → next ≡ number + widths parts → PartsMake MadeBy number parts own lanes blocks → PartMakes MadeBy next part mine others made
      → PartsMake MadeBy number (parts ++ part ∷ []) (own ++ mine) (lanes ++ others) (blocks ++ made ∷ [])
  unfolding PartsMake
  parts_more number next [] own lanes blocks part mine others made is none makes = (
    mine,
    [],
    others,
    [],
    made,
    [],
    ap (λ l. l ++ mine) none.0 ∙ sym (append-nil mine),
    ap (λ l. l ++ others) none.1 ∙ sym (append-nil others),
    ap (λ l. l ++ made ∷ []) none.2,
    subst (λ n. PartMakes MadeBy n part mine others made) (omega (arith, is)) makes,
    (refl, refl, refl),
  )
  parts_more number next (p ∷ parts) own lanes blocks part mine others made is are makes = (
    are.0,
    are.1 ++ mine,
    are.2,
    are.3 ++ others,
    are.4,
    are.5 ++ made ∷ [],
    ap (λ l. l ++ mine) are.6 ∙ append_assoc are.0 are.1 mine,
    ap (λ l. l ++ others) are.7 ∙ append_assoc are.2 are.3 others,
    ap (λ l. l ++ made ∷ []) are.8,
    are.9,
    parts_more (number + width p) next parts are.1 are.3 are.5 part mine others made (omega (arith, is)) are.10 makes,
  )
