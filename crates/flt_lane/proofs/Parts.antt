-- The parts of a life that are done, and those that are left.
use Rattle.std.proofs.Common.{◌≡◌, ℕ, suc, ◌<◌, ◌+◌, List, [], ◌∷◌, ◌++◌, length, take, drop, get_or, drop-cons, add-one, sym, ap, ◌∙◌}
use Rattle.std.proofs.lemmas.List.{map_more}
use Rattle.flt_step.specs.declared.step.Part.{Part}
use Rattle.flt_step.specs.declared.step.Step.{Step}
use Rattle.flt_step.specs.Part.{PartOf, part_of, parts_of}

abbrev pub done_of : List Part → ℕ → List (PartOf Step)
done_of parts index = parts_of (take index parts)

abbrev pub left_of : List Part → ℕ → List (PartOf Step)
left_of parts index = parts_of (drop index parts)

module _ (parts : List Part) (index : ℕ) (part : Part) (within : index < length parts) (is : part ≡ get_or parts index part) where
  pub done_more : done_of parts (index + 1) ≡ done_of parts index ++ part_of part ∷ []
  done_more = map_more part_of parts index part within ∙ ap (λ (p : Part). done_of parts index ++ part_of p ∷ []) (sym is)

  pub left_next : left_of parts index ≡ part_of part ∷ left_of parts (index + 1)
  left_next = rw (drop-cons parts index part within, add-one) (ap (λ (p : Part). part_of p ∷ parts_of (drop (suc index) parts)) (sym is))
