use Rattle.std.proofs.Common.{◌∷◌, [], sym, subst}
use Rattle.std.specs.Prelude.{All}
use Rattle.std.proofs.lemmas.List.Elements.{All-head}
use Rattle.flt_step.specs.declared.step.Part.{Part}
use Rattle.flt_step.specs.Part.{part_of}
use Rattle.flt_life_model.specs.Actions.{action_of, IsPossibleArm}
use Rattle.flt_life_model.specs.Parts.{own_actions}
use Rattle.flt_lives.proofs.dark.take_dark_part.Goals as goal

pub take_dark_step-answer-requires-clause-possible : goal.take_dark_step-answer-requires-clause-possible
take_dark_step-answer-requires-clause-possible g c =
    subst IsPossibleArm (sym c.action_of.ensures)
    (All-head IsPossibleArm (action_of c.in-One.step) [] (subst (λ (p : Part). All IsPossibleArm (own_actions (part_of p ∷ []))) c.in-One.is c.requires.possible))
