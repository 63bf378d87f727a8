use Rattle.std.proofs.Common.{rules, ◌↔◌, All}
use Rattle.std.specs.Prelude.{IsTrue}
use Rattle.std.proofs.lemmas.List.Elements.{All-map}
use Rattle.flt_step.specs.Part.{part_of}
use Rattle.flt_life_model.specs.Parts.{IsPossiblePart}
use Rattle.flt_fork.proofs.Blocks.{all_of_map}
use Rattle.flt_life_model.proofs.possible.are_possible.Goals as goal

pub returns : goal.returns
returns c =
    let each : All (λ part. IsPossiblePart c.args.config.now (part_of part)) c.args.parts.now ↔ IsTrue c.all.result = search rules in (
      λ yes. All-map (IsPossiblePart c.args.config.now) part_of c.args.parts.now (each.1 yes),
      λ all. each.0 (all_of_map (IsPossiblePart c.args.config.now) part_of c.args.parts.now all),
    )
