use Rattle.std.proofs.Common.{arith}
use Rattle.std.proofs.lemmas.List.{length-map}
use Rattle.std.proofs.lemmas.List.Folds.{list_all-map}
use Rattle.flt_step.specs.Part.{parts_of}
use Rattle.flt_step.specs.Step.{are_parts_in, steps_of_parts, arms_of_parts, drains_of_parts}
use Rattle.flt_script.proofs.InMemory.{Life, sum_of_lives, sum_of_marks}
use Rattle.flt_script.proofs.script.Script.new.Goals as goal

pub invariant_of-result : goal.invariant_of-result
invariant_of-result c =
    let lives = c.args.lives.items in
    let within = c.requires.within in
    record {
      in_range = rw (← list_all-map (are_parts_in c.args.config) (λ (life : Life). parts_of life.items) lives) within.in_range;
      few = rw (sum_of_lives steps_of_parts lives) within.few;
      few_arms = rw (sum_of_lives arms_of_parts lives) within.few_arms;
      few_drains = rw (sum_of_lives drains_of_parts lives) within.few_drains;
      few_parts = rw (sum_of_marks lives) within.few_parts;
      some_life = c.requires.some;
      few_lives = omega (arith, within.few_lives, length-map lives (λ (life : Life). parts_of life.items));
    }
