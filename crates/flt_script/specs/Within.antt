-- What the lives of a script keep to. This serves the proof; the type Script says the same of its lives.
use Rattle.std.specs.Prelude.{ℕ, ◌+◌, ◌≤◌, List, length, IsTrue, sum_by}
use Rattle.std.specs.List.{list_all}
use Rattle.flt_config.specs.declared.config.Config.{Config}
use Rattle.flt_step.specs.declared.step.Step.{Step}
use Rattle.flt_step.specs.Part.{PartOf}
use Rattle.flt_step.specs.Step.{are_parts_in, steps_of_parts, lanes_of_parts, arms_of_parts, drains_of_parts}

-- How many lines parts have at least: each step and each block one, and each lane one.
abbrev pub lines_at_least : List (PartOf Step) → ℕ
lines_at_least parts = length parts + lanes_of_parts parts

-- Each step is in its ranges, and there are not too many steps, arms, drains, parts, lanes and lives.
pub record IsWithinLimits (config : Config) (lives : List (List (PartOf Step))) : Type 0 where
  pub in_range : IsTrue (list_all (are_parts_in config) lives)
  pub few : sum_by steps_of_parts lives ≤ 65536
  pub few_arms : sum_by arms_of_parts lives ≤ 64
  pub few_drains : sum_by drains_of_parts lives ≤ 1024
  pub few_parts : sum_by lines_at_least lives ≤ 1048577
  pub few_lives : length lives ≤ 256
