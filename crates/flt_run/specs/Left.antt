-- What is left to be written of lives.
use Rattle.std.specs.Prelude.{ℕ, ◌+◌, List, Vec, drop}
use Rattle.flt_step.specs.declared.step.Part.{Part}
use Rattle.flt_life_model.specs.declared.life.Life.{Life}
use Rattle.flt_life_model.specs.Lives.{lists}
use Rattle.flt_run.specs.Report.{lives_text}

-- The lines of the lives from an index on.
abbrev pub lives_left : {A : Type 0} → List (Vec Part A) → List Life → ℕ → List ℕ
lives_left script lives index = lives_text (index + 1) (lists (drop index script)) (drop index lives)
