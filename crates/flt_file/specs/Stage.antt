-- How far a device in a file is with its one life.
use Rattle.std.specs.Prelude.{ℕ, Bool, true, false, List, [], ◌∷◌}
use Rattle.flt_file.specs.declared.stage.Stage.{Stage}
use Rattle.flt_file.specs.declared.stage.Stage.TheVariants.{Waiting, On, Broken}

abbrev pub is_off : Stage → Bool
is_off Waiting = true
is_off On = false
is_off Broken = true

-- The one power-up, once it was.
abbrev pub boots_at : {A : Type 0} → Stage → A → List A
boots_at Waiting boot = []
boots_at On boot = boot ∷ []
boots_at Broken boot = boot ∷ []

-- How often the power may still come.
abbrev pub boots_left_at : Stage → ℕ
boots_left_at Waiting = 1
boots_left_at On = 0
boots_left_at Broken = 0
