-- Worked words.
use Rattle.std.specs.Prelude.{◌≡◌, [], ◌∷◌, map, codes, Some, None}
use Rattle.flt_examine.specs.declared.command.Command.TheVariants.{Inspect, Trace, Audit}
use Rattle.flt_examine.specs.Command.{command_of}

-- One word is a command, in small letters.
pub record WordsOfAnInspection : Type 0 where
  pub words : map (λ word. command_of (word ∷ [])) (codes "inspect" ∷ codes "trace" ∷ codes "audit" ∷ codes "dump" ∷ codes "Audit" ∷ [])
      ≡ Some Inspect ∷ Some Trace ∷ Some Audit ∷ None ∷ None ∷ []
  pub none : command_of [] ≡ None
  pub two : command_of (codes "audit" ∷ codes "audit" ∷ []) ≡ None
