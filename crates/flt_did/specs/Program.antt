-- The data identifiers of the program.
use Rattle.std.specs.Prelude.{ℕ, List, [], ◌∷◌}
use Rattle.flt_config.specs.declared.config.DidUse.{DidUse}

-- A data identifier with its width in bytes.
abbrev pub did_use : ℕ → ℕ → DidUse
did_use id width = record { id = id; width = width }

-- The data identifiers of the program, in the order in which its table has them.
abbrev pub program_dids : List DidUse
program_dids = did_use 0x0101 2 ∷ did_use 0x0102 2 ∷ did_use 0x0103 1 ∷ did_use 0x0104 4 ∷ did_use 0x0105 1 ∷ did_use 0x0106 2 ∷ did_use 0x0107 8 ∷ []
