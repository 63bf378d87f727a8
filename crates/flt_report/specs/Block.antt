-- The lines that begin and end a block of lanes, and those that begin its lanes.
use Rattle.std.specs.Prelude.{ℕ, List, [], ◌∷◌, ◌++◌, codes}
use Rattle.std.specs.Fmt.{decimal}

-- The line that begins a block.
abbrev pub par_line : List ℕ
par_line = codes "par" ++ 10 ∷ []

-- The line that begins the lane of this number.
abbrev pub lane_line : ℕ → List ℕ
lane_line lane = codes "lane " ++ decimal lane ++ 10 ∷ []

-- The line that ends a block.
abbrev pub end_line : List ℕ
end_line = codes "end" ++ 10 ∷ []
