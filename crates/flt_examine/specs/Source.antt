-- The source of a run that is traced.
use Rattle.std.specs.Prelude.{ℕ, List}
use Rattle.flt_examine.specs.declared.source.Held.{Held}

-- The bytes that are left in it.
abbrev pub bytes_left_in : Held → List ℕ
bytes_left_in held = held.left.now
