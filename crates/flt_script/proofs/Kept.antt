-- A number that is kept where a test holds.
use Rattle.std.proofs.Common.{Bool, Option, Some, None, if◌then◌else◌}

abbrev pub kept : {A : Type 0} → Bool → A → Option A
kept test x = if test then Some x else None
