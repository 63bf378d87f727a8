-- Worked values of the kinds of subscribers.
use Rattle.std.specs.Prelude.{◌≡◌, ℕ, map, [], ◌∷◌}
use Rattle.flt_notify.specs.declared.change.Change.{Change}
use Rattle.flt_notify.specs.Value.{next_value}

-- At a place the byte of event 1 went from 50 to 2F.
abbrev pub a_change : Change
a_change = record { place = 9; event = 1; before = 0x50; after = 0x2F }

-- The value of a kind that follows this one, after that change.
abbrev pub after_a_change : ℕ → ℕ → ℕ
after_a_change kind value = next_value kind value a_change

-- The count of the changes stays at its greatest value, the last change is another, and the checksum goes on from its greatest value.
pub record KindsAtTheirEnds : Type 0 where
  pub counts : map (after_a_change 0) (0 ∷ 0xFFFFFFFE ∷ 0xFFFFFFFF ∷ []) ≡ 1 ∷ 0xFFFFFFFF ∷ 0xFFFFFFFF ∷ []
  pub last : map (after_a_change 1) (0 ∷ 0xFFFFFFFF ∷ []) ≡ 0x0001502F ∷ 0x0001502F ∷ []
  pub checksums : map (after_a_change 2) (0 ∷ 1 ∷ 0xFFFFFFFF ∷ []) ≡ 0x0001502F ∷ 0x0001504E ∷ 0x00015010 ∷ []
