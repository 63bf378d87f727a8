-- Worked examples of changes and values.
use Rattle.std.specs.Prelude.{◌≡◌, ℕ, List, [], ◌∷◌}
use Rattle.flt_model.specs.Start.{Start, History, fresh}
use Rattle.flt_model.specs.declared.call.Op.TheVariants.{Cycle}
use Rattle.flt_model.specs.Example.{event, configured, fail, pass, asks}
use Rattle.flt_notify.specs.declared.change.Change.{Change}
use Rattle.flt_notify.specs.Changes.{changes}
use Rattle.flt_notify.specs.Value.{values_after}

-- At a place the byte of an event went from one value to another.
abbrev pub at : ℕ → ℕ → ℕ → ℕ → Change
at place event before after = record { place = place; event = event; before = before; after = after }

-- These calls, the newest first, make these changes and lead to these values of the kinds 0, 1 and 2.
pub record Leads (life : Start) (past : History) (made : List Change) (values : List ℕ) : Type 0 where
  -- The calls make these changes.
  pub changes_made : changes life past ≡ made
  -- They lead to these values.
  pub values_kept : values_after life past ≡ values

-- An event fails and passes. The cycle changes no byte.
abbrev pub FailAndPass : Type 0
FailAndPass =
    Leads (fresh (configured 16 (event 1 ∷ [])))
    (pass 0 ∷ fail 0 ∷ Cycle 0 ∷ [])
    (at 1 0 0x50 0x2F ∷ at 2 0 0x2F 0x2E ∷ [])
    (2 ∷ 12078 ∷ 648415 ∷ [])

-- Two events fail, and a tester clears all: one call changes both, the lower number first.
abbrev pub ClearOfTwo : Type 0
ClearOfTwo =
    Leads (fresh (configured 16 (event 1 ∷ event 2 ∷ [])))
    (asks 0 (0x14 ∷ 0xFF ∷ 0xFF ∷ 0xFF ∷ []) ∷ fail 1 ∷ fail 0 ∷ Cycle 0 ∷ [])
    (at 1 0 0x50 0x2F ∷ at 2 1 0x50 0x2F ∷ at 3 0 0x2F 0x50 ∷ at 3 1 0x2F 0x50 ∷ [])
    (4 ∷ 77648 ∷ 694679520 ∷ [])

-- The memory is full: an event fails and passes, and gives way to another one that fails. This one call changes both.
abbrev pub Displacement : Type 0
Displacement =
    Leads (fresh (configured 1 (event 1 ∷ event 2 ∷ [])))
    (fail 1 ∷ pass 0 ∷ fail 0 ∷ Cycle 0 ∷ [])
    (at 1 0 0x50 0x2F ∷ at 2 0 0x2F 0x2E ∷ at 3 0 0x2E 0x26 ∷ at 3 1 0x50 0x2F ∷ [])
    (4 ∷ 86063 ∷ 623579112 ∷ [])
