-- Calls that one seat of a lock makes, one after the other, whatever machine is under the lock.
use Rattle.std.specs.Prelude.{◌≡◌, List, [], ◌∷◌}
use Rattle.flt_turn.specs.Call.{IsCall}
use Rattle.flt_turn.specs.Seats.{Seated}
use Rattle.flt_fork.specs.Mixing.{Call}

-- The calls of a seat, between what it knew before and after.
unfoldable pub Chain : {S O R : Type 0} → (S → O → Type 0) → (S → List O → O → R) → Seated S O → List (Call O R) → Seated S O → Type 0
Chain admits answer before [] after = after ≡ before
Chain {S} {O} {R} admits answer before (call ∷ calls) after =
    (between : Seated S O) × IsCall admits answer before between call.op call.told × Chain admits answer between calls after
