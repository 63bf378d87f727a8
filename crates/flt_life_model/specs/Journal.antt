-- The journal of a life, newest entry first: which state was saved last, and which states were taken since.
use Rattle.std.specs.Prelude.{◌≡◌, ◌⊎◌, ℕ, Bool, true, false, ◌&&◌, ◌==◌, if◌then◌else◌, List, [], ◌∷◌, map, Option, Some, None}
use Rattle.flt_config.specs.declared.persist.Persist.{Persist}
use Rattle.flt_model.specs.Start.{Start, History}
use Rattle.flt_model.specs.Durable.{saved_after}
use Rattle.flt_model.specs.declared.call.Op.{Op}
use Rattle.flt_model.specs.declared.call.Op.TheVariants as ops
use Rattle.flt_store_model.specs.Holding.{Generation}
use Rattle.flt_turn.specs.declared.vault.Entry.{Entry}

abbrev pub Journal : Type 0
Journal = List (Entry Op)

abbrev pub entry : ℕ → Op → Entry Op
entry lane op = record { lane = lane; op = op }

-- The calls of a journal.
abbrev pub calls_of : Journal → History
calls_of journal = map (λ e. e.op) journal

abbrev pub is_snapshot : Op → Bool
is_snapshot ops.Snapshot = true
is_snapshot _ = false

-- The state that the last snapshot of a lane took.
abbrev pub snapshot_of : Start → ℕ → Journal → Option Persist
snapshot_of start lane [] = None
snapshot_of start lane (e ∷ earlier) =
    if is_snapshot e.op && (e.lane == lane) then Some (saved_after start (calls_of earlier)) else snapshot_of start lane earlier

-- A save is acknowledged with its number, and with the state that its lane took last; no other call acknowledges anything.
abbrev pub AcknowledgesBy : Start → ℕ → Journal → Op → Generation → Type 0 → Type 0
AcknowledgesBy start lane earlier (ops.Saved number) g before = (g.number ≡ number) × (snapshot_of start lane earlier ≡ Some g.state)
AcknowledgesBy start lane earlier _ g before = before

-- The generation that was acknowledged last; before the first save it is the one with which the life started.
abbrev pub Acknowledges : Start → Generation → Journal → Generation → Type 0
Acknowledges start first [] g = g ≡ first
Acknowledges start first (e ∷ earlier) g = AcknowledgesBy start e.lane earlier e.op g (Acknowledges start first earlier g)

-- A snapshot takes the state of its place; after an acknowledged save there is none.
abbrev pub TakesBy : Start → Journal → Op → Persist → Type 0 → Type 0
TakesBy start earlier ops.Snapshot state before = (state ≡ saved_after start (calls_of earlier)) ⊎ before
TakesBy start earlier (ops.Saved number) state before = ⊥
TakesBy start earlier _ state before = before

-- The state was taken by a snapshot after the last acknowledged save.
abbrev pub IsTakenSince : Start → Journal → Persist → Type 0
IsTakenSince start [] state = ⊥
IsTakenSince start (e ∷ earlier) state = TakesBy start earlier e.op state (IsTakenSince start earlier state)
