use Rattle.std.proofs.Common.{◌≡◌, ◌++◌, ℕ, List, take, drop}
use Rattle.std.specs.Prelude.{fold}
use Rattle.flt_notify.specs.Changes.{changes_from, statuses}
use Rattle.flt_notify.specs.Subscribers.{AreTold}
use Rattle.flt_notify.specs.Value.{next_values}
use Rattle.flt_notify.proofs.values.Values.tell_changes.Given as goal

abbrev pub invariant-loop-event : goal.invariant-loop-event
invariant-loop-event g l =
    (fold (next_values 0) l.self (changes_from l.place l.event (drop l.event l.fn.bytes) (statuses (drop l.event l.states)))
    ≡ fold (next_values 0) l.fn.self (changes_from l.place 0 l.fn.bytes (statuses l.states)))
    × ((later : List ℕ) → AreTold l.subscribers l.self (changes_from l.place l.event (drop l.event l.fn.bytes) (statuses (drop l.event l.states))) later
    → AreTold l.subscribers l.fn.self (changes_from l.place 0 l.fn.bytes (statuses l.states)) later)
    × (l.bytes ≡ take l.event (statuses l.states) ++ drop l.event l.fn.bytes)
