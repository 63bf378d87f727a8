use Rattle.std.proofs.Common.{◌≡◌, ℕ, ◌<◌, false, ◌||◌, length, drop, get_or}
use Rattle.std.specs.List.{find}
use Rattle.std.specs.Prelude.{is_some}
use Rattle.flt_config.specs.declared.TheConstants.{EVENTS}
use Rattle.flt_config.specs.Durable.{is_of_event}
use Rattle.flt_memory.proofs.memory.EventMemory.stored.Given as goal

-- The events of the entries that were passed are marked, and the others come after.
abbrev pub invariant-loop-entry : goal.invariant-loop-entry
invariant-loop-entry l = record {
  size : length l.stored ≡ EVENTS;
  marked : (event : ℕ) → event < length l.stored
      → (get_or l.stored event false || is_some (find (is_of_event event) (drop l.entry-index l.entry-items))) ≡ is_some (find (is_of_event event) l.entry-items);
}
