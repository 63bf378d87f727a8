use Rattle.std.proofs.Common.{◌≡◌, ◌-◌, length, drop, Ok}
use Rattle.flt_config.specs.declared.persist.Persist.{Persist}
use Rattle.flt_trace.specs.Trace.{texts_seen}
use Rattle.flt_trace.specs.Base.{IsBaseOf}
use Rattle.flt_trace.proofs.Blocks.{so_far, texts_from}
use Rattle.flt_trace.proofs.base.reading.take_blocks.Given as goal

abbrev pub invariant-loop-id : goal.invariant-loop-id
invariant-loop-id l = record {
  states : length l.state.events.items ≡ length l.config.events.items;
  taken : (p : Persist) → IsBaseOf l.config (texts_seen l.texts) p → so_far l.config p (l.id - 3) ≡ Ok l.state;
  texts : (p : Persist) → IsBaseOf l.config (texts_seen l.texts) p → drop l.place (texts_seen l.texts) ≡ texts_from l.config p l.id;
}
