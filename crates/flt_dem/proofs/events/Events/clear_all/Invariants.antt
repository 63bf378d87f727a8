use Rattle.std.proofs.Common.{◌≡◌, [], false}
use Rattle.flt_dem.proofs.ClearLemmas.{ClearedBelow}
use Rattle.flt_dem.proofs.events.Events.clear_all.Given as goal

abbrev pub invariant-loop-event : goal.invariant-loop-event
invariant-loop-event l = record {
  config : l.self.durable.config ≡ l.fn.self.durable.config;
  gone : l.self.durable.memory ≡ record { entries = []; overflow = false };
  cleared : ClearedBelow l.event l.fn.self l.self;
}
