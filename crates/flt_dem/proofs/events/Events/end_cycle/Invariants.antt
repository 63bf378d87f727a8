use Rattle.std.proofs.Common.{◌≡◌, ℕ}
use Rattle.std.specs.Prelude.{slice_get}
use Rattle.flt_model.specs.Start.{Start, History}
use Rattle.flt_model.specs.declared.call.Op.TheVariants as ops
use Rattle.flt_dem.specs.Calls.{StandsAfter, StandsPartly}
use Rattle.flt_dem.specs.Manager.{IsOfOtherCycle}
use Rattle.flt_dem.proofs.events.Events.end_cycle.Given as goal

abbrev pub invariant-loop-event : goal.invariant-loop-event
invariant-loop-event l = record {
  config : l.self.durable.config ≡ l.fn.self.durable.config;
  stands : (life : Start) (past : History) → StandsAfter life past l.fn.self → StandsPartly life past (ops.Cycle l.cycle) l.event l.self;
  debouncing : (event : ℕ) → IsOfOtherCycle l.fn.self.durable.config l.cycle event → slice_get l.self.debounces event ≡ slice_get l.fn.self.debounces event;
  states : (event : ℕ) → IsOfOtherCycle l.fn.self.durable.config l.cycle event → slice_get l.self.durable.states event ≡ slice_get l.fn.self.durable.states event;
}
