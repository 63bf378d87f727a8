use Rattle.std.proofs.Common.{◌≡◌, false}
use Rattle.flt_model.specs.Start.{Start, History}
use Rattle.flt_model.specs.Happening.{signals, conditions}
use Rattle.flt_model.specs.Session.{is_setting_off}
use Rattle.flt_model.specs.declared.call.Op.TheVariants as ops
use Rattle.flt_dem.specs.Calls.{StandsAfter, StandsPartly}
use Rattle.flt_dem.proofs.events.Events.tick.Given as goal

abbrev pub invariant-loop-event : goal.invariant-loop-event
invariant-loop-event g l = record {
  config : l.self.durable.config ≡ l.fn.self.durable.config;
  stands : (life : Start) (past : History) → is_setting_off past ≡ false → l.signals.values ≡ signals past → l.conditions ≡ conditions past →
      StandsAfter life past l.fn.self → StandsPartly life past (ops.Tick l.ticks) l.event l.self;
}
