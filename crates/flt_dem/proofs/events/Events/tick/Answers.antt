use Rattle.std.proofs.Common.{◌∙◌}
use Rattle.flt_model.specs.declared.call.Op.TheVariants as ops
use Rattle.flt_dem.proofs.CallLemmas.{partly_next}
use Rattle.flt_dem.proofs.events.Events.tick.Goals as goal

pub loop-event-preserved : goal.loop-event-preserved
loop-event-preserved g c =
    let inv = c.loop-event.invariant in
    record {
      config = c.tick_one.ensures.config ∙ inv.config;
      stands = λ life past on signals_are conditions_are s.
          partly_next life past (ops.Tick c.args.ticks) c.loop-event.event c.loop-event.self c.tick_one.new.self
          (c.tick_one.ensures.part life past on signals_are conditions_are) (inv.stands life past on signals_are conditions_are s);
    }
