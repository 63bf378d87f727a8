use Rattle.std.proofs.Common.{◌∙◌, sym, subst}
use Rattle.flt_model.specs.declared.call.Op.TheVariants as ops
use Rattle.flt_dem.specs.Manager.{IsOfOtherCycle}
use Rattle.flt_dem.proofs.CallLemmas.{partly_next}
use Rattle.flt_dem.proofs.events.Events.end_cycle.Goals as goal

pub loop-event-preserved : goal.loop-event-preserved
loop-event-preserved c =
    let inv = c.loop-event.invariant in
    record {
      config = c.end_cycle_one.ensures.config ∙ inv.config;
      stands = λ life past s.
          partly_next life past (ops.Cycle c.args.cycle) c.loop-event.event c.loop-event.self c.end_cycle_one.new.self
          (c.end_cycle_one.ensures.part life past) (inv.stands life past s);
      debouncing = λ event apart. c.end_cycle_one.ensures.debouncing event (subst (λ k. IsOfOtherCycle k c.args.cycle event) (sym inv.config) apart) ∙ inv.debouncing event apart;
      states = λ event apart. c.end_cycle_one.ensures.states event (subst (λ k. IsOfOtherCycle k c.args.cycle event) (sym inv.config) apart) ∙ inv.states event apart;
    }
