use Rattle.std.proofs.Common.{◌∙◌, not, ◌&&◌, cond, Some, None, refl, sym, ap}
use Rattle.flt_model.specs.Debounce.{Ticked}
use Rattle.flt_model.specs.Happening.{is_enabled}
use Rattle.flt_model.specs.Session.{is_setting_off}
use Rattle.flt_model.specs.declared.call.Op.TheVariants as ops
use Rattle.flt_dem.specs.Manager.{events_of}
use Rattle.flt_dem.proofs.CallLemmas.{stands_none}
use Rattle.flt_dem.proofs.ManagerLemmas.{off_where}
use Rattle.flt_dem.proofs.state.DemState.tick.Goals as goal

pub returns-else-setting-clause-stands : goal.returns-else-setting-clause-stands
returns-else-setting-clause-stands g c = λ life past setting s.
    let off = off_where (is_setting_off past) (sym setting ∙ c.if-setting.false) in
    record {
      events = stands_none life past (ops.Tick c.args.ticks) (events_of c.args.self.now) (λ marks. refl)
          (λ event within. ap (λ b. cond (not b && is_enabled life event past) (Some (Ticked c.args.ticks)) None) off) s.events;
      started = s.started;
      signals = s.signals;
      conditions = s.conditions;
    }
