use Rattle.std.proofs.Common.{◌∙◌, ◌∷◌, not, sym, ap, subst}
use Rattle.flt_model.specs.declared.call.Op.TheVariants as ops
use Rattle.flt_dcm.specs.Unit.{SessionsStand}
use Rattle.flt_dcm.proofs.SessionLemmas.{sessions_ticked, off_told}
use Rattle.flt_dcm.proofs.state.UnitState.tick.Goals as goal

pub returns-clause-stands : goal.returns-clause-stands
returns-clause-stands g c = λ life past s.
    let inside = rw (← c.self.view_is) at s in
    let ticks = c.args.ticks in
    let setting = ap not (c.is_setting_off-setting.ensures ∙ off_told past c.self.inside.sessions c.self.invariant.one_each inside.sessions) in
    record {
      dem = c.tick.ensures.stands life past setting inside.dem;
      sessions = subst (λ sessions. SessionsStand (ops.Tick ticks ∷ past) sessions) (sym c.ticked_sessions-self-inside.ensures) (sessions_ticked past ticks c.self.inside.sessions inside.sessions);
      base = inside.base;
    }
