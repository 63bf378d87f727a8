use Rattle.std.proofs.Common.{◌∙◌, not, ap}
use Rattle.flt_model.specs.declared.call.Op.TheVariants as ops
use Rattle.flt_dcm.proofs.SessionLemmas.{sessions_kept, off_told}
use Rattle.flt_dcm.proofs.state.UnitState.report.Goals as goal
use Rattle.flt_dcm.proofs.state.UnitState.report.Goals.{in-Some, in-None}

pub returns-clause-stands : goal.returns-clause-stands
returns-clause-stands g c = λ life past s.
    let inside = rw (← c.self.view_is) at s in
    let setting = ap not (c.is_setting_off-setting.ensures ∙ off_told past c.self.inside.sessions c.self.invariant.one_each inside.sessions) in
    record {
      dem = c.report.ensures.stands life past setting inside.dem;
      sessions = sessions_kept past (ops.Report c.args.event c.args.report) c.self.inside.sessions tt inside.sessions;
      base = inside.base;
    }

pub returns-clause-answer : goal.returns-clause-answer
returns-clause-answer g c = λ response life past s.
    let inside = rw (← c.self.view_is) at s in
    let setting = ap not (c.is_setting_off-setting.ensures ∙ off_told past c.self.inside.sessions c.self.invariant.one_each inside.sessions) in
    elim c.match-report.branch [
      | in-Some w ↦ rw w.result-is (w.in-Some.ensures.answer life past setting inside.dem)
      | in-None w ↦ rw w.result-is (w.in-None.ensures.answer life past setting inside.dem)
    ]
