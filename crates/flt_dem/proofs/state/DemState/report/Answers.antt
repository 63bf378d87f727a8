use Rattle.std.proofs.Common.{◌∙◌, Some, None, sym, ap}
use Rattle.std.specs.Prelude.{is_none}
use Rattle.flt_dem.proofs.ManagerLemmas.{cause_is_answer, counts_where, stands_ignored}
use Rattle.flt_dem.proofs.state.DemState.report.Goals as goal

pub returns-in-Some-clause-stands : goal.returns-in-Some-clause-stands
returns-in-Some-clause-stands g c = λ life past setting s.
    let ignored = counts_where life past c.args.self.now c.args.event c.args.setting c.cause.result c.cause.ensures.valid c.requires.configured setting s c.cause.ensures.cause in
    stands_ignored life past c.args.self.now c.args.event c.args.report (sym ignored ∙ ap is_none c.in-Some.is) s

pub returns-in-Some-clause-answer : goal.returns-in-Some-clause-answer
returns-in-Some-clause-answer g c = λ life past setting s.
    cause_is_answer life past c.args.self.now c.args.event c.args.report c.args.setting (Some c.in-Some.cause) c.cause.ensures.valid c.requires.configured setting s c.in-Some.ensures.cause

pub returns-in-None-clause-stands : goal.returns-in-None-clause-stands
returns-in-None-clause-stands g c = λ life past setting s.
    let counted = counts_where life past c.args.self.now c.args.event c.args.setting c.cause.result c.cause.ensures.valid c.requires.configured setting s c.cause.ensures.cause in
    let inside = rw (← c.self.view_is) at s in
    record {
      events = c.report.ensures.stands life past (sym counted ∙ ap is_none c.in-None.is) inside.signals inside.events;
      started = inside.started;
      signals = inside.signals;
      conditions = inside.conditions;
    }

pub returns-in-None-clause-answer : goal.returns-in-None-clause-answer
returns-in-None-clause-answer g c = λ life past setting s.
    cause_is_answer life past c.args.self.now c.args.event c.args.report c.args.setting None c.cause.ensures.valid c.requires.configured setting s c.in-None.ensures.cause
