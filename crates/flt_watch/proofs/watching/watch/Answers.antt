use Rattle.std.proofs.Common.{⊎_elim, inl, inr, ◌∙◌}
use Rattle.flt_notify.specs.Table.{kinds_in, values_in}
use Rattle.flt_script.specs.Fault.{script_fault_line, unread_line}
use Rattle.flt_script.specs.Script.{content}
use Rattle.flt_watch.specs.Text.{other_line}
use Rattle.flt_filter.specs.Verdict.{writing_of}
use Rattle.flt_watch.proofs.MadeScript.{nothing_written}
use Rattle.flt_watch.proofs.TurnedAway.{turned_away}
use Rattle.flt_watch.proofs.watching.watch.Goals as goal

pub returns-in-Watch : goal.returns-in-Watch
returns-in-Watch g c =
    let asked = rw c.in-Watch.is at c.ask.ensures in
    ⊎_elim (λ made. inl (record { script = content c.in-Watch.script; is = asked.1; watchable = asked.2; end = asked.0; made = made })) (λ wants. inr (inr (inr (inr wants)))) c.watch_script.ensures

pub returns-in-Other : goal.returns-in-Other
returns-in-Other g c =
    let asked = rw c.in-Other.is at c.ask.ensures in
    let writing = writing_of g.K.Sink.held g.K.Sink.faults c.args.sink.now c.write_other.new.sink in
    let told = c.write_other.ensures in
    ⊎_elim (λ away. inr (inl (record { script = asked.1.0; is = asked.1.1; other = asked.1.2; end = asked.0; told = away }))) (λ wants. inr (inr (inr (inr wants))))
    (turned_away writing 2 other_line (kinds_in c.args.subs) (values_in c.args.subs) c.write_other.result c.unmade.result told.ok told.err told.cause (c.unmade.ensures.status ∙ c.status_by-status.ensures) c.unmade.ensures.unmade)

pub returns-in-Memory : goal.returns-in-Memory
returns-in-Memory g c =
    let unmade = c.unmade-in-Memory.ensures in
    inr (inr (inr (inr (record { status_is = unmade.status; journal = unmade.unmade.journal; answers = unmade.unmade.answers; kept = nothing_written (g.K.Sink.held c.args.sink.now) }))))

pub returns-in-Refused : goal.returns-in-Refused
returns-in-Refused g c =
    let asked = rw c.in-Refused.is at c.ask.ensures in
    let writing = writing_of g.K.Sink.held g.K.Sink.faults c.args.sink.now c.write_script_fault.new.sink in
    let told = c.write_script_fault.ensures in
    ⊎_elim (λ away. inr (inr (inl (record { fault = c.in-Refused.fault; none = asked.1; lost = asked.0; told = away })))) (λ wants. inr (inr (inr (inr wants))))
    (turned_away writing 2 (script_fault_line c.in-Refused.fault) (kinds_in c.args.subs) (values_in c.args.subs) c.write_script_fault.result c.unmade-in-Refused.result told.ok told.err told.cause
    (c.unmade-in-Refused.ensures.status ∙ c.status_by-status-in-Refused.ensures) c.unmade-in-Refused.ensures.unmade)

pub returns-in-Unread : goal.returns-in-Unread
returns-in-Unread g c =
    let asked = rw c.in-Unread.is at c.ask.ensures in
    let writing = writing_of g.K.Sink.held g.K.Sink.faults c.args.sink.now c.write_unread.new.sink in
    let told = c.write_unread.ensures in
    ⊎_elim (λ away. inr (inr (inr (inl (record { rose = asked; told = away }))))) (λ wants. inr (inr (inr (inr wants))))
    (turned_away writing 3 unread_line (kinds_in c.args.subs) (values_in c.args.subs) c.write_unread.result c.unmade-in-Unread.result told.ok told.err told.cause
    (c.unmade-in-Unread.ensures.status ∙ c.status_by-status-in-Unread.ensures) c.unmade-in-Unread.ensures.unmade)
