use Rattle.std.proofs.Common.{◌∙◌, true, false, get_or, sym, ap}
use Rattle.std.specs.Prelude.{slice_get}
use Rattle.flt_model.specs.Happening.{cause_of}
use Rattle.flt_dem.specs.contracts.state.DemState.{the_view}
use Rattle.flt_dem.specs.Manager.{readiness_at}
use Rattle.flt_model.proofs.EnableLaws.{seen}
use Rattle.flt_dem.proofs.ManagerLemmas.{cause_read}
use Rattle.flt_dem.proofs.state.DemState.cause.Goals as goal

pub returns-then-not-meet-clause-cause : goal.returns-then-not-meet-clause-cause
returns-then-not-meet-clause-cause c =
    let event = c.args.event in
    let rules = c.rules-rules.result.now in
    let found = ap (λ f. slice_get f.config.events.items event) (sym c.durable.ensures) ∙ c.rules-rules.ensures.found in
    sym
    (ap (λ m. cause_of (readiness_at c.args.setting m event)) (sym c.self.view_is)
    ∙ cause_read (the_view c.self.inside) event rules c.args.setting c.meet.result found c.meet.ensures
    ∙ ap (λ on. cause_of (seen on (get_or c.self.inside.started rules.cycle false) c.meet.result)) c.if-not-setting.false
    ∙ ap (λ started. cause_of (seen true started c.meet.result)) c.if-not-self-rules.false
    ∙ ap (λ enabled. cause_of (seen true true enabled)) c.if-not-meet.true)

pub returns-else-not-meet-clause-cause : goal.returns-else-not-meet-clause-cause
returns-else-not-meet-clause-cause c =
    let event = c.args.event in
    let rules = c.rules-rules.result.now in
    let found = ap (λ f. slice_get f.config.events.items event) (sym c.durable.ensures) ∙ c.rules-rules.ensures.found in
    sym
    (ap (λ m. cause_of (readiness_at c.args.setting m event)) (sym c.self.view_is)
    ∙ cause_read (the_view c.self.inside) event rules c.args.setting c.meet.result found c.meet.ensures
    ∙ ap (λ on. cause_of (seen on (get_or c.self.inside.started rules.cycle false) c.meet.result)) c.if-not-setting.false
    ∙ ap (λ started. cause_of (seen true started c.meet.result)) c.if-not-self-rules.false
    ∙ ap (λ enabled. cause_of (seen true true enabled)) c.if-not-meet.false)
