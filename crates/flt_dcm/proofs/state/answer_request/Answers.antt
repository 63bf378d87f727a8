use Rattle.std.proofs.Common.{◌≡◌, ◌∙◌, Ok, None, sym, ap}
use Rattle.flt_model.specs.Happening.{clear_asked}
use Rattle.flt_model.specs.Request.{asked}
use Rattle.flt_model.specs.Response.{positive, responded, response_to, service_of}
use Rattle.flt_dem.specs.View.{manager_view}
use Rattle.flt_dcm.specs.Session.{is_extended_one}
use Rattle.flt_dcm.proofs.AskedLemmas.{clear_same}
use Rattle.flt_dcm.proofs.DtcLemmas.{stands_uncleared}
use Rattle.flt_dcm.proofs.SessionLemmas.{heard_extended}
use Rattle.flt_dcm.proofs.UnitLemmas.{first_is_service}
use Rattle.flt_dcm.proofs.state.answer_request.Goals as goal

pub returns-in-Ok-clause-stands : goal.returns-in-Ok-clause-stands
returns-in-Ok-clause-stands c = λ life past tester sent same s.
    let told = sym c.read.ensures.exact ∙ c.in-Ok.is in
    c.respond.ensures.stands life past tester sent
    (clear_same c.is_extended.result sent.items ∙ ap (λ xs. clear_asked (asked c.is_extended.result xs)) same ∙ ap clear_asked told) s

pub returns-in-Ok-clause-answer : goal.returns-in-Ok-clause-answer
returns-in-Ok-clause-answer c =
    let bytes = c.args.bytes.now in
    let view = manager_view c.args.dem.now in
    let extended = c.is_extended.ensures ∙ ap is_extended_one c.heard.ensures ∙ heard_extended c.args.session.now in
    let told : asked (is_extended_one c.args.session.now) bytes ≡ Ok c.in-Ok.asked = ap (λ e. asked e bytes) (sym extended) ∙ sym c.read.ensures.exact ∙ c.in-Ok.is in
    c.respond.ensures.answer
    ∙ ap (λ service. responded service c.in-Ok.asked.silent (positive view c.in-Ok.asked.request)) (first_is_service bytes _ c.requires)
    ∙ sym (ap (response_to view (service_of bytes)) told)

pub returns-in-Err-clause-stands : goal.returns-in-Err-clause-stands
returns-in-Err-clause-stands c = λ life past tester sent same s.
    let told = sym c.read.ensures.exact ∙ c.in-Err.is in
    stands_uncleared life past c.args.dem.now s tester sent None
    (clear_same c.is_extended.result sent.items ∙ ap (λ xs. clear_asked (asked c.is_extended.result xs)) same ∙ ap clear_asked told) tt
