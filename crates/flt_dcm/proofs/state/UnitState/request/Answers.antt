use Rattle.std.proofs.Common.{◌≡◌, ◌∙◌, ◌<◌, ◌∷◌, length, arith, sym, ap, subst}
use Rattle.std.specs.Prelude.{slice_set}
use Rattle.flt_model.specs.Request.{asked}
use Rattle.flt_model.specs.Response.{response}
use Rattle.flt_model.specs.declared.call.Op.TheVariants as ops
use Rattle.flt_dem.proofs.ViewLemmas.{read_within, view_told}
use Rattle.flt_dcm.specs.Session.{is_extended_one, heard, after_asked}
use Rattle.flt_dcm.specs.Unit.{UnitView, SessionsStand, session_at}
use Rattle.flt_dcm.specs.declared.session.Session.TheVariants.{Default}
use Rattle.flt_dcm.proofs.SessionLemmas.{sessions_asked}
use Rattle.flt_dcm.proofs.state.UnitState.request.Goals as goal

pub returns-clause-stands : goal.returns-clause-stands
returns-clause-stands c = rw (← c.get.ensures.number) (λ life past s.
    let inside = rw (← c.self.view_is) at s in
    let tester = c.get.result in
    let bytes = c.args.bytes.now in
    let sessions = c.self.inside.sessions in
    let within : tester < length sessions = omega (arith, c.get.ensures.below, c.self.invariant.one_each) in
    let new : c.answer_request.new.session ≡ after_asked (heard (session_at sessions tester)) (asked (is_extended_one (session_at sessions tester)) bytes.items) =
    c.answer_request.ensures.session
    ∙ ap (λ session. after_asked (heard session) (asked (is_extended_one session) c.deref.result.now)) (read_within sessions tester _ Default within)
    ∙ ap (λ xs. after_asked (heard (session_at sessions tester)) (asked (is_extended_one (session_at sessions tester)) xs)) c.deref.ensures.0 in
    record {
      dem = c.answer_request.ensures.stands life past tester bytes (sym c.deref.ensures.0) inside.dem;
      sessions = subst (λ session. SessionsStand (ops.Request tester bytes ∷ past) (slice_set sessions tester session)) (sym new) (sessions_asked past tester bytes sessions within inside.sessions);
      base = inside.base;
    })

pub returns-clause-answer : goal.returns-clause-answer
returns-clause-answer c = rw (← c.get.ensures.number) (λ life past s.
    let inside = rw (← c.self.view_is) at s in
    let tester = c.get.result in
    let sessions = c.self.inside.sessions in
    let within : tester < length sessions = omega (arith, c.get.ensures.below, c.self.invariant.one_each) in
    let extended = ap is_extended_one (read_within sessions tester _ Default within) ∙ sym (inside.sessions tester c.get.ensures.below).extended in
    let seen = view_told life past c.self.inside.dem inside.dem in
    c.answer_request.ensures.answer ∙ (λ i. response (seen i) (extended i) (c.deref.ensures.0 i)))

pub returns-clause-negative : goal.returns-clause-negative
returns-clause-negative c = rw (← c.get.ensures.number) (λ negative.
    let tester = c.get.result in
    let sessions = c.self.inside.sessions in
    let within : tester < length sessions = omega (arith, c.get.ensures.below, c.self.invariant.one_each) in
    let kept = c.answer_request.ensures.negative negative in
    let session = kept.1 ∙ ap heard (read_within sessions tester _ Default within) in
    (λ i. record { dem = kept.0 i; sessions = slice_set sessions tester (session i); base = c.self.inside.base })
    ∙ ap (λ (unit : UnitView). record { dem = unit.dem; sessions = slice_set unit.sessions tester (heard (session_at unit.sessions tester)); base = unit.base }) c.self.view_is)
