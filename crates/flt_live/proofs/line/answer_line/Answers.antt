use Rattle.std.proofs.Common.{◌≡◌, ◌∙◌, inl, ap, refl, sym, subst}
use Rattle.flt_dcm.specs.Whole.{unit_seen}
use Rattle.flt_life_model.specs.Answers.{Told, told_with}
use Rattle.flt_report.specs.Answer.{step_line}
use Rattle.flt_live.specs.declared.line.Due.{Due}
use Rattle.flt_live.specs.declared.line.Due.TheVariants as due
use Rattle.flt_live.specs.Answered.{IsLineAnswered}
use Rattle.flt_live.specs.Due.{due_at}
use Rattle.flt_live.specs.Made.{MakesStep}
use Rattle.flt_live.proofs.line.answer_line.Goals as goal

pub returns-in-Make-clause-answered : goal.returns-in-Make-clause-answered
returns-in-Make-clause-answered g c =
    let config = c.args.config.now in
    let step = c.in-Make.step in
    let kind = c.make-answer.result in
    let told = told_with c.as_slice.result.now kind in
    let same : told_with c.make-answer.new.buffers.response.items kind ≡ told = ap (λ bytes. told_with bytes kind) (sym c.as_slice.ensures.value) in
    let is : due_at config c.args.text.now ≡ due.Make step = sym c.in_ok-due_of.ensures.due ∙ c.in-Make.is in
    let made = subst (λ (answer : Told). MakesStep config step answer (unit_seen c.args.unit.now) (unit_seen c.make-answer.new.unit) c.args.queue.now c.make-answer.new.queue c.args.store.now c.make-answer.new.store) same
    (c.make-answer.ensures.made step (sym c.action_of-action.ensures)) in
    subst (λ (what : Due). IsLineAnswered config what g.K.Sink.held g.K.Sink.faults c.args.sink.now c.say.new.sink (unit_seen c.args.unit.now) (unit_seen c.make-answer.new.unit) c.args.queue.now c.make-answer.new.queue
    c.args.store.now c.make-answer.new.store c.say.result) (sym is)
    (record { line = step_line step told; answers = inl (told, refl, made); written = c.say.ensures.written; told = c.say.ensures.told })
