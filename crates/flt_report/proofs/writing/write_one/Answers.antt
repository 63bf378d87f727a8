use Rattle.std.proofs.KnownBytes.{Appends-nil}
use Rattle.std.proofs.Common.{◌≡◌, ℕ, List, ◌++◌, get_or, subst, sym, ap, ◌∙◌, arith, rules}
use Rattle.std.proofs.lemmas.List.{get_or-map}
use Rattle.flt_life_model.specs.declared.answer.StepAnswer.TheVariants as answers
use Rattle.flt_life_model.specs.Answers.{Told, told_of}
use Rattle.flt_life_model.specs.Room.{told_in}
use Rattle.flt_report.specs.Answer.{step_line}
use Rattle.flt_report.specs.Left.{IsWritten}
use Rattle.flt_report.proofs.Written.{starts}
use Rattle.flt_report.proofs.writing.write_one.Goals as goal

pub returns-in_err-put_step : goal.returns-in_err-put_step
returns-in_err-put_step g c = let none = Appends-nil (g.K.Sink.held c.args.sink.now) in search (rules, none)

pub returns-then-len-lt-PIECE : goal.returns-then-len-lt-PIECE
returns-then-len-lt-PIECE g c =
    let own = c.args.own.now in
    let there = get_or-map (told_of own.responses.items) own.answers.items c.args.index c.index.result.now answers.Dark (omega (arith, c.requires, own.answers.ok.0)) in
    let told : told_of c.deref.result.now c.index.result.now ≡ get_or (told_in own) c.args.index answers.Dark =
    (λ i. told_of (c.deref.ensures.value i) (c.index.ensures i)) ∙ sym there in
    let kept = subst (λ (text : List ℕ). IsWritten (g.K.Sink.held c.args.sink.now) (g.K.Sink.held c.args.sink.now) c.put_step.new.out.items text)
    (c.in_ok-put_step.ensures.ok ∙ ap (λ (answer : Told). c.args.piece.now.items ++ step_line c.args.step.now answer) told)
    (starts (g.K.Sink.held c.args.sink.now) c.put_step.new.out.items) in
    search (rules, kept)
