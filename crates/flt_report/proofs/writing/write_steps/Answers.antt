use Rattle.std.proofs.Common.{◌≡◌, ℕ, Option, List, ◌<◌, ◌+◌, ◌++◌, length, get_or, sym, subst, arith, rules, ◌∙◌}
use Rattle.flt_step.specs.declared.step.Step.{Step}
use Rattle.flt_life_model.specs.Answers.{KeptAnswer, told_of}
use Rattle.flt_report.specs.Answer.{step_line}
use Rattle.flt_report.specs.Left.{IsWritten}
use Rattle.flt_report.proofs.Written.{starts, goes_on, stops, so_far, ends, steps_left, steps_more, steps_end}
use Rattle.flt_report.proofs.writing.write_steps.Goals as goal

pub loop-index-init : goal.loop-index-init
loop-index-init g c = record { later = omega arith; written = starts _ _ }

-- The line of the next step comes before those that are left.
line_next : (old new : Option (List ℕ)) (bytes : List ℕ) (steps : List Step) (answers : List KeptAnswer) (index : ℕ) (step : Step) (answer : KeptAnswer) (line whole : List ℕ) → index < length steps → index < length answers
    → line ≡ step_line (get_or steps index step) (told_of bytes (get_or answers index answer)) → IsWritten old new (steps_left bytes steps answers index) whole
    → IsWritten old new (line ++ steps_left bytes steps answers (index + 1)) whole
line_next old new bytes steps answers index step answer line whole there too is on =
    subst (λ text. IsWritten old new (text ++ steps_left bytes steps answers (index + 1)) whole) (sym is)
    (subst (λ left. IsWritten old new left whole) (steps_more bytes steps answers index step answer there too) on)

pub loop-index-preserved : goal.loop-index-preserved
loop-index-preserved g c =
    let there = c.loop-index-test.true in
    let size = c.args.replies.now.answers.ok.0 in
    let was = c.loop-index.invariant.later in
    let later = c.in_ok-push.ensures.cause.later in
    let next = line_next _ _ c.args.replies.now.responses.items c.args.steps.now c.args.replies.now.answers.items c.loop-index.index c.index-steps-index.result c.index.result.now _ _ (omega (arith, there, c.min-count.ensures))
    (omega (arith, there, c.min-count.ensures, c.len.ensures, size))
    (c.deref-in-loop-index.ensures.value ∙ c.in_ok-put_answered.ensures ∙ (λ i. step_line (c.index-steps-index.is i) (told_of (c.deref.ensures.value i) (c.index.ensures i)))) c.loop-index.invariant.written in
    record { later = omega (arith, was, later); written = goes_on _ _ c.deref-in-loop-index.result.now _ _ next _ c.in_ok-push.ensures.ok }

pub returns-in_err-put_answered : goal.returns-in_err-put_answered
returns-in_err-put_answered g c = let front = so_far _ _ _ _ c.loop-index.invariant.written in search (rules, front)

pub returns-in_err-push : goal.returns-in_err-push
returns-in_err-push g c =
    let there = c.loop-index-test.true in
    let size = c.args.replies.now.answers.ok.0 in
    let next = line_next _ _ c.args.replies.now.responses.items c.args.steps.now c.args.replies.now.answers.items c.loop-index.index c.index-steps-index.result c.index.result.now _ _ (omega (arith, there, c.min-count.ensures))
    (omega (arith, there, c.min-count.ensures, c.len.ensures, size))
    (c.deref-in-loop-index.ensures.value ∙ c.in_ok-put_answered.ensures ∙ (λ i. step_line (c.index-steps-index.is i) (told_of (c.deref.ensures.value i) (c.index.ensures i)))) c.loop-index.invariant.written in
    let front = stops _ _ c.deref-in-loop-index.result.now _ _ next _ c.in_err-push.ensures.err in
    search (rules, front)

pub returns : goal.returns
returns g c =
    let bytes = c.args.replies.now.responses.items in
    let past = c.loop-index-test.false in
    let count = c.min-count.ensures in
    let many = c.len.ensures in
    let size = c.args.replies.now.answers.ok.0 in
    let whole = ends _ _ (steps_left bytes c.args.steps.now c.args.replies.now.answers.items c.loop-index.index) _
    (steps_end bytes c.args.steps.now c.args.replies.now.answers.items c.loop-index.index (omega (arith, past, count, many, size))) c.loop-index.invariant.written in
    search (rules, whole)
