use Rattle.std.proofs.Common.{◌≡◌, ℕ, List, ◌∙◌, sym, ap, None, Some}
use Rattle.std.specs.Option.{ok_or}
use Rattle.flt_script.specs.declared.fault.LineCause.TheVariants.{Form}
use Rattle.flt_script.specs.declared.keyword.Keyword.{Keyword}
use Rattle.flt_script.specs.Alone.{step_where}
use Rattle.flt_script.specs.Line.{line_of, line_with}
use Rattle.flt_script.proofs.Unsaid.{begun, says_step}
use Rattle.flt_script.proofs.alone.read_step.Goals as goal

pub returns-in_err-step_with : goal.returns-in_err-step_with
returns-in_err-step_with c =
    let found : Keyword × List (List ℕ) = (c.in_ok-keyword.keyword, c.in_ok-keyword.words) in
    let said : line_of c.args.text.now ≡ ok_or (line_with c.in_ok-keyword.keyword c.in_ok-keyword.words) Form =
    sym (ap line_of c.new.ensures) ∙ c.first_word.ensures ∙ begun c.first_word.result c.in_ok-ok.field-0 found (sym c.ok.ensures.value ∙ c.in_ok-ok.was) c.in_ok-keyword.was in
    c.from_residual-in_err-step_with.ensures
    ∙ sym (ap (step_where c.args.config.now) said ∙ says_step c.args.config.now _ _ None c.in_err-step_with.ensures.said c.in_err-step_with.ensures.none)

pub returns : goal.returns
returns c =
    let found : Keyword × List (List ℕ) = (c.in_ok-keyword.keyword, c.in_ok-keyword.words) in
    let said : line_of c.args.text.now ≡ ok_or (line_with c.in_ok-keyword.keyword c.in_ok-keyword.words) Form =
    sym (ap line_of c.new.ensures) ∙ c.first_word.ensures ∙ begun c.first_word.result c.in_ok-ok.field-0 found (sym c.ok.ensures.value ∙ c.in_ok-ok.was) c.in_ok-keyword.was in
    c.step_in.ensures.value
    ∙ sym (ap (step_where c.args.config.now) said ∙ says_step c.args.config.now _ _ (Some c.in_ok-step_with.field-0) c.in_ok-step_with.ensures.said c.in_ok-step_with.ensures.none)
