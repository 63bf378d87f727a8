use Rattle.std.proofs.Common.{sym, ◌∙◌}
use Rattle.flt_script.proofs.Words.{words_of_none, from_word, word_before, word_alone}
use Rattle.flt_script.proofs.text.split_word.Goals as goal

pub returns-in_err-start : goal.returns-in_err-start
returns-in_err-start c = rw c.from_residual.ensures (words_of_none c.args.line.now (sym c.place_of_word.ensures ∙ c.in_err-start.was))

pub returns-in-Some : goal.returns-in-Some
returns-in-Some c =
    let begins = from_word c.args.line.now c.in_ok-start.start (sym c.place_of_word.ensures ∙ c.in_ok-start.was) in
    let from = rw c.split_at.ensures.back at c.place_of_blank.ensures in
    rw (c.split_at-in-Some.ensures.front, c.split_at-in-Some.ensures.back, c.split_at.ensures.back)
    (begins.same ∙ word_before _ begins.some begins.first c.in-Some.end (sym from ∙ c.in-Some.is))

pub returns-in-None : goal.returns-in-None
returns-in-None c =
    let begins = from_word c.args.line.now c.in_ok-start.start (sym c.place_of_word.ensures ∙ c.in_ok-start.was) in
    let from = rw c.split_at.ensures.back at c.place_of_blank.ensures in
    rw c.split_at.ensures.back (begins.same ∙ word_alone _ begins.some begins.first (sym from ∙ c.in-None.is))
