use Rattle.std.proofs.Common.{sym, ◌∙◌, ap}
use Rattle.std.specs.Option.{option_or}
use Rattle.std.proofs.lemmas.List.Folds.{find-append}
use Rattle.std.specs.Str.{bytes_eq}
use Rattle.flt_script.specs.Line.{spelling, call_keywords, keyword_in, keyword_of, storage_keywords}
use Rattle.flt_script.proofs.keyword.read_keyword.Goals as goal

pub returns-in-Some : goal.returns-in-Some
unfolding keyword_of
returns-in-Some c = sym (find-append (λ keyword. bytes_eq c.args.word.now (spelling keyword)) call_keywords storage_keywords
    ∙ ap (λ found. option_or found (keyword_in storage_keywords c.args.word.now)) (sym c.read_call_keyword.ensures ∙ c.in-Some.is))
