use Rattle.std.proofs.Common.{◌≤◌, ap, sym, subst, ◌∙◌, Some, IsUtf8, ◌++◌, ◌∷◌, []}
use Rattle.serde_json.specs.Read.{read}
use Rattle.serde_json.specs.Data.{depth}
use Rattle.serde_json.specs.Read.{max_depth}
use Rattle.serde_json.specs.Written.{compact_text, has_float}
use Rattle.flt_trace.specs.Trace.{own_texts, trace_line}
use Rattle.flt_trace.proofs.Line.{line_read, line_utf8, no_float, shallow}
use Rattle.flt_trace.proofs.object.printing.print_trace.Goals as goal

pub returns-clause-line : goal.returns-clause-line
unfolding trace_line
returns-clause-line c =
    let texts = own_texts c.args.texts in
    let value = c.in_ok-value.ensures in
    c.in_ok-push.ensures.items ∙ ap (λ line. line ++ 10 ∷ []) (c.in_ok-line.ensures.text (ap has_float value ∙ no_float texts) ∙ ap compact_text value)

pub returns-clause-utf8 : goal.returns-clause-utf8
returns-clause-utf8 c = subst IsUtf8 (sym c.in_ok-push.ensures.items) (line_utf8 c.in_ok-line.line.items c.in_ok-line.ensures.utf8)

pub returns-clause-reads : goal.returns-clause-reads
returns-clause-reads c =
    let texts = own_texts c.args.texts in
    let value = c.in_ok-value.ensures in
    let line = c.in_ok-line.line.items in
    let is = c.in_ok-line.ensures.text (ap has_float value ∙ no_float texts) ∙ ap compact_text value in
    ap read c.in_ok-push.ensures.items ∙ line_read texts line is ∙ c.in_ok-line.ensures.reads_back (subst (λ d. depth d ≤ max_depth) (sym value) (shallow texts)) ∙ ap Some value
