use Rattle.std.proofs.Common.{rules, ◌≡◌, List, subst}
use Rattle.std.specs.Prelude.{IfOk, IfSome}
use Rattle.json.specs.Lex.{tokens}
use Rattle.json.specs.Token.{Token}
use Rattle.flt_trace.specs.Trace.{texts_of, trace_tokens}
use Rattle.flt_trace.proofs.InOrder.{all_read}
use Rattle.flt_trace.proofs.object.tokens.read_line.Goals as goal

pub returns-clause-reads : goal.returns-clause-reads
returns-clause-reads c =
    let lent : c.in_ok-reader.reader ≡ tokens c.args.bytes.now = search rules in
    all_read c.args.bytes.now c.texts_in_order.result
    (subst (λ (l : List Token). IfOk c.texts_in_order.result (λ found. IfSome found (λ trace. l ≡ trace_tokens (texts_of trace)))) lent c.texts_in_order.ensures)
