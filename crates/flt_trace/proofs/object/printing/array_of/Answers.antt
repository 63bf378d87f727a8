use Rattle.std.proofs.Common.{ap, arith, map, ◌∙◌}
use Rattle.std.specs.String.{string_bytes}
use Rattle.serde_json.specs.Data.{array, string}
use Rattle.serde_json.specs.View.{items_of}
use Rattle.flt_trace.proofs.Strings.{array_strings, gone_over}
use Rattle.flt_trace.proofs.object.printing.array_of.Goals as goal

pub returns : goal.returns
returns c =
    let rest = c.loop-text.text-iterator.rest in
    let none = c.in-None.ensures.steps.0 in
    let len = rest.ok in
    let whole = gone_over c.loop-text.yielded rest.items c.args.texts.items c.loop-text.invariant.all (omega (arith, none, len)) in
    c.from.ensures ∙ ap (λ items. array (items_of items)) c.loop-text.invariant.strings
    ∙ ap (λ texts. array (items_of (map (λ text. string (string_bytes text)) texts))) whole ∙ ap array (array_strings c.args.texts.items)
