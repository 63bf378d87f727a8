use Rattle.std.proofs.Common.{◌≡◌, drop}
use Rattle.serde_json.specs.View.{items_view}
use Rattle.flt_trace.specs.Trace.{texts_seen}
use Rattle.flt_trace.proofs.Strings.{onto}
use Rattle.flt_trace.proofs.object.reading.strings_in.Given as goal

abbrev pub invariant-loop-item : goal.invariant-loop-item
invariant-loop-item l = items_view l.item-items ≡ onto (texts_seen l.texts.items) (items_view (drop l.item-index l.item-items))
