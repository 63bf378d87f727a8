use Rattle.std.proofs.Common.{◌≡◌}
use Rattle.std.specs.Prelude.{map}
use Rattle.std.specs.String.{string_bytes}
use Rattle.flt_trace.proofs.Blocks.{AreBytesTo, texts_to}
use Rattle.flt_trace.proofs.base.printing.base_texts.Given as goal

abbrev pub invariant-loop-id : goal.invariant-loop-id
invariant-loop-id l = record {
  printed : map string_bytes l.texts.items ≡ texts_to l.config l.state l.id;
  bytes : AreBytesTo l.config l.state l.id;
}
