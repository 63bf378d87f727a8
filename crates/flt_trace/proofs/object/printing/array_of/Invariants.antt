use Rattle.std.proofs.Common.{◌≡◌, ◌++◌, map}
use Rattle.std.specs.String.{string_bytes}
use Rattle.serde_json.specs.Data.{string}
use Rattle.serde_json.specs.View.{view}
use Rattle.flt_trace.proofs.object.printing.array_of.Given as goal

abbrev pub invariant-loop-text : goal.invariant-loop-text
invariant-loop-text l = record {
  all : l.yielded ++ l.text-iterator.rest.items ≡ l.fn.texts.items;
  strings : map view l.values.items ≡ map (λ text. string (string_bytes text)) l.yielded;
}
