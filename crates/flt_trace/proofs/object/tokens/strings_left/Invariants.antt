use Rattle.std.proofs.Common.{◌≡◌, ◌++◌, length, map}
use Rattle.json.specs.Token.{string}
use Rattle.flt_trace.specs.Trace.{texts_seen}
use Rattle.flt_trace.proofs.object.tokens.strings_left.Given as goal

abbrev pub invariant-loop-token : goal.invariant-loop-token
invariant-loop-token l = l.initial.reader ≡ map string (texts_seen l.texts.items) ++ l.reader

abbrev pub decreases-loop-token : goal.decreases-loop-token
decreases-loop-token l = length l.reader
