use Rattle.std.proofs.Common.{take}
use Rattle.flt_trace.specs.Trace.{texts_seen}
use Rattle.flt_trace.specs.Call.{AreCallTexts}
use Rattle.flt_trace.proofs.journal.reading.read_calls.Given as goal

abbrev pub invariant-loop-text : goal.invariant-loop-text
invariant-loop-text l = AreCallTexts l.config l.calls.items (take l.text-index (texts_seen l.texts))
