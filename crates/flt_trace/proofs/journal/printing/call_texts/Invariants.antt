use Rattle.std.proofs.Common.{All, map, take}
use Rattle.std.specs.String.{string_bytes}
use Rattle.flt_config.specs.declared.config.Config.{Config}
use Rattle.flt_turn.specs.Journal.{ops_of}
use Rattle.flt_trace.specs.Call.{AreCallTexts, CanBeMade}
use Rattle.flt_trace.proofs.journal.printing.call_texts.Given as goal

abbrev pub invariant-loop-call : goal.invariant-loop-call
invariant-loop-call l =
    (c : Config) → All (CanBeMade c) (ops_of l.journal) → AreCallTexts c (take l.call-index l.journal) (map string_bytes l.texts.items)
