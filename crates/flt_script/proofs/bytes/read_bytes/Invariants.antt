use Rattle.flt_script.proofs.ReadBytes.{IsOn}
use Rattle.flt_script.proofs.bytes.read_bytes.Given as goal

abbrev pub invariant-loop-word : goal.invariant-loop-word
invariant-loop-word g l = IsOn g.row.MOST l.fn.words l.word-iterator l.bytes.items
