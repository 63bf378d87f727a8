use Rattle.std.proofs.Common.{◌≡◌, ◌∙◌, Ok, sym, ap}
use Rattle.hex.specs.Hex.{decode_of}
use Rattle.hex.proofs.HexLemmas.{decode_of-encode_upper}
use Rattle.flt_trace.proofs.Same.{never}
use Rattle.flt_trace.proofs.base.reading.read_bytes.Goals as goal

pub returns-in-Ok : goal.returns-in-Ok
returns-in-Ok c =
    λ bytes are is.
    let same : Ok c.in-Ok.bytes.items ≡ Ok bytes = sym c.in-Ok.ensures.ok ∙ ap decode_of is ∙ decode_of-encode_upper bytes are in
    cc same

pub returns-else-is_memory : goal.returns-else-is_memory
returns-else-is_memory c =
    λ bytes are is.
    never _ (decode_of c.args.text.now) bytes (ap decode_of is ∙ decode_of-encode_upper bytes are)
    (λ memory. absurd (cc (sym c.if-is_memory.false ∙ c.is_memory.ensures.1 memory))) c.in-Err.ensures.err
