-- A text that is written to a sink.
use Rattle.std.specs.Prelude.{ℕ, ◌≤◌, List, Option, Result, OnOk, OnErr, IsErrOf}
use Rattle.std.specs.Io.KnownBytes.{Appends}
use Rattle.flt_io.specs.Fault.{Rose}
use Rattle.flt_io.specs.Sink.{AppendsFront}
use Rattle.flt_io.specs.declared.stream.StreamFault.{StreamFault}
use Rattle.flt_io.specs.declared.stream.StreamFault.TheVariants.{Failed}

-- The known bytes of a sink, which reveals what it holds and its count of faults, grew by the text, or where the writing failed by some
-- front of it. The count never decreases, and a fault of the sink is answered only if it rose.
pub record Writes {K T : Type 0} (held : K → Option (List ℕ)) (faults : K → ℕ) (before after : K) (text : List ℕ)
    (result : Result T StreamFault) : Type 0 where
  pub ok : OnOk result (Appends (held before) (held after) text)
  pub err : OnErr result (AppendsFront (held before) (held after) text)
  pub later : faults before ≤ faults after
  pub cause : IsErrOf result Failed → Rose (faults before) (faults after)
