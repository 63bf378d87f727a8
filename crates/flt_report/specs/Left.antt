-- What was written of a text so far, and what is left of it.
use Rattle.std.specs.Prelude.{◌≡◌, ℕ, ◌≤◌, ◌++◌, List, Option, Result, OnOk, OnErr, IsErrOf}
use Rattle.std.specs.Io.KnownBytes.{Appends}
use Rattle.flt_io.specs.Fault.{Rose}
use Rattle.flt_io.specs.Sink.{AppendsFront}
use Rattle.flt_io.specs.declared.stream.StreamFault.{StreamFault}
use Rattle.flt_io.specs.declared.stream.StreamFault.TheVariants.{Failed}

-- What was written so far, and what is left, are all of the text.
pub record IsWritten (old new : Option (List ℕ)) (left whole : List ℕ) : Type 0 where
  pub text : List ℕ
  pub appended : Appends old new text
  pub both : text ++ left ≡ whole

-- As Writes of flt_io, where the end of the text is left to be written.
pub record WritesBut {K T : Type 0} (held : K → Option (List ℕ)) (faults : K → ℕ) (before after : K) (left whole : List ℕ)
    (result : Result T StreamFault) : Type 0 where
  pub ok : OnOk result (IsWritten (held before) (held after) left whole)
  pub err : OnErr result (AppendsFront (held before) (held after) whole)
  pub later : faults before ≤ faults after
  pub cause : IsErrOf result Failed → Rose (faults before) (faults after)
