-- Bytes are one script or have one fault.
use Rattle.std.proofs.Common.{◌≡◌, ◌⊎◌, Result, Ok, Err, refl, inl, inr}
use Rattle.flt_script.specs.declared.fault.ScriptFault.{ScriptFault}
use Rattle.flt_script.specs.Script.{ScriptContent, script_of}
use Rattle.flt_script.specs.Laws.{EachHasOneOutcome}

either_of : (given : Result ScriptContent ScriptFault) → ((content : ScriptContent) × (given ≡ Ok content)) ⊎ ((fault : ScriptFault) × (given ≡ Err fault))
either_of (Ok content) = inl (content, refl)
either_of (Err fault) = inr (fault, refl)

pub each_has_one_outcome : EachHasOneOutcome
each_has_one_outcome dids bytes = record {
  some = either_of (script_of dids bytes);
  one_script = λ content other this that. cc;
  one_fault = λ fault other this that. cc;
  never_both = λ content fault this that. cc;
}
