-- Bytes that were taken from a source.
use Rattle.std.proofs.Common.{◌≡◌, ℕ, List, take, Option, Some, None, sym, ap, subst, ◌∙◌}
use Rattle.std.specs.Prelude.{IfSome, Ok, Err}
use Rattle.std.specs.Io.KnownBytes.{Consumes}
use Rattle.flt_config.specs.declared.config.DidUse.{DidUse}
use Rattle.flt_script.specs.Script.{ScriptContent, script_of}
use Rattle.flt_script.specs.declared.fault.ScriptFault.{ScriptFault}
use Rattle.flt_script.specs.Fetched.{AreNoScript, AreScript, HasLostRead, read_of}

-- As much as is read.
pub front_taken : (left : Option (List ℕ)) (bytes : List ℕ) → IfSome left (λ left. bytes ≡ take 1048577 left) → IfSome left (λ left. bytes ≡ read_of left)
unfolding read_of
front_taken None bytes taken = tt
front_taken (Some left) bytes taken = taken

-- And no more was lost.
pub front_lost : (left after : Option (List ℕ)) (bytes : List ℕ) → IfSome left (λ left. bytes ≡ read_of left) → Consumes left after bytes → HasLostRead left after
front_lost None after bytes taken lost = tt
front_lost (Some left) after bytes taken lost = subst (Consumes (Some left) after) taken lost

-- The bytes that were taken are the script.
pub script_taken : (dids : List DidUse) (left : Option (List ℕ)) (bytes : List ℕ) (script : ScriptContent) → IfSome left (λ left. bytes ≡ read_of left) → script_of dids bytes ≡ Ok script → AreScript dids left script
script_taken dids None bytes script taken is = tt
script_taken dids (Some left) bytes script taken is = ap (script_of dids) (sym taken) ∙ is

-- Or they are none.
pub no_script_taken : (dids : List DidUse) (left : Option (List ℕ)) (bytes : List ℕ) (fault : ScriptFault) → IfSome left (λ left. bytes ≡ read_of left) → script_of dids bytes ≡ Err fault → AreNoScript dids left fault
no_script_taken dids None bytes fault taken is = tt
no_script_taken dids (Some left) bytes fault taken is = ap (script_of dids) (sym taken) ∙ is
