-- What holds of what was made, where something was.
use Rattle.std.proofs.Common.{◌≡◌, Option, Some, None, Result, Ok, Err, IfOk, IfSome, subst}
use Rattle.std.specs.Result.{result_ok}

pub of_some : {T : Type 0} (P : T → Type 0) (made : Option T) (one : T) → made ≡ Some one → IfSome made P → P one
of_some P (Some found) one is holds = let same : found ≡ one = cc is in subst P same holds
of_some P None one is holds = absurd (cc is)

pub of_ok : {T E : Type 0} (P : T → Type 0) (made : Result T E) (one : T) → result_ok made ≡ Some one → IfOk made P → P one
of_ok P (Ok found) one is holds = let same : found ≡ one = cc is in subst P same holds
of_ok P (Err e) one is holds = absurd (cc is)
