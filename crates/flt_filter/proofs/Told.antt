-- What is reported about an input, by what was made of it.
use Rattle.std.proofs.Common.{◌≡◌, ℕ, List, Option, Some, None, Result, Ok, Err, refl, inl, inr, IfOk, IfSome}
use Rattle.std.specs.Prelude.{option_map}
use Rattle.std.specs.Result.{result_ok}
use Rattle.flt_filter.specs.Verdict.{Due, Inside, Outside, HasCome, IsFaultDue, IsVerdictMade, IsToldOf, Tells, due_of, whole, failed, too_many}
use Rattle.flt_filter.specs.declared.reading.InputFault.{InputFault}
use Rattle.flt_filter.specs.declared.reading.InputFault.TheVariants.{Memory, Failed, TooMany}
use Rattle.flt_filter.specs.declared.verdict.Verdict.{Verdict}

module _ (IsJudged : List ℕ → Due → Type 0) (inside : Inside) where
  -- The bytes came and were judged.
  pub judged_made : {E : Type 0} (bytes : List ℕ) (judged : Result Verdict E) → HasCome inside (whole bytes)
      → IfOk judged (λ verdict. IsJudged bytes (due_of verdict)) → IsVerdictMade IsJudged inside (option_map due_of (result_ok judged))
  judged_made bytes (Ok verdict) cause is = (whole bytes, cause, is)
  judged_made bytes (Err e) cause is = tt

  -- They did not come, for this reason.
  pub fault_made : (fault : InputFault) (made : Option Verdict) → (fault ≡ Failed → HasCome inside failed)
      → (fault ≡ TooMany → HasCome inside too_many) → IfSome made (λ verdict. IsFaultDue fault (due_of verdict)) → IsVerdictMade IsJudged inside (option_map due_of made)
  fault_made fault None unread large is = tt
  fault_made Memory (Some verdict) unread large is = absurd is
  fault_made Failed (Some verdict) unread large is = (failed, unread refl, is)
  fault_made TooMany (Some verdict) unread large is = (too_many, large refl, is)

  -- What was made is reported.
  pub made_told : (outside : Outside) (made : Option Due) (status : ℕ) → IsVerdictMade IsJudged inside made → IsToldOf outside made status
      → Tells IsJudged inside outside status
  made_told outside None status made told = inl told
  made_told outside (Some due) status made (inl wants) = inl wants
  made_told outside (Some due) status made (inr told) = inr (record {
    came = made.0;
    due = due;
    cause = made.1;
    judged = made.2;
    told = told;
  })
