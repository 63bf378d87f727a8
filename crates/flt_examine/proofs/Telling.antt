-- How a trace ends.
use Rattle.std.proofs.Common.{◌≡◌, ◌≢◌, ◌⊎◌, inl, inr, ℕ, List, Option, Some, None, Result, Ok, Err, IfOk, sym, subst, ◌∙◌, arith}
use Rattle.std.specs.Prelude.{option_map}
use Rattle.std.specs.Result.{result_ok}
use Rattle.flt_flash.specs.declared.memory.FlashMem.{FlashMem}
use Rattle.flt_config.specs.declared.config.DidUse.{DidUse}
use Rattle.flt_run.specs.declared.running.Outcome.{Outcome}
use Rattle.flt_filter.specs.Verdict.{Came, Due, HasCome, Inside, IsDue, IsVerdictMade, IsTold, IsToldOf, Outside, WantsMemory, due_of, failed, too_many, whole}
use Rattle.flt_filter.specs.declared.verdict.Verdict.{Verdict}
use Rattle.flt_examine.specs.Examination.{IsTraceDueOf, Traces, usage_due}
use Rattle.flt_examine.specs.Traced.{IsTraceDue, RunsOnBlank}

-- For words that are not a command the usage line was reported.
pub usage_told : {E : Type 0} (outside : Outside) (made : Result Verdict E) (status : ℕ) → IfOk made (λ verdict. due_of verdict ≡ usage_due)
    → IsToldOf outside (option_map due_of (result_ok made)) status → WantsMemory outside status ⊎ IsTold outside usage_due status
usage_told outside (Ok verdict) status is (inl wants) = inl wants
usage_told outside (Ok verdict) status is (inr told) = inr (subst (λ (due : Due). IsTold outside due status) is told)
usage_told outside (Err e) status is told = inl told

-- Bytes that are not judged.
abbrev pub NotJudged : List ℕ → Due → Type 0
NotJudged bytes due = ⊥

module _ (dids : List DidUse) (inside : Inside) (outside : Outside) (status : ℕ) (traced : Option (Outcome FlashMem)) where
  by_came : (came : Came) (due : Due) → HasCome inside came → IsDue NotJudged came due → IsTold outside due status → traced ≡ None → Traces dids inside outside traced status
  by_came failed due cause is told none = inr (record { came = failed; due = due; cause = cause; due_is = (none, is); told = told })
  by_came too_many due cause is told none = inr (record { came = too_many; due = due; cause = cause; due_is = (none, is); told = told })
  by_came (whole bytes) due cause is told none = absurd is

  -- The input was not read to its end, or memory ran out.
  pub unread_told : (made : Option Due) → IsVerdictMade NotJudged inside made → IsToldOf outside made status → traced ≡ None → Traces dids inside outside traced status
  unread_told None made told none = inl (told, none)
  unread_told (Some due) made (inl wants) none = inl (wants, none)
  unread_told (Some due) made (inr told) none = by_came made.0 due made.1 made.2 told none

  not_seven : (bytes : List ℕ) (outcome : Outcome FlashMem) (due : Due) → RunsOnBlank dids bytes outcome → IsTraceDue dids bytes outcome due → IsTold outside due status → status ≢ 7
  not_seven bytes outcome due run is (inl told) = λ seven. run.memory (sym is.status ∙ sym told.0 ∙ seven)
  not_seven bytes outcome due run is (inr broken) = λ seven. let four = broken.0 in absurd (omega (arith, four, seven))

  -- What is due for the run of bytes was reported.
  pub run_told : (bytes : List ℕ) (outcome : Outcome FlashMem) (due : Due) → HasCome inside (whole bytes) → RunsOnBlank dids bytes outcome → IsTraceDue dids bytes outcome due → IsToldOf outside (Some due) status
      → (status ≡ 7 → traced ≡ None) → (status ≢ 7 → traced ≡ Some outcome) → Traces dids inside outside traced status
  run_told bytes outcome due cause run is (inl wants) wanting kept = inl (wants, wanting wants.told)
  run_told bytes outcome due cause run is (inr told) wanting kept =
      let some = kept (not_seven bytes outcome due run is told) in
      inr (record {
        came = whole bytes;
        due = due;
        cause = cause;
        due_is = subst (λ (t : Option (Outcome FlashMem)). IsTraceDueOf dids (whole bytes) t due) (sym some) (run, is);
        told = told;
      })
