-- Why a run that met no fault answers 0, or 7.
use Rattle.std.proofs.Common.{◌≡◌, ◌⊎◌, ⊎_elim, ℕ, ◌==◌, List, [], ◌∷◌, Option, None, Some, inl, inr, refl, sym, subst, eqb-true}
use Rattle.std.specs.Prelude.{IfSome, IsSomeAnd, IsOk, IsTrue}
use Rattle.std.proofs.lemmas.Bool.{cases_Bool, false≢true}
use Rattle.flt_config.specs.declared.config.DidUse.{DidUse}
use Rattle.flt_script.specs.Script.{ScriptContent, script_of}
use Rattle.flt_run.specs.declared.command.Command.{Command}
use Rattle.flt_run.specs.declared.command.Command.TheVariants.{Run, Check, Load}
use Rattle.flt_script.specs.Fetched.{read_of}
use Rattle.flt_run.specs.Ending.{RunInside, RunOutside, IsFaultless, IsLastFine, LivesHaveCause, StatusesHaveCauses, is_status_among}

-- A number that is among some is the first of them, or among the others.
first_or_later : (status one : ℕ) (rest : List ℕ) → IsTrue (is_status_among status (one ∷ rest)) → (one ≡ status) ⊎ IsTrue (is_status_among status rest)
first_or_later status one rest among = ⊎_elim (λ yes. inl (eqb-true one status yes)) (λ no. inr (rw no at among)) (cases_Bool (one == status))

-- The bytes are revealed, and are a script.
told_script : {P : Type 0} (dids : List DidUse) (left : Option (List ℕ)) → IsSomeAnd left (λ bytes. IsOk (script_of dids (read_of bytes)))
    → IfSome left (λ bytes. IsOk (script_of dids (read_of bytes)) → P) → P
told_script dids None good then_ = absurd good
told_script dids (Some bytes) good then_ = then_ good

-- The lives of a script ended with 0 where the last of them is fine.
lives_fine : (inside : RunInside) (status : ℕ) (script : Option ScriptContent) → LivesHaveCause inside script status
    → IfSome script (λ script. IsLastFine (inside.media script.config) script.config inside.device inside.device_after) → status ≡ 0
lives_fine inside status None ends last = absurd ends
lives_fine inside status (Some script) ends last =
    let fine = last ends.boot ends.earlier ends.is in ends.cause.completed fine.whole fine.holds.0 fine.holds.1 fine.left fine.few

module _ (dids : List DidUse) (inside : RunInside) (outside : RunOutside) (status : ℕ) (script : Option ScriptContent) where
  module _ (command : Option Command) (causes : StatusesHaveCauses dids inside outside command script status) (fine : IsFaultless dids inside outside command script) where
    abbrev Good : Type 0
    Good = IsTrue (is_status_among status (0 ∷ 7 ∷ []))

    good_zero : status ≡ 0 → Good
    good_zero e = subst (λ s. IsTrue (is_status_among s (0 ∷ 7 ∷ []))) (sym e) refl

    good_seven : status ≡ 7 → Good
    good_seven e = subst (λ s. IsTrue (is_status_among s (0 ∷ 7 ∷ []))) (sym e) refl

    by_lives : IsTrue (is_status_among status (0 ∷ 5 ∷ 6 ∷ 8 ∷ [])) → Good
    by_lives among = good_zero (lives_fine inside status script (causes.lives fine.makes among) fine.last)

    among_lives : (one : ℕ) → IsTrue (is_status_among one (0 ∷ 5 ∷ 6 ∷ 8 ∷ [])) → one ≡ status → Good
    among_lives one is e = by_lives (subst (λ s. IsTrue (is_status_among s (0 ∷ 5 ∷ 6 ∷ 8 ∷ []))) e is)

    from_four : IsTrue (is_status_among status (4 ∷ 5 ∷ 6 ∷ 7 ∷ 8 ∷ [])) → Good
    from_four among = ⊎_elim (λ e. absurd (fine.sink (causes.unwritable (sym e)))) (λ more. ⊎_elim (among_lives 5 refl) (λ more. ⊎_elim (among_lives 6 refl)
        (λ more. ⊎_elim (λ e. good_seven (sym e)) (λ more. ⊎_elim (among_lives 8 refl) (λ none. absurd (false≢true none)) (first_or_later status 8 [] more))
        (first_or_later status 7 (8 ∷ []) more)) (first_or_later status 6 (7 ∷ 8 ∷ []) more)) (first_or_later status 5 (6 ∷ 7 ∷ 8 ∷ []) more))
        (first_or_later status 4 (5 ∷ 6 ∷ 7 ∷ 8 ∷ []) among)

    from_read : IsTrue (is_status_among status (0 ∷ 3 ∷ 4 ∷ 5 ∷ 6 ∷ 7 ∷ 8 ∷ [])) → Good
    from_read among = ⊎_elim (λ e. good_zero (sym e)) (λ more. ⊎_elim (λ e. absurd (fine.source (causes.unreadable (sym e)))) from_four
        (first_or_later status 3 (4 ∷ 5 ∷ 6 ∷ 7 ∷ 8 ∷ []) more)) (first_or_later status 0 (3 ∷ 4 ∷ 5 ∷ 6 ∷ 7 ∷ 8 ∷ []) among)

    from_load : IsTrue (is_status_among status (0 ∷ 4 ∷ 5 ∷ 6 ∷ 7 ∷ 8 ∷ [])) → Good
    from_load among = ⊎_elim (λ e. good_zero (sym e)) from_four (first_or_later status 0 (4 ∷ 5 ∷ 6 ∷ 7 ∷ 8 ∷ []) among)

  pub faultless_ends : (command : Option Command) → StatusesHaveCauses dids inside outside command script status → IsFaultless dids inside outside command script → IsTrue (is_status_among status (0 ∷ 7 ∷ []))
  faultless_ends None causes fine = absurd (false≢true fine.makes)
  faultless_ends (Some Run) causes fine = from_read (Some Run) causes fine (told_script dids inside.left (fine.good refl) (causes.completed refl))
  faultless_ends (Some Check) causes fine = absurd (false≢true fine.makes)
  faultless_ends (Some (Load count lanes)) causes fine = from_load (Some (Load count lanes)) causes fine (causes.loaded count lanes refl)
