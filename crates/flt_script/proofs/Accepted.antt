-- Lines that were not refused.
use Rattle.std.proofs.Common.{◌≡◌, ℕ, ◌+◌, List, [], ◌∷◌, length, Option, Some, None, Result, Ok, Err, refl, subst, length-set}
use Rattle.std.specs.Prelude.{slice_set}
use Rattle.flt_config.specs.declared.config.DidUse.{DidUse}
use Rattle.flt_config.specs.declared.config.EventCfg.{EventCfg}
use Rattle.flt_script.specs.declared.fault.LineCause.{LineCause}
use Rattle.flt_script.specs.Said.{Line}
use Rattle.flt_script.specs.Behind.{Behind, behind, with_use}
use Rattle.flt_script.specs.Gives.{◌>>=◌, given_by}
use Rattle.flt_script.specs.Line.{line_of}
use Rattle.flt_script.specs.Refusal.{refusal, unless_refused, line_behind}
use Rattle.flt_script.specs.Script.{at_line, lines_behind}

unrefused : (dids : List DidUse) (b : Behind) (x l : Line) (r : Option LineCause) → refusal dids b x ≡ r → unless_refused r x ≡ Ok l → refusal dids b l ≡ None
unrefused dids b x l None is e = let same : x ≡ l = cc in subst (λ (y : Line). refusal dids b y ≡ None) same is
unrefused dids b x l (Some c) is e = absurd cc

accepted : (dids : List DidUse) (b : Behind) (read : Result Line LineCause) (l : Line) → (read >>= λ x. unless_refused (refusal dids b x) x) ≡ Ok l → refusal dids b l ≡ None
accepted dids b (Err c) l e = absurd cc
accepted dids b (Ok x) l e = unrefused dids b x l (refusal dids b x) refl e

not_refused : (dids : List DidUse) (past : List Line) (text : List ℕ) (l : Line) → line_behind dids past text ≡ Ok l → refusal dids (behind dids past) l ≡ None
unfolding line_behind
not_refused dids past text l e = accepted dids (behind dids past) (line_of text) l e

-- What holds of no line, and of one more line that is not refused, holds of the lines that texts say.
module _ (dids : List DidUse) (P : List Line → Type 0) (more : (l : Line) (past : List Line) → refusal dids (behind dids past) l ≡ None → P past → P (l ∷ past)) where
  one_line : (past : List Line) (text : List ℕ) (texts : List (List ℕ)) (lines : List Line) (read : Result Line LineCause)
      → line_behind dids past text ≡ read → P past
      → ((l : Line) → P (l ∷ past) → lines_behind dids (l ∷ past) texts ≡ Ok lines → P lines)
      → (at_line (length past + 1) read >>= λ l. lines_behind dids (l ∷ past) texts) ≡ Ok lines → P lines
  one_line past text texts lines (Err c) is before later e = absurd cc
  one_line past text texts lines (Ok l) is before later e = later l (more l past (not_refused dids past text l is) before) e

  pub of_accepted_lines : (past : List Line) (texts : List (List ℕ)) (lines : List Line) → P past → lines_behind dids past texts ≡ Ok lines → P lines
  unfolding lines_behind
  of_accepted_lines past [] lines before e = let same : past ≡ lines = cc in subst P same before
  of_accepted_lines past (text ∷ texts) lines before e =
      one_line past text texts lines (line_behind dids past text) refl before (λ l. of_accepted_lines (l ∷ past) texts lines) e

-- A data identifier more of an event leaves the number of the events.
pub length_used : (did : Option DidUse) (events : List EventCfg) (number : ℕ) (event : Option EventCfg)
    → length (given_by event events (λ e. slice_set events number (with_use did e))) ≡ length events
length_used did events number None = refl
length_used did events number (Some event) = length-set events number (with_use did event)
