-- Texts of calls, one after the other.
use Rattle.std.proofs.Common.{◌≡◌, ◌≢◌, ℕ, zero, suc, ◌+◌, ◌<◌, List, [], ◌∷◌, ◌++◌, length, get_or, take, drop, Option, Some, None, Result, Ok, Err, All, refl, sym, ap, subst, ◌∙◌, arith, inl, inr, ⊎_elim, true}
use Rattle.std.specs.Prelude.{IfSome, MatchOption, position}
use Rattle.std.specs.Fmt.{decimal}
use Rattle.std.proofs.lemmas.List.{take_at}
use Rattle.std.proofs.lemmas.List.Elements.{All-cons, All-nil}
use Rattle.flt_config.specs.declared.config.Config.{Config}
use Rattle.flt_model.specs.declared.call.Op.{Op}
use Rattle.flt_dcm.specs.Unit.{IsAdmitted}
use Rattle.flt_turn.specs.Journal.{ops_of}
use Rattle.flt_turn.specs.declared.vault.Entry.{Entry}
use Rattle.flt_script.specs.Alone.{step_in, step_where}
use Rattle.flt_script.specs.Behind.{step_of}
use Rattle.flt_script.specs.Line.{line_of}
use Rattle.flt_script.specs.Said.{Line}
use Rattle.flt_script.specs.Said as line
use Rattle.flt_step.specs.Step.{is_step_in}
use Rattle.flt_step.specs.Words.{step_text}
use Rattle.flt_script.specs.declared.fault.LineCause.{LineCause}
use Rattle.flt_step.specs.declared.step.Step.{Step}
use Rattle.flt_script.proofs.StepRead.{in_range, is_read}
use Rattle.flt_life_model.specs.Actions.{IsPossible, action_of}
use Rattle.flt_life_model.specs.declared.action.Action.TheVariants.{Call}
use Rattle.flt_life_model.proofs.PossibleSteps.{possible_step}
use Rattle.flt_trace.specs.Call.{AreCallTexts, IsCallText, IsOfSave, IsOfStep, IsOpText, is_space}
use Rattle.flt_trace.proofs.Numbers.{drop_behind, space_behind}

-- A step that a line says is in its ranges.
said_in : (c : Config) (said : Result Line LineCause) (step : Step) → step_where c said ≡ Some step → is_step_in c step ≡ true
said_in c (Ok (line.Step written)) step is = subst (λ (o : Option Step). IfSome o (λ s. is_step_in c s ≡ true)) is (in_range c written (step_of c written) (is_read c written))
said_in c (Ok line.Skipped) step is = absurd (cc is)
said_in c (Ok (line.Config id)) step is = absurd (cc is)
said_in c (Ok (line.Memory entries)) step is = absurd (cc is)
said_in c (Ok (line.Blocks blocks)) step is = absurd (cc is)
said_in c (Ok (line.Flash sectors pages)) step is = absurd (cc is)
said_in c (Ok (line.Event event)) step is = absurd (cc is)
said_in c (Ok (line.Did event id)) step is = absurd (cc is)
said_in c (Ok line.Power) step is = absurd (cc is)
said_in c (Ok line.Par) step is = absurd (cc is)
said_in c (Ok line.Lane) step is = absurd (cc is)
said_in c (Ok line.End) step is = absurd (cc is)
said_in c (Err cause) step is = absurd (cc is)

-- A call whose text this is has its numbers in their ranges.
pub admitted : (c : Config) (op : Op) (text : List ℕ) → IsOpText c op text → IsAdmitted c op
admitted c op text (inl is) =
    (subst (IsPossible c) is.calls (possible_step c is.step (said_in c (line_of text) is.step is.reads))).1
admitted c op text (inr (inl snapshot)) = subst (IsAdmitted c) (sym snapshot.0) tt
admitted c op text (inr (inr saved)) = subst (IsAdmitted c) (sym saved.calls) tt

pub all_admitted : (c : Config) (calls : List (Entry Op)) (texts : List (List ℕ)) → AreCallTexts c calls texts → All (IsAdmitted c) (ops_of calls)
all_admitted c [] [] are = All-nil (IsAdmitted c)
all_admitted c [] (text ∷ texts) are = absurd are
all_admitted c (call ∷ calls) [] are = absurd are
all_admitted c (call ∷ calls) (text ∷ texts) are = All-cons (IsAdmitted c) call.op (ops_of calls) (admitted c call.op are.0.words are.0.op) (all_admitted c calls texts are.1)

-- One more.
pub one_more : (c : Config) (calls : List (Entry Op)) (texts : List (List ℕ)) (call : Entry Op) (text : List ℕ) → AreCallTexts c calls texts → IsCallText c call text
    → AreCallTexts c (calls ++ call ∷ []) (texts ++ text ∷ [])
one_more c [] [] call text are is = (is, tt)
one_more c [] (t ∷ ts) call text are is = absurd are
one_more c (k ∷ ks) [] call text are is = absurd are
one_more c (k ∷ ks) (t ∷ ts) call text are is = (are.0, one_more c ks ts call text are.1 is)

-- One of them.
pub one_of : (c : Config) (calls : List (Entry Op)) (texts : List (List ℕ)) → AreCallTexts c calls texts → (place : ℕ) (d : List ℕ) → place < length texts
    → (call : Entry Op) × IsCallText c call (get_or texts place d)
one_of c [] [] are place d within = absurd (omega (arith, within))
one_of c [] (t ∷ ts) are place d within = absurd are
one_of c (k ∷ ks) [] are place d within = absurd are
one_of c (k ∷ ks) (t ∷ ts) are zero d within = (k, are.0)
one_of c (k ∷ ks) (t ∷ ts) are (suc place) d within = one_of c ks ts are.1 place d (omega (arith, within))

-- ---- what a call is read as
module _ (c : Config) (text : List ℕ) where
  -- A text that is read as no step.
  pub no_step : None ≡ step_in c text → (op : Op) → IsOfStep c op text → ⊥
  no_step none op is = let wrong : None ≡ Some is.step = none ∙ is.reads in absurd (cc wrong)

  -- The one step as which it is read.
  pub same_step : (step : Step) → Some step ≡ step_in c text → (op : Op) (is : IsOfStep c op text) → step ≡ is.step
  same_step step read op is = let same : Some step ≡ Some is.step = read ∙ is.reads in cc same

  -- It is read as a step, and printed as it.
  pub by_step : (step : Step) → Some step ≡ step_in c text → text ≡ step_text step → (found : Option Op)
      → MatchOption found ((op : Op) → action_of step ≢ Call op) (λ op. action_of step ≡ Call op)
      → MatchOption found ((op : Op) → IsOfStep c op text → ⊥) (λ op. IsOfStep c op text)
  by_step step read printed None made = λ op is. made op (ap action_of (same_step step read op is) ∙ is.calls)
  by_step step read printed (Some op) made = record { step = step; reads = sym read; printed = printed; calls = made }

  -- It is that of no step.
  pub by_save : ((op : Op) → IsOfStep c op text → ⊥) → (found : Option Op)
      → MatchOption found ((op : Op) → IsOfSave op text → ⊥) (λ op. IsOfSave op text)
      → MatchOption found ((op : Op) → IsOpText c op text → ⊥) (λ op. IsOpText c op text)
  by_save none None told = λ op is. ⊎_elim (none op) (told op) is
  by_save none (Some op) told = inr told

-- What is said of a value that may be there, where it is not.
pub if_none : {A : Type 0} (P : Type 0) (Q : A → Type 0) (o : Option A) → o ≡ None → MatchOption o P Q → P
if_none P Q None is told = told
if_none P Q (Some x) is told = absurd (cc is)

pub if_some : {A : Type 0} (P : Type 0) (Q : A → Type 0) (o : Option A) (x : A) → o ≡ Some x → MatchOption o P Q → Q x
if_some P Q None x is told = absurd (cc is)
if_some P Q (Some y) x is told = let same : y ≡ x = cc is in subst Q same told

-- ---- a call of a lane
module _ (c : Config) (text : List ℕ) where
  -- A text without a space.
  pub no_space : None ≡ position is_space text → (call : Entry Op) → IsCallText c call text → ⊥
  no_space none call is =
      let wrong : None ≡ Some (length (decimal call.lane)) = none ∙ ap (position is_space) is.printed ∙ space_behind call.lane is.words is.lane in
      absurd (cc wrong)

  -- What is before the first space, and what is after it.
  pub parted : (at : ℕ) → Some at ≡ position is_space text → (call : Entry Op) (is : IsCallText c call text) → (take at text ≡ decimal call.lane) × (drop (at + 1) text ≡ is.words)
  parted at found call is =
      let same : Some at ≡ Some (length (decimal call.lane)) = found ∙ ap (position is_space) is.printed ∙ space_behind call.lane is.words is.lane in
      let here : at ≡ length (decimal call.lane) = cc same in (
        (λ i. take (here i) (is.printed i)) ∙ take_at (decimal call.lane) (32 ∷ is.words) (length (decimal call.lane)) refl,
        (λ i. drop (here i + 1) (is.printed i)) ∙ drop_behind (decimal call.lane) 32 is.words,
      )
