-- Which texts describe no life, and what is due of them.
use Rattle.std.proofs.Common.{◌≡◌, ℕ, suc, List, [], ◌∷◌, length, refl, Option, Some, None, Result, Ok, Err, sym, ap, subst, ◌∙◌, inl, inr}
use Rattle.std.specs.Prelude.{IfOk, IfSome, IsUtf8, codes}
use Rattle.serde_json.specs.Read.{read}
use Rattle.serde_json.specs.Data.{Data}
use Rattle.flt_config.specs.declared.config.Config.{Config}
use Rattle.flt_config.specs.declared.config.DidUse.{DidUse}
use Rattle.flt_model.specs.declared.call.Op.{Op}
use Rattle.flt_turn.specs.declared.vault.Entry.{Entry}
use Rattle.flt_filter.specs.Verdict.{due_of, line_due}
use Rattle.flt_filter.specs.declared.verdict.Verdict.{Verdict}
use Rattle.flt_trace.specs.Trace.{IsTrace, Texts, trace_data}
use Rattle.flt_trace.proofs.Line.{is_trace}
use Rattle.flt_trace.specs.Call.{AreCallTexts}
use Rattle.flt_audit.specs.Shape.{ToldLife, TellsLife}
use Rattle.flt_audit.specs.Audit.{IsAudited, IsDueOf, IsDueOfTexts, TellsNone, due_texts, judged, no_json, no_trace, unlike_from, verdict_by}

-- What is said of a value that is there.
pub of_found : {A : Type 0} (Q : A → Type 0) (found : Option A) (x : A) → found ≡ Some x → IfSome found Q → Q x
of_found Q None x is told = absurd (cc is)
of_found Q (Some y) x is told = let same : y ≡ x = cc is in subst Q same told

-- ---- what a line describes, where memory did not run out
module _ (dids : List DidUse) where
  pub json_due : {E : Type 0} (bytes : List ℕ) (line : Result Verdict E) → (IsUtf8 bytes → read bytes ≡ None)
      → IfOk line (λ v. due_of v ≡ line_due 11 (codes "json")) → IfOk line (λ v. IsAudited dids bytes (due_of v))
  json_due bytes (Ok v) none is = subst (IsAudited dids bytes) (sym is) (record { value = None; reads = none; due_is = no_json })
  json_due bytes (Err e) none is = tt

  pub no_trace_due : {E : Type 0} (d : Data) (line : Result Verdict E) → ((texts : Texts) → IsTrace d texts → ⊥)
      → IfOk line (λ v. due_of v ≡ line_due 12 (codes "shape")) → IfOk line (λ v. IsDueOf dids (Some d) (due_of v))
  no_trace_due d (Ok v) none is = subst (IsDueOf dids (Some d)) (sym is) (no_trace d none)
  no_trace_due d (Err e) none is = tt

  pub trace_due : {E : Type 0} (d : Data) (texts : Texts) (line : Result Verdict E) → IsTrace d texts
      → IfOk line (λ v. IsDueOfTexts dids texts (due_of v)) → IfOk line (λ v. IsDueOf dids (Some d) (due_of v))
  trace_due d texts (Ok v) is due = judged d texts (due_of v) is due
  trace_due d texts (Err e) is due = tt

  pub none_due : {E : Type 0} (texts : Texts) (line : Result Verdict E) → TellsNone dids texts
      → IfOk line (λ v. due_of v ≡ line_due 12 (codes "shape")) → IfOk line (λ v. IsDueOfTexts dids texts (due_of v))
  none_due texts (Ok v) none is = inl (none, is)
  none_due texts (Err e) none is = tt

  pub told_due : {E : Type 0} (texts : Texts) (line : Result Verdict E) (count : ℕ) (unlike : Option ℕ) → count ≡ length texts.journal
      → (told : ToldLife) × TellsLife dids texts told × (unlike ≡ unlike_from 0 texts.answers (due_texts told))
      → IfOk line (λ v. due_of v ≡ verdict_by count unlike) → IfOk line (λ v. IsDueOfTexts dids texts (due_of v))
  told_due texts (Ok v) count unlike many told is = inr (told.0, told.1, is ∙ (λ i. verdict_by (many i) (told.2 i)))
  told_due texts (Err e) count unlike many told is = tt

  -- A line that is read as the value of these texts.
  pub line_audited : {E : Type 0} (bytes : List ℕ) (texts : Texts) (line : Result Verdict E) → IsUtf8 bytes → read bytes ≡ Some (trace_data texts)
      → IfOk line (λ v. IsDueOfTexts dids texts (due_of v)) → IfOk line (λ v. IsAudited dids bytes (due_of v))
  line_audited bytes texts (Ok v) utf8 reads due =
      record { value = Some (trace_data texts); reads = (utf8, reads); due_is = judged (trace_data texts) texts (due_of v) (is_trace texts) due }
  line_audited bytes texts (Err e) utf8 reads due = tt

-- There are as many calls as texts.
pub as_many : (c : Config) (calls : List (Entry Op)) (texts : List (List ℕ)) → AreCallTexts c calls texts → length calls ≡ length texts
as_many c [] [] are = refl
as_many c [] (text ∷ texts) are = absurd are
as_many c (call ∷ calls) [] are = absurd are
as_many c (call ∷ calls) (text ∷ texts) are = ap suc (as_many c calls texts are.1)
