-- The audit of a line that was printed of a life is yes.
use Rattle.std.proofs.Common.{◌≡◌, ℕ, ◌+◌, List, [], ◌∷◌, ◌++◌, Some, None, IsUtf8, length, inr, refl, sym, ap, ◌∙◌}
use Rattle.std.specs.Prelude.{codes}
use Rattle.std.specs.Fmt.{decimal}
use Rattle.std.proofs.lemmas.Slice.Eq.{bytes_eq-Decides}
use Rattle.serde_json.specs.Read.{read}
use Rattle.flt_config.specs.declared.config.DidUse.{DidUse}
use Rattle.flt_filter.specs.Verdict.{line_due}
use Rattle.flt_trace.specs.Trace.{Texts, trace_data}
use Rattle.flt_audit.specs.Audit.{IsAudited, due_texts, judged, unlike_from, verdict, verdict_by}
use Rattle.flt_audit.specs.Shape.{TellsLife, ToldLife}
use Rattle.flt_trace.proofs.Line.{is_trace}
use Rattle.flt_audit.proofs.Shapes.{as_many}

-- Texts are not unlike themselves.
alike : (place : ℕ) (texts : List (List ℕ)) → unlike_from place texts texts ≡ None
alike place [] = refl
alike place (text ∷ texts) = rw ((bytes_eq-Decides text text).1 refl) (alike (place + 1) texts)

pub is_yes : (dids : List DidUse) (texts : Texts) (told : ToldLife) (line : List ℕ) → TellsLife dids texts told → texts.answers ≡ due_texts told → IsUtf8 line → read line ≡ Some (trace_data texts)
    → IsAudited dids line (line_due 0 (codes "yes " ++ decimal (length told.journal)))
is_yes dids texts told line tells due utf8 reads =
    let none = ap (λ (l : List (List ℕ)). unlike_from 0 l (due_texts told)) due ∙ alike 0 (due_texts told) in
    let size = as_many told.config told.journal texts.journal tells.journal in
    let verdict_is : line_due 0 (codes "yes " ++ decimal (length told.journal)) ≡ verdict texts told = λ i. verdict_by (size i) (sym none i) in
    record {
      value = Some (trace_data texts);
      reads = (utf8, reads);
      due_is = judged (trace_data texts) texts _ (is_trace texts) (inr (told, tells, verdict_is));
    }
