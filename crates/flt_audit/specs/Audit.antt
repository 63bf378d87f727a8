-- What an audit reports about bytes: whether each answer of a trace is that of the status machine to its call, after the calls before it.
use Rattle.std.specs.Prelude.{◌≡◌, ◌⊎◌, ℕ, ◌+◌, if◌then◌else◌, List, [], ◌∷◌, length, map, codes, ◌++◌, Option, Some, None, IsUtf8}
use Rattle.std.specs.Fmt.{decimal}
use Rattle.std.specs.Str.{bytes_eq}
use Rattle.serde_json.specs.Data.{Data}
use Rattle.serde_json.specs.Read.{read}
use Rattle.flt_config.specs.declared.config.DidUse.{DidUse}
use Rattle.flt_model.specs.Answer.{answers}
use Rattle.flt_report.specs.Answer.{reply_text}
use Rattle.flt_turn.specs.Journal.{ops_of}
use Rattle.flt_filter.specs.Verdict.{Due, line_due}
use Rattle.flt_trace.specs.Trace.{IsTrace, Texts}
use Rattle.flt_audit.specs.declared.auditing.Audited.{Audited}
use Rattle.flt_audit.specs.declared.auditing.Audited.TheVariants.{NoLife, AllDue, Differs}
use Rattle.flt_audit.specs.Shape.{ToldLife, TellsLife}

-- The value that bytes are, or none where they are no JSON.
abbrev pub IsJson : List ℕ → Option Data → Type 0
IsJson bytes None = IsUtf8 bytes → read bytes ≡ None
IsJson bytes (Some d) = IsUtf8 bytes × (read bytes ≡ Some d)

-- The texts of the answers that are due: each is the machine's, after the calls before its place.
abbrev pub due_texts : ToldLife → List (List ℕ)
due_texts told = map reply_text (answers (record { config = told.config; base = told.base }) [] (ops_of told.journal))

-- The first place, from this one on, at which two lists of texts differ.
abbrev pub unlike_from : ℕ → List (List ℕ) → List (List ℕ) → Option ℕ
unlike_from place (first ∷ firsts) (second ∷ seconds) = if bytes_eq first second then unlike_from (place + 1) firsts seconds else Some place
unlike_from place _ _ = None

-- Yes, and how many calls there are; or no, and the first place whose answer is another.
abbrev pub verdict_by : ℕ → Option ℕ → Due
verdict_by calls None = line_due 0 (codes "yes " ++ decimal calls)
verdict_by calls (Some place) = line_due 13 (codes "no " ++ decimal place)

abbrev pub verdict : Texts → ToldLife → Due
verdict texts told = verdict_by (length texts.journal) (unlike_from 0 texts.answers (due_texts told))

-- Texts that describe no life.
abbrev pub TellsNone : List DidUse → Texts → Type 0
TellsNone dids texts = (told : ToldLife) → TellsLife dids texts told → ⊥

-- What came of the texts of a trace: they describe no life, or the answers of the life that they describe differ first at this place, or nowhere.
abbrev pub IsAuditOf : List DidUse → Texts → Audited → Type 0
IsAuditOf dids texts NoLife = TellsNone dids texts
IsAuditOf dids texts AllDue = (told : ToldLife) × TellsLife dids texts told × (None ≡ unlike_from 0 texts.answers (due_texts told))
IsAuditOf dids texts (Differs place) = (told : ToldLife) × TellsLife dids texts told × (Some place ≡ unlike_from 0 texts.answers (due_texts told))

-- What is due of texts: the verdict of the life that they describe, or that they describe none.
abbrev pub IsDueOfTexts : List DidUse → Texts → Due → Type 0
IsDueOfTexts dids texts due =
    (TellsNone dids texts × (due ≡ line_due 12 (codes "shape"))) ⊎ ((told : ToldLife) × TellsLife dids texts told × (due ≡ verdict texts told))

-- What is due of a value: that it is none, or no trace, or what is due of the texts of a trace.
pub data IsDueOf (dids : List DidUse) : Option Data → Due → Type 0 where
  no_json : IsDueOf dids None (line_due 11 (codes "json"))
  no_trace : (d : Data) → ((texts : Texts) → IsTrace d texts → ⊥) → IsDueOf dids (Some d) (line_due 12 (codes "shape"))
  judged : (d : Data) (texts : Texts) (due : Due) → IsTrace d texts → IsDueOfTexts dids texts due → IsDueOf dids (Some d) due

-- What is due of bytes.
pub record IsAudited (dids : List DidUse) (bytes : List ℕ) (due : Due) : Type 0 where
  pub value : Option Data
  pub reads : IsJson bytes value
  pub due_is : IsDueOf dids value due
