-- A trace: the texts of a life, and the JSON that has them.
use Rattle.std.specs.Prelude.{◌≡◌, ℕ, List, [], ◌∷◌, ◌++◌, Some, map, codes}
use Rattle.std.specs.String.{string_bytes}
use denote.Ref.{Bor}
use Rattle.json.specs.Token.{Token}
use Rattle.json.specs.Token as token
use Rattle.serde_json.specs.Data.{Data, string, array, object, Items, no_items, item, no_members, member}
use Rattle.serde_json.specs.Events.{members_len}
use Rattle.serde_json.specs.Find.{get}
use Rattle.serde_json.specs.Written.{compact_text}
use Rattle.flt_trace.specs.declared.object.trace.LifeTexts.{LifeTexts}
use Rattle.flt_trace.specs.declared.object.trace.Trace.{Trace}

-- The script; the used blocks of the state with which the life began; the calls of its journal; and the answer to each.
pub record Texts : Type 0 where
  pub script : List ℕ
  pub base : List (List ℕ)
  pub journal : List (List ℕ)
  pub answers : List (List ℕ)

-- Strings in an array.
abbrev pub strings : List (List ℕ) → Items
strings [] = no_items
strings (text ∷ texts) = item (string text) (strings texts)

-- How many members a value has, where it is an object.
abbrev pub member_count : Data → ℕ
member_count (object found) = members_len found
member_count _ = 0

-- A value is an object of just these four keys: a string and three arrays of strings.
pub record IsTrace (d : Data) (texts : Texts) : Type 0 where
  pub count : member_count d ≡ 4
  pub script : get (codes "script") d ≡ Some (string texts.script)
  pub base : get (codes "base") d ≡ Some (array (strings texts.base))
  pub journal : get (codes "journal") d ≡ Some (array (strings texts.journal))
  pub answers : get (codes "answers") d ≡ Some (array (strings texts.answers))

-- Texts without where they lie in memory.
abbrev pub texts_seen : List (Bor (List ℕ)) → List (List ℕ)
texts_seen texts = map (λ text. text.now) texts

-- A trace without where it lies in memory.
abbrev pub texts_of : Trace → Texts
texts_of trace = record {
  script = trace.script.now;
  base = texts_seen trace.base.items;
  journal = texts_seen trace.journal.items;
  answers = texts_seen trace.answers.items;
}

-- The same of texts to be printed.
abbrev pub own_texts : LifeTexts → Texts
own_texts texts = record {
  script = string_bytes texts.script;
  base = map string_bytes texts.base.items;
  journal = map string_bytes texts.journal.items;
  answers = map string_bytes texts.answers.items;
}

-- The value that texts are printed as: the keys are in their order.
unfoldable pub trace_data : Texts → Data
trace_data texts = object (member (codes "answers") (array (strings texts.answers)) (member (codes "base") (array (strings texts.base))
    (member (codes "journal") (array (strings texts.journal)) (member (codes "script") (string texts.script) no_members))))

-- The line that is printed: the value without a space, and the end of the line.
unfoldable pub trace_line : Texts → List ℕ
trace_line texts = compact_text (trace_data texts) ++ 10 ∷ []

-- The tokens of strings in an array that is open, up to its end, before others.
abbrev pub array_tokens : List (List ℕ) → List Token → List Token
array_tokens texts rest = map token.string texts ++ token.end_array ∷ rest

-- The tokens of a member that has strings, before others.
abbrev pub list_tokens : List ℕ → List (List ℕ) → List Token → List Token
list_tokens name texts rest = token.key name ∷ token.begin_array ∷ array_tokens texts rest

-- The tokens of a member that has a string, and is the last of an object that is the whole text.
abbrev pub last_tokens : List ℕ → List ℕ → List Token
last_tokens name text = token.key name ∷ token.string text ∷ token.end_object ∷ []

-- The tokens of a trace whose keys are in their order.
abbrev pub trace_tokens : Texts → List Token
trace_tokens texts = token.begin_object ∷ list_tokens (codes "answers") texts.answers (list_tokens (codes "base") texts.base
    (list_tokens (codes "journal") texts.journal (last_tokens (codes "script") texts.script)))
