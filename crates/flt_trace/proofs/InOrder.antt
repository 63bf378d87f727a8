-- The tokens of a trace whose keys are in their order are those of one value, which is read of them.
use Rattle.std.proofs.Common.{◌≡◌, ℕ, List, [], ◌∷◌, ◌++◌, Option, Some, None, Result, Ok, Err, ◌≤◌, option_and_then, append-nil, refl, sym, ap, ◌∙◌, arith}
use Rattle.std.specs.Prelude.{IfOk, IfSome, codes, option_map}
use Rattle.json.specs.Token.{Token, begin_array, begin_object, key, string}
use Rattle.json.specs.Lex.{tokens}
use Rattle.json.specs.Json as json
use Rattle.json.specs.Tree.{depth, items_depth, items_tokens, json_tokens, members_tokens}
use Rattle.json.proofs.Printed.Trees.{value-json_tokens}
use Rattle.serde_json.specs.Data as values
use Rattle.serde_json.specs.Read.{max_depth, of_items, of_json, read}
use Rattle.flt_trace.specs.declared.object.trace.Trace.{Trace}
use Rattle.flt_trace.specs.Trace.{Texts, array_tokens, strings, texts_of, trace_data, trace_tokens}

-- Strings as the grammar has them.
abbrev items_of : List (List ℕ) → json.Items
items_of [] = json.no_items
items_of (text ∷ texts) = json.item (json.string text) (items_of texts)

items_before : (texts : List (List ℕ)) (rest : List Token) → items_tokens (items_of texts) ++ rest ≡ array_tokens texts rest
items_before [] rest = refl
items_before (text ∷ texts) rest = ap (λ (l : List Token). string text ∷ l) (items_before texts rest)

flat : (texts : List (List ℕ)) → items_depth (items_of texts) ≡ 0
flat [] = refl
flat (text ∷ texts) = rw (flat texts) refl

converted_items : (texts : List (List ℕ)) → of_items (items_of texts) ≡ Some (strings texts)
converted_items [] = refl
converted_items (text ∷ texts) = ap (option_map (values.item (values.string text))) (converted_items texts)

-- A member that has an array.
abbrev list_member : List ℕ → List (List ℕ) → json.Members → json.Members
list_member name texts rest = json.member name (json.array (items_of texts)) rest

member_before : (name : List ℕ) (texts : List (List ℕ)) (rest : json.Members) (after : List Token) → members_tokens rest ≡ after
    → members_tokens (list_member name texts rest) ≡ key name ∷ begin_array ∷ array_tokens texts after
member_before name texts rest after is = ap (λ (l : List Token). key name ∷ begin_array ∷ l) (items_before texts (members_tokens rest) ∙ ap (array_tokens texts) is)

abbrev script_member : Texts → json.Members
script_member texts = json.member (codes "script") (json.string texts.script) json.no_members

abbrev from_journal : Texts → json.Members
from_journal texts = list_member (codes "journal") texts.journal (script_member texts)

abbrev from_base : Texts → json.Members
from_base texts = list_member (codes "base") texts.base (from_journal texts)

abbrev value_of : Texts → json.Json
value_of texts = json.object (list_member (codes "answers") texts.answers (from_base texts))

all_tokens : (texts : Texts) → json_tokens (value_of texts) ≡ trace_tokens texts
all_tokens texts =
    let journal = member_before (codes "journal") texts.journal (script_member texts) _ refl in
    let base = member_before (codes "base") texts.base (from_journal texts) _ journal in
    ap (λ (l : List Token). begin_object ∷ l) (member_before (codes "answers") texts.answers (from_base texts) _ base)

shallow : (texts : Texts) → depth (value_of texts) ≤ max_depth
shallow texts = rw (flat texts.answers, flat texts.base, flat texts.journal) (omega arith)

converted : (texts : Texts) → of_json (value_of texts) ≡ Some (trace_data texts)
unfolding trace_data
converted texts = rw (converted_items texts.answers, converted_items texts.base, converted_items texts.journal) refl

pub read_in_order : (text : List ℕ) (texts : Texts) → tokens text ≡ trace_tokens texts → read text ≡ Some (trace_data texts)
read_in_order text texts is =
    let value = value_of texts in
    let same : tokens text ≡ json_tokens value ++ [] = is ∙ sym (all_tokens texts) ∙ sym (append-nil (json_tokens value)) in
    let parsed : json.value max_depth (tokens text) ≡ Some (value, []) = ap (json.value max_depth) same ∙ value-json_tokens value max_depth [] (shallow texts) in
    ap (λ found. option_and_then of_json (option_and_then (λ p. json.if_last p.0 p.1) found)) parsed ∙ converted texts

pub all_read : {E : Type 0} (text : List ℕ) (found : Result (Option Trace) E) → IfOk found (λ o. IfSome o (λ trace. tokens text ≡ trace_tokens (texts_of trace)))
    → IfOk found (λ o. IfSome o (λ trace. read text ≡ Some (trace_data (texts_of trace))))
all_read text (Ok (Some trace)) is = read_in_order text (texts_of trace) is
all_read text (Ok None) is = tt
all_read text (Err e) is = tt
