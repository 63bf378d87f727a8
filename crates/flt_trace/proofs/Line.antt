-- A line that is printed is read as the value that it was printed of: the end of the line is passed over.
use Rattle.std.proofs.Common.{◌≡◌, ℕ, zero, suc, IsAscii, List, [], ◌∷◌, ◌++◌, Bool, true, false, IsUtf8, ◌≤◌, refl, sym, ap, ap₂, subst, ◌∙◌, append_assoc, append-nil, arith}
use Rattle.std.proofs.lemmas.Str.{IsUtf8-append, IsUtf8-from_ascii}
use Rattle.json.specs.Lex.{Lexeme, token, operator_lexeme, string_token, lex, between, fresh, punctuate}
use Rattle.json.specs.Json as json
use Rattle.json.specs.Print.{escape, quoted}
use Rattle.json.proofs.Printed.Strings.{content-escape, lex-escape}
use Rattle.json.specs.Token.{string}
use Rattle.serde_json.specs.Data.{array, depth, items_depth}
use Rattle.serde_json.specs.Read.{max_depth, of_json, read}
use Rattle.serde_json.specs.Written.{comma_if, compact_text, has_float, items_have_float, items_text}
use Rattle.std.specs.Prelude.{option_and_then, codes}
use Rattle.flt_trace.specs.Trace.{IsTrace, Texts, strings, trace_data}

-- What is in a text depends on the text alone, whatever follows it.
abbrev Closed : List ℕ → Type 0
Closed text = (lexemes : List Lexeme) × ((rest : List ℕ) → lex between (text ++ rest) ≡ lexemes ++ lex between rest)

joined : (first second : List ℕ) → Closed first → Closed second → Closed (first ++ second)
joined first second front back = (
  front.0 ++ back.0,
  λ rest.
      ap (lex between) (append_assoc first second rest) ∙ front.1 (second ++ rest) ∙ ap (λ l. front.0 ++ l) (back.1 rest)
      ∙ sym (append_assoc front.0 back.0 (lex between rest)),
)

closed_quoted : (text : List ℕ) → Closed (quoted text)
unfolding lex
closed_quoted text = (
  token (string text) ∷ [],
  λ rest. ap (λ l. lex between (34 ∷ l)) (append_assoc (escape text) (34 ∷ []) rest) ∙ ap₂ (λ o l. token (string_token o) ∷ l) (content-escape text rest) (lex-escape text rest),
)

opened : Closed (123 ∷ [])
unfolding lex
opened = (operator_lexeme 123 ∷ [], λ rest. refl)

closed : Closed (125 ∷ [])
unfolding lex
closed = (operator_lexeme 125 ∷ [], λ rest. refl)

list_opened : Closed (91 ∷ [])
unfolding lex
list_opened = (operator_lexeme 91 ∷ [], λ rest. refl)

list_closed : Closed (93 ∷ [])
unfolding lex
list_closed = (operator_lexeme 93 ∷ [], λ rest. refl)

colon_closed : Closed (58 ∷ [])
unfolding lex
colon_closed = (operator_lexeme 58 ∷ [], λ rest. refl)

comma_closed : Closed (44 ∷ [])
unfolding lex
comma_closed = (operator_lexeme 44 ∷ [], λ rest. refl)

nothing_closed : Closed []
nothing_closed = ([], λ rest. refl)

comma_if_closed : (later : Bool) → Closed (comma_if later)
comma_if_closed true = comma_closed
comma_if_closed false = nothing_closed

closed_items : (later : Bool) (texts : List (List ℕ)) → Closed (items_text later (strings texts))
closed_items later [] = list_closed
closed_items later (text ∷ texts) =
    joined (comma_if later) (quoted text ++ items_text true (strings texts)) (comma_if_closed later) (joined (quoted text) (items_text true (strings texts)) (closed_quoted text) (closed_items true texts))

closed_array : (texts : List (List ℕ)) → Closed (compact_text (array (strings texts)))
closed_array texts = joined (91 ∷ []) (items_text false (strings texts)) list_opened (closed_items false texts)

-- A member, and what follows it.
closed_member : (key value rest : List ℕ) → Closed value → Closed rest → Closed (quoted key ++ 58 ∷ (value ++ rest))
closed_member key value rest by_value by_rest =
    joined (quoted key) (58 ∷ (value ++ rest)) (closed_quoted key) (joined (58 ∷ []) (value ++ rest) colon_closed (joined value rest by_value by_rest))

-- A member that has an array, and another after it.
abbrev list_member : List ℕ → List (List ℕ) → List ℕ → List ℕ
list_member key texts rest = quoted key ++ 58 ∷ (compact_text (array (strings texts)) ++ 44 ∷ rest)

closed_list : (key : List ℕ) (texts : List (List ℕ)) (rest : List ℕ) → Closed rest → Closed (list_member key texts rest)
closed_list key texts rest is = closed_member key (compact_text (array (strings texts))) (44 ∷ rest) (closed_array texts) (joined (44 ∷ []) rest comma_closed is)

abbrev script_member : Texts → List ℕ
script_member texts = quoted (codes "script") ++ 58 ∷ (quoted texts.script ++ 125 ∷ [])

closed_script : (texts : Texts) → Closed (script_member texts)
closed_script texts = closed_member (codes "script") (quoted texts.script) (125 ∷ []) (closed_quoted texts.script) closed

abbrev from_journal : Texts → List ℕ
from_journal texts = list_member (codes "journal") texts.journal (script_member texts)

abbrev from_base : Texts → List ℕ
from_base texts = list_member (codes "base") texts.base (from_journal texts)

abbrev from_answers : Texts → List ℕ
from_answers texts = list_member (codes "answers") texts.answers (from_base texts)

closed_members : (texts : Texts) → Closed (from_answers texts)
closed_members texts =
    closed_list (codes "answers") texts.answers (from_base texts)
    (closed_list (codes "base") texts.base (from_journal texts) (closed_list (codes "journal") texts.journal (script_member texts) (closed_script texts)))

closed_trace : (texts : Texts) → Closed (compact_text (trace_data texts))
unfolding trace_data
closed_trace texts = joined (123 ∷ []) (from_answers texts) opened (closed_members texts)

-- The end of a line is a space between lexemes.
line_end : lex between (10 ∷ []) ≡ []
unfolding lex
line_end = refl

nothing_left : lex between [] ≡ []
unfolding lex
nothing_left = refl

end_passed : (text : List ℕ) → Closed text → lex between (text ++ 10 ∷ []) ≡ lex between text
end_passed text is =
    is.1 (10 ∷ []) ∙ ap (λ l. is.0 ++ l) (line_end ∙ sym nothing_left) ∙ sym (is.1 []) ∙ ap (lex between) (append-nil text)

-- The line is read as its value is.
pub line_read : (texts : Texts) (text : List ℕ) → text ≡ compact_text (trace_data texts) → read (text ++ 10 ∷ []) ≡ read text
line_read texts text is =
    let same : lex between (text ++ 10 ∷ []) ≡ lex between text = end_passed text (subst Closed (sym is) (closed_trace texts)) in
    ap (λ lexemes. option_and_then of_json (option_and_then (λ p. json.if_last p.0 p.1) (json.value max_depth (punctuate fresh lexemes)))) same

feed_ascii : IsAscii (10 ∷ [])
feed_ascii zero = omega arith
feed_ascii (suc k) = omega arith

pub line_utf8 : (text : List ℕ) → IsUtf8 text → IsUtf8 (text ++ 10 ∷ [])
line_utf8 text is = IsUtf8-append text (10 ∷ []) is (IsUtf8-from_ascii (10 ∷ []) feed_ascii)

-- A trace has no float, and is two deep.
no_float_in : (texts : List (List ℕ)) → items_have_float (strings texts) ≡ false
no_float_in [] = refl
no_float_in (text ∷ texts) = no_float_in texts

pub no_float : (texts : Texts) → has_float (trace_data texts) ≡ false
unfolding trace_data
no_float texts = rw (no_float_in texts.answers, no_float_in texts.base, no_float_in texts.journal) refl

flat : (texts : List (List ℕ)) → items_depth (strings texts) ≡ 0
flat [] = refl
flat (text ∷ texts) = rw (flat texts) refl

pub shallow : (texts : Texts) → depth (trace_data texts) ≤ max_depth
unfolding trace_data
shallow texts = rw (flat texts.answers, flat texts.base, flat texts.journal) (omega arith)

-- The value of texts is a trace of them.
pub is_trace : (texts : Texts) → IsTrace (trace_data texts) texts
unfolding trace_data
is_trace texts = record { count = refl; script = refl; base = refl; journal = refl; answers = refl }
