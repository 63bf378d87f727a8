-- Strings in arrays, and members of objects.
use Rattle.std.proofs.Common.{◌≡◌, ℕ, zero, suc, ◌+◌, ◌<◌, List, [], ◌∷◌, ◌++◌, length, drop, append-nil, get_or, map, add-one, Bor, Some, None, refl, ap, sym, ◌∙◌, arith}
use Rattle.std.proofs.Math.Seq.{drop-cons}
use Rattle.serde_json.specs.Data.{Data, null, boolean, number, string, array, object, Items, no_items, item, Members}
use Rattle.serde_json.specs.Events.{members_len}
use Rattle.serde_json.specs.Find.{as_array, as_object, as_str}
use Rattle.std.specs.Prelude.{String}
use Rattle.std.specs.declared.alloc.Global.{Global}
use Rattle.std.specs.String.{string_bytes}
use Rattle.serde_json.specs.View.{view, items_of, items_view}
use Rattle.serde_json.specs.declared.value.Value.{Value}
use Rattle.flt_trace.specs.Trace.{member_count, texts_seen, strings}

-- Strings before other items.
abbrev pub onto : List (List ℕ) → Items → Items
onto [] rest = rest
onto (text ∷ texts) rest = item (string text) (onto texts rest)

pub onto_none : (texts : List (List ℕ)) → onto texts no_items ≡ strings texts
onto_none [] = refl
onto_none (text ∷ texts) = ap (item (string text)) (onto_none texts)

pub onto_more : (texts : List (List ℕ)) (text : List ℕ) (rest : Items) → onto (texts ++ text ∷ []) rest ≡ onto texts (item (string text) rest)
onto_more [] text rest = refl
onto_more (first ∷ texts) text rest = ap (item (string first)) (onto_more texts text rest)

-- An item that is no string is among no strings.
pub not_strings : (before : List (List ℕ)) (d : Data) (rest : Items) (texts : List (List ℕ)) → as_str d ≡ None → onto before (item d rest) ≡ strings texts → ⊥
not_strings [] d rest [] none is = absurd cc
not_strings [] d rest (text ∷ texts) none is =
    let same : d ≡ string text = cc is in
    let no : Some text ≡ None = ap as_str (sym same) ∙ none in
    absurd (cc no)
not_strings (first ∷ before) d rest [] none is = absurd cc
not_strings (first ∷ before) d rest (text ∷ texts) none is = not_strings before d rest texts none (cc is)

-- What a look into a value says of it.
pub is_array : (d : Data) (items : Items) → as_array d ≡ Some items → d ≡ array items
is_array null items is = absurd cc
is_array (boolean b) items is = absurd cc
is_array (number n) items is = absurd cc
is_array (string s) items is = absurd cc
is_array (array found) items is = ap array (cc is)
is_array (object ms) items is = absurd cc

pub is_object : (d : Data) (found : Members) → as_object d ≡ Some found → d ≡ object found
is_object null found is = absurd cc
is_object (boolean b) found is = absurd cc
is_object (number n) found is = absurd cc
is_object (string s) found is = absurd cc
is_object (array ds) found is = absurd cc
is_object (object ms) found is = ap object (cc is)

pub is_string : (d : Data) (text : List ℕ) → as_str d ≡ Some text → d ≡ string text
is_string null text is = absurd cc
is_string (boolean b) text is = absurd cc
is_string (number n) text is = absurd cc
is_string (string s) text is = ap string (cc is)
is_string (array ds) text is = absurd cc
is_string (object ms) text is = absurd cc

-- The items from an index on: the one there, and the others.
pub items_from : (values : List Value) (index : ℕ) (d : Value) → index < length values
    → items_view (drop index values) ≡ item (view (get_or values index d)) (items_view (drop (index + 1) values))
items_from values index d within = rw (add-one, drop-cons values index d within) refl

-- How many members there are.
pub counted : (d : Data) (found : Members) → as_object d ≡ Some found → member_count d ≡ members_len found
counted d found is = ap member_count (is_object d found is)

pub uncounted : (d : Data) → as_object d ≡ None → member_count d ≡ 0
uncounted null is = refl
uncounted (boolean b) is = refl
uncounted (number n) is = refl
uncounted (string s) is = refl
uncounted (array ds) is = refl
uncounted (object ms) is = absurd cc

-- A text among those that are seen.
pub seen_at : (texts : List (Bor (List ℕ))) (place : ℕ) (d : Bor (List ℕ)) → place < length texts → (get_or texts place d).now ≡ get_or (texts_seen texts) place d.now
seen_at [] place d among = absurd (omega (arith, among))
seen_at (text ∷ texts) zero d among = refl
seen_at (text ∷ texts) (suc place) d among = seen_at texts place d (omega (arith, among))

-- Values that are strings, in an array.
pub array_strings : (texts : List (String Global)) → items_of (map (λ (text : String Global). string (string_bytes text)) texts) ≡ strings (map string_bytes texts)
array_strings [] = refl
array_strings (text ∷ texts) = ap (item (string (string_bytes text))) (array_strings texts)

-- Where nothing is left, what was gone over is all.
pub gone_over : {A : Type 0} (done rest all : List A) → done ++ rest ≡ all → length rest ≡ 0 → done ≡ all
gone_over done [] all is none = sym (append-nil done) ∙ is
gone_over done (x ∷ rest) all is none = absurd (omega (arith, none))
