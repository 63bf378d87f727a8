-- The bytes of a word are read as that word.
use Rattle.std.proofs.Common.{◌≡◌, ◌≢◌, ℕ, Bool, true, false, List, Option, Some, None, refl, sym, ◌∙◌, ap}
use Rattle.std.specs.Prelude.{if◌then◌else◌, IfNone}
use Rattle.std.specs.Str.{bytes_eq}
use Rattle.std.proofs.lemmas.Slice.Eq.{bytes_eq-Decides}
use Rattle.std.proofs.lemmas.Nat.{from_be_bytes-to_be_bytes_2, from_be_bytes-to_be_bytes_4}
use Rattle.flt_code.specs.declared.words.Word.{Word}
use Rattle.flt_code.specs.declared.words.Word.TheVariants.{Start, Active, Head, Gate}
use Rattle.flt_code.specs.Word.{IsWord, word_bytes, candidate, checked, word_of, is_length}

kept : (test : Bool) (word : Word) → test ≡ true → (if test then Some word else None) ≡ Some word
kept test word is = ap (λ b. if b then Some word else None) is

pub candidate-word_bytes : (word : Word) → IsWord word → candidate (word_bytes word) ≡ Some word
unfolding candidate word_bytes
candidate-word_bytes (Start sequence pages) proper = λ i. Some (Start (from_be_bytes-to_be_bytes_4 sequence proper.0 i) (from_be_bytes-to_be_bytes_2 pages proper.1 i))
candidate-word_bytes (Active sequence) proper = λ i. Some (Active (from_be_bytes-to_be_bytes_4 sequence proper i))
candidate-word_bytes (Head block length true page) proper =
    (λ i. if is_length true (from_be_bytes-to_be_bytes_2 length proper.1 i) then Some (Head (from_be_bytes-to_be_bytes_2 block proper.0 i) (from_be_bytes-to_be_bytes_2 length proper.1 i) true (from_be_bytes-to_be_bytes_2 page proper.2 i)) else None)
    ∙ kept (is_length true length) (Head block length true page) proper.3
candidate-word_bytes (Head block length false page) proper =
    (λ i. if is_length false (from_be_bytes-to_be_bytes_2 length proper.1 i) then Some (Head (from_be_bytes-to_be_bytes_2 block proper.0 i) (from_be_bytes-to_be_bytes_2 length proper.1 i) false (from_be_bytes-to_be_bytes_2 page proper.2 i)) else None)
    ∙ kept (is_length false length) (Head block length false page) proper.3
candidate-word_bytes (Gate block page) proper = λ i. Some (Gate (from_be_bytes-to_be_bytes_2 block proper.0 i) (from_be_bytes-to_be_bytes_2 page proper.1 i))

pub word_of-word_bytes : (word : Word) → IsWord word → word_of (word_bytes word) ≡ Some word
unfolding word_of
word_of-word_bytes word proper =
    ap (λ c. checked c (word_bytes word)) (candidate-word_bytes word proper)
    ∙ kept (bytes_eq (word_bytes word) (word_bytes word)) word ((bytes_eq-Decides (word_bytes word) (word_bytes word)).1 refl)

-- What is no word is read as none.
module _ (bytes : List ℕ) where
  no_word : word_of bytes ≡ None → (word : Word) → IsWord word → bytes ≡ word_bytes word → ⊥
  no_word none word proper is =
      let some : word_of bytes ≡ Some word = ap word_of is ∙ word_of-word_bytes word proper in cc

  pub none_read : (read : Option Word) → read ≡ word_of bytes → IfNone read ((word : Word) → IsWord word → bytes ≢ word_bytes word)
  none_read None is = λ word proper same. no_word (sym is) word proper same
  none_read (Some word) is = tt
