-- Worked words of a sector, as 16 bytes each.
use Rattle.std.specs.Prelude.{◌≡◌, ℕ, true, false, List, [], ◌∷◌, replicate, map, Some, None}
use Rattle.flt_code.specs.Word.{word_bytes, word_of}
use Rattle.flt_code.specs.declared.words.Word.{Word}
use Rattle.flt_code.specs.declared.words.Word.TheVariants.{Start, Active, Head, Gate}

-- A start gate, an active gate, a head of 128 bytes, the head of an invalid block, and the gate of a record.
abbrev pub words : List Word
words =
    Start 0x01020304 0x0506
    ∷ Active 0x01020304
    ∷ Head 0x0102 128 true 0x0304
    ∷ Head 0x0102 0 false 0x0304
    ∷ Gate 0x0102 0x0304
    ∷ []

-- Their bytes.
abbrev pub words_in_bytes : List (List ℕ)
words_in_bytes =
    (0x53 ∷ 0x01 ∷ 0x01 ∷ 0x02 ∷ 0x03 ∷ 0x04 ∷ 0x05 ∷ 0x06 ∷ 0x00 ∷ 0x00 ∷ 0x00 ∷ 0x00 ∷ 0x00 ∷ 0x00 ∷ 0x00 ∷ 0x00 ∷ [])
    ∷ (0x41 ∷ 0x01 ∷ 0x01 ∷ 0x02 ∷ 0x03 ∷ 0x04 ∷ 0x00 ∷ 0x00 ∷ 0x00 ∷ 0x00 ∷ 0x00 ∷ 0x00 ∷ 0x00 ∷ 0x00 ∷ 0x00 ∷ 0x00 ∷ [])
    ∷ (0x48 ∷ 0x01 ∷ 0x01 ∷ 0x02 ∷ 0x00 ∷ 0x80 ∷ 0x03 ∷ 0x04 ∷ 0x00 ∷ 0x00 ∷ 0x00 ∷ 0x00 ∷ 0x00 ∷ 0x00 ∷ 0x00 ∷ 0x00 ∷ [])
    ∷ (0x48 ∷ 0x02 ∷ 0x01 ∷ 0x02 ∷ 0x00 ∷ 0x00 ∷ 0x03 ∷ 0x04 ∷ 0x00 ∷ 0x00 ∷ 0x00 ∷ 0x00 ∷ 0x00 ∷ 0x00 ∷ 0x00 ∷ 0x00 ∷ [])
    ∷ (0x47 ∷ 0x01 ∷ 0x01 ∷ 0x02 ∷ 0x03 ∷ 0x04 ∷ 0x00 ∷ 0x00 ∷ 0x00 ∷ 0x00 ∷ 0x00 ∷ 0x00 ∷ 0x00 ∷ 0x00 ∷ 0x00 ∷ 0x00 ∷ [])
    ∷ []

-- A tag, a kind, the bytes of three numbers, and zeros.
abbrev pub tag_and_numbers : ℕ → ℕ → ℕ → ℕ → ℕ → List ℕ
tag_and_numbers tag kind first second third = tag ∷ kind ∷ 0x00 ∷ first ∷ 0x00 ∷ second ∷ 0x00 ∷ third ∷ replicate 8 0x00

-- Each word has these bytes and is read of them alone. Those of another kind are no words, nor are heads whose length is not of their kind, a tag
-- of no word, and numbers that are not followed by zeros.
pub record EachWord : Type 0 where
  pub written : map word_bytes words ≡ words_in_bytes
  pub read : map word_of words_in_bytes ≡ map Some words
  pub refused : map word_of
      (tag_and_numbers 0x53 0x02 0 1 9
      ∷ tag_and_numbers 0x41 0x02 0 1 0
      ∷ tag_and_numbers 0x48 0x03 8 0 2
      ∷ tag_and_numbers 0x48 0x00 8 0 2
      ∷ tag_and_numbers 0x48 0x01 8 0 2
      ∷ tag_and_numbers 0x48 0x01 8 129 2
      ∷ tag_and_numbers 0x48 0x02 8 1 2
      ∷ tag_and_numbers 0x47 0x02 8 2 0
      ∷ tag_and_numbers 0x47 0x01 8 2 1
      ∷ tag_and_numbers 0x45 0x01 8 1 1
      ∷ [])
      ≡ replicate 10 None
