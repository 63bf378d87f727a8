-- What a page says, as a fact.
use Rattle.std.specs.Prelude.{◌≡◌, ℕ, List, Some, None}
use Rattle.flt_code.specs.Seal.{unsealed}
use Rattle.flt_code.specs.Word.{word_of}
use Rattle.flt_code.specs.declared.words.Word.{Word}

-- The page is the code word of this meaning.
pub record Says (word : Word) (page : List ℕ) : Type 0 where
  pub code : List ℕ
  pub is_code : unsealed page ≡ Some code
  pub says : word_of code ≡ Some word

-- The page is a code word, but of no such meaning.
pub record SaysOther (IsMeant : Word → Type 0) (page : List ℕ) : Type 0 where
  pub code : List ℕ
  pub is_code : unsealed page ≡ Some code
  pub other : (word : Word) → word_of code ≡ Some word → IsMeant word → ⊥

-- The page is not a code word.
abbrev pub IsNoCode : List ℕ → Type 0
IsNoCode page = unsealed page ≡ None
