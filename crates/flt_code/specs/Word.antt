-- The four words of a sector, as 16 bytes each.
use Rattle.std.specs.Prelude.{◌≡◌, ◌<◌, ◌^◌, ◌==◌, ◌&&◌, ℕ, Bool, true, false, List, ◌∷◌, ◌++◌, replicate, slice_index, slice_range, nat_le, if◌then◌else◌, Option, Some, None}
use Rattle.std.specs.Int.{to_be_bytes, from_be_bytes, w16, w32}
use Rattle.std.specs.Str.{bytes_eq}
use Rattle.flt_code.specs.declared.words.Word.{Word}
use Rattle.flt_code.specs.declared.words.Word.TheVariants.{Start, Active, Head, Gate}

-- A head of 1 to 128 bytes, or of 0 if it makes its block invalid.
abbrev pub is_length : Bool → ℕ → Bool
is_length true length = nat_le 1 length && nat_le length 128
is_length false length = length == 0

-- The numbers are within their fields, and a head has a length of its kind.
abbrev pub IsWord : Word → Type 0
IsWord (Start sequence pages) = (sequence < 2 ^ 32) × (pages < 2 ^ 16)
IsWord (Active sequence) = sequence < 2 ^ 32
IsWord (Head block length valid page) = (block < 2 ^ 16) × (length < 2 ^ 16) × (page < 2 ^ 16) × (is_length valid length ≡ true)
IsWord (Gate block page) = (block < 2 ^ 16) × (page < 2 ^ 16)

-- The bytes of a word: its tag, its numbers as big-endian bytes, and zeros.
unfoldable pub word_bytes : Word → List ℕ
word_bytes (Start sequence pages) = 0x53 ∷ 0x01 ∷ to_be_bytes w32 sequence ++ to_be_bytes w16 pages ++ replicate 8 0
word_bytes (Active sequence) = 0x41 ∷ 0x01 ∷ to_be_bytes w32 sequence ++ replicate 10 0
word_bytes (Head block length valid page) = 0x48 ∷ (if valid then 1 else 2) ∷ to_be_bytes w16 block ++ to_be_bytes w16 length ++ to_be_bytes w16 page
    ++ replicate 8 0
word_bytes (Gate block page) = 0x47 ∷ 0x01 ∷ to_be_bytes w16 block ++ to_be_bytes w16 page ++ replicate 10 0

-- The word is the one whose bytes these are.
pub record IsWordOf (word : Word) (bytes : List ℕ) : Type 0 where
  pub proper : IsWord word
  pub is : bytes ≡ word_bytes word

-- The words that the fields after a tag would give.
abbrev pub start_in : List ℕ → Word
start_in bytes = Start (from_be_bytes w32 (slice_range bytes 2 6)) (from_be_bytes w16 (slice_range bytes 6 8))

abbrev pub active_in : List ℕ → Word
active_in bytes = Active (from_be_bytes w32 (slice_range bytes 2 6))

abbrev pub head_in : List ℕ → Option Word
head_in bytes =
    let valid = slice_index bytes 1 == 1 in
    let length = from_be_bytes w16 (slice_range bytes 4 6) in
    if is_length valid length then Some (Head (from_be_bytes w16 (slice_range bytes 2 4)) length valid (from_be_bytes w16 (slice_range bytes 6 8))) else None

abbrev pub gate_word_in : List ℕ → Word
gate_word_in bytes = Gate (from_be_bytes w16 (slice_range bytes 2 4)) (from_be_bytes w16 (slice_range bytes 4 6))

-- The word that a tag and the fields after it would give.
unfoldable pub candidate : List ℕ → Option Word
candidate bytes =
    let tag = slice_index bytes 0 in
    if tag == 0x53 then Some (start_in bytes)
    else if tag == 0x41 then Some (active_in bytes)
    else if tag == 0x48 then head_in bytes
    else if tag == 0x47 then Some (gate_word_in bytes)
    else None

-- A word whose bytes these are.
abbrev pub checked : Option Word → List ℕ → Option Word
checked None bytes = None
checked (Some word) bytes = if bytes_eq (word_bytes word) bytes then Some word else None

-- The word of 16 bytes.
unfoldable pub word_of : List ℕ → Option Word
word_of bytes = checked (candidate bytes) bytes
