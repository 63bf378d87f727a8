-- What a block holds.
use Rattle.std.specs.Prelude.{ℕ, ◌≤◌, List, length}

-- Nothing yet, the mark of an invalid block, or bytes.
pub data Content : Type 0 where
  missing : Content
  invalid : Content
  bytes : List ℕ → Content

-- How many bytes that is.
abbrev pub size_of : Content → ℕ
size_of missing = 0
size_of invalid = 0
size_of (bytes held) = length held

-- No more bytes than a record has.
abbrev pub IsShort : Content → Type 0
IsShort content = size_of content ≤ 128
