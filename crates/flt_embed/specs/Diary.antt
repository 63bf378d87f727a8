-- What a diary is.
use Rattle.std.specs.Prelude.{ℕ, List}
use Rattle.flt_embed.specs.declared.diary.Diary.{Diary}

-- The bytes that it keeps.
abbrev pub diary_bytes : Diary → List ℕ
diary_bytes diary = diary.bytes.items
