-- What the bytes of a file reveal: nothing, since no contract can say which bytes the system keeps.
use Rattle.std.specs.Prelude.{ℕ, List, Option, None}
use Rattle.flt_file.specs.declared.file.FileBytes.{FileBytes}

abbrev pub file_bytes_told : FileBytes → Option (List ℕ)
file_bytes_told store = None
