-- What is on a page.
use Rattle.std.specs.Prelude.{ℕ, Bool, List}
use Rattle.std.specs.Str.{bytes_eq}
use Rattle.flt_flash.specs.Image.{blank_page}

-- Every bit is 1.
abbrev pub is_blank : List ℕ → Bool
is_blank page = bytes_eq page blank_page
