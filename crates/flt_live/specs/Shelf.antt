-- What a shelf keeps between two lives.
use Rattle.std.specs.Prelude.{◌≡◌, ℕ, List, Option, Some, None}
use Rattle.flt_file.specs.Layout.{image_in}
use Rattle.flt_live.specs.declared.shelf.KeptImage.{KeptImage}

-- A flash of which an image was kept has it again; if none was kept, it may have any.
abbrev pub GivesBack : Option (List (List (List ℕ))) → List (List (List ℕ)) → Type 0
GivesBack None image = Unit {0}
GivesBack (Some kept) image = image ≡ kept

-- The image that was kept, if one was.
abbrev pub kept_in : Option KeptImage → Option (List (List (List ℕ)))
kept_in None = None
kept_in (Some kept) = Some (image_in kept.pages kept.bytes.items)
