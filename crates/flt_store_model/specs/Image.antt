-- What an image holds: its two sectors, of which the first pages are used, as many as the configuration has.
use Rattle.std.specs.Prelude.{ℕ, List, Option, Result}
use Rattle.flt_flash.specs.Content.{Content}
use Rattle.flt_sector_model.specs.Blocks.{first_fault, block_value}
use Rattle.flt_config.specs.declared.config.Config.{Config}
use Rattle.flt_store_model.specs.Layout.{numbers, application_number}
use Rattle.flt_store_model.specs.Holding.{Generation, Fault}
use Rattle.flt_store_model.specs.Whole.{whole_held, whole_spare, IsSoundWhole}

-- The first fault of its pages, by sector and page.
abbrev pub image_damage : Config → List (List (List ℕ)) → Option (ℕ × ℕ)
image_damage c image = first_fault c.pages numbers image

-- What it holds under each number.
abbrev pub image_blocks : Config → List (List (List ℕ)) → ℕ → Content
image_blocks c image = block_value c.pages numbers image

-- The generation that it holds, or its first fault: that of its pages before any of its blocks.
abbrev pub image_held : Config → List (List (List ℕ)) → Result Generation Fault
image_held c image = whole_held c (image_damage c image) (image_blocks c image)

-- The generation that it holds where the first copy of its commit can't be read.
abbrev pub image_spare : Config → List (List (List ℕ)) → Result Generation Fault
image_spare c image = whole_spare c (image_damage c image) (image_blocks c image)

-- An application block of it.
abbrev pub image_application : Config → List (List (List ℕ)) → ℕ → Content
image_application c image block = image_blocks c image (application_number block)

-- It has no fault, and holds these two generations, which are one or follow each other.
abbrev pub IsSoundImage : Config → List (List (List ℕ)) → Generation → Generation → Type 0
IsSoundImage c image = IsSoundWhole c (image_damage c image) (image_blocks c image)
