-- What an image is found to hold, and what it says line by line.
use Rattle.std.specs.Prelude.{◌≡◌, ℕ, Option, Some, None, Result, Ok, Err}
use Rattle.flt_config.specs.declared.config.Config.{Config}
use Rattle.flt_store_model.specs.Holding.{Generation, Fault}
use Rattle.flt_store_model.specs.Layout.{numbers}
use Rattle.flt_restore.specs.Judging.{told_as}
use Rattle.flt_restore.specs.declared.commit.CommitCopy.{CommitCopy}
use Rattle.flt_restore.specs.declared.fault.StartFault.{StartFault}
use Rattle.flt_store_model.specs.Image.{image_held}
use Rattle.flt_dump.specs.declared.held.Insight.{Insight}
use Rattle.flt_dump.specs.Dump.{DumpContent}
use Rattle.flt_dump.specs.Listing.{listing_text}

-- The number of the generation, or the fault as a start-up reports it.
abbrev pub number_told : Config → Result Generation Fault → Result ℕ StartFault
number_told c (Ok g) = Ok g.number
number_told c (Err fault) = Err (told_as c fault)

-- The number of the generation of a commit that was read, 0 where there is none.
abbrev pub copy_generation : Option CommitCopy → ℕ
copy_generation None = 0
copy_generation (Some found) = found.commit.generation

-- What the image of a dump holds, and its lines.
pub record SeesInto (dump : DumpContent) (insight : Insight) : Type 0 where
  pub held : insight.held ≡ number_told dump.config (image_held dump.config dump.image)
  pub listing : insight.listing.items ≡ listing_text dump.config.pages numbers dump.image
