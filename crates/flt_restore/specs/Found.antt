-- What was read of a block.
use Rattle.std.specs.Prelude.{ℕ, ◌≤◌, ◌<◌, IsFalse, IsSomeAnd}
use Rattle.flt_flash.specs.Content.{Content, missing, invalid, bytes}
use Rattle.flt_flash.specs.Blocks.{BlocksState}
use Rattle.flt_flash.specs.Calls.{Follows, SameImage, SameSpent, SameValues}
use Rattle.flt_flash.specs.declared.blocks.Found.{Found}
use Rattle.flt_flash.specs.declared.blocks.Found.TheVariants.{Bytes as FoundBytes, Missing as FoundMissing, Invalid as FoundInvalid}
use Rattle.flt_nvm.specs.declared.got.Got.{Got}
use Rattle.flt_nvm.specs.declared.got.Got.TheVariants.{Bytes as GotBytes, Missing as GotMissing, Invalid as GotInvalid}
use Rattle.flt_nvm.specs.declared.table.Kind.{Kind}
use Rattle.flt_nvm.specs.declared.table.Kind.TheVariants.{Native, Redundant, Dataset}
use Rattle.flt_nvm.specs.Table.{block_in}
use Rattle.flt_image.specs.Table.{block_table}
use Rattle.flt_restore.specs.declared.reading.Held.{Held}
use Rattle.flt_restore.specs.declared.reading.Held.TheVariants.{Missing, Invalid, Bytes}

-- What a block holds, by what was read of it.
abbrev pub held_content : Held → Content
held_content Missing = missing
held_content Invalid = invalid
held_content (Bytes raw) = bytes raw.items

-- The bytes that a read would find.
abbrev pub size_found : Found → ℕ
size_found (FoundBytes length) = length
size_found FoundMissing = 0
size_found FoundInvalid = 0

-- A read gave no more bytes than a block has.
abbrev pub IsShortRead : Got → Type 0
IsShortRead (GotBytes length copy) = length ≤ 128
IsShortRead GotMissing = Unit {0}
IsShortRead GotInvalid = Unit {0}

-- A block of one copy, and an index that it has.
abbrev pub IsIndexOf : Kind → ℕ → Type 0
IsIndexOf Native index = index < 1
IsIndexOf Redundant index = ⊥
IsIndexOf (Dataset indices) index = index < indices

abbrev pub IsSingle : ℕ → ℕ → Type 0
IsSingle id index = IsSomeAnd (block_in block_table id) (λ block. IsIndexOf block.kind index)

-- Any number of reads, which change no block and never make the driver spent; they leave the image of a driver that is not stale.
pub record Reads (before after : BlocksState) : Type 0 where
  pub values : SameValues before after
  -- Its numbers and its room are the same, it stays mounted, and no count of its device fell.
  pub calls : Follows before after
  pub stays : IsFalse before.is_stale → IsFalse after.is_stale
  pub image : IsFalse before.is_stale → SameImage before after
  pub spent : SameSpent before after
