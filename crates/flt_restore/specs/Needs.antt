-- What the reads of a start-up need of the blocks by kind, and what they leave.
use Rattle.std.specs.Prelude.{◌≡◌, ℕ, ◌<◌, ◌≤◌, IsFalse, IsTrue}
use Rattle.flt_flash.specs.Calls.{Follows, SameImage, SameSpent, SameValues}
use Rattle.flt_flash.specs.declared.blocks.Blocks.{Ghosts}
use Rattle.flt_nvm.specs.declared.nvm.Nvm.{Nvm}
use Rattle.flt_nvm.specs.Driver.{driver_of, table_of}
use Rattle.flt_image.specs.Table.{block_table}
use Rattle.flt_config.specs.declared.config.Config.{Config}
use Rattle.flt_store_model.specs.declared.commit.Commit.{Commit}
use Rattle.flt_store_model.specs.Form.{IsCommit}
use Rattle.flt_store_model.specs.Layout.{end_part, first_part}

-- This is one of the blocks of a state, and the commit has the form of the configuration's.
pub record IsNamedPart (c : Config) (commit : Commit) (id : ℕ) : Type 0 where
  pub form : IsCommit c commit
  pub first : first_part ≤ id
  pub end : id < end_part

module _ {B : Type 0} {b : Ghosts B} where
  -- The blocks can be read: they are those of an image, and their driver has mounted.
  pub record IsReadable (nvm : Nvm B b) : Type 0 where
    pub table : table_of nvm ≡ block_table
    pub mounted : IsTrue (driver_of nvm).has_mounted

  -- The reads of a start-up on a driver that was not stale: they change no block, write nothing and use no sequence number.
  pub record ReadsImage (before after : Nvm B b) : Type 0 where
    pub not_stale : IsFalse (driver_of after).is_stale
    pub values : SameValues (driver_of before) (driver_of after)
    pub image : SameImage (driver_of before) (driver_of after)
    pub spent : SameSpent (driver_of before) (driver_of after)
    -- Its numbers and its room are the same, it stays mounted, and no count of its device fell.
    pub calls : Follows (driver_of before) (driver_of after)
    pub table : table_of after ≡ table_of before
