-- What the parts of a start-up need, and what they leave.
use Rattle.std.specs.Prelude.{ℕ, ◌↔◌, Bool, Option, Result, IfOk, IfErr, IsErrOf, IsTrue, IsFalse, OnOk}
use Rattle.flt_flash.specs.Content.{Content}
use Rattle.flt_flash.specs.Blocks.{BlocksState}
use Rattle.flt_flash.specs.declared.blocks.Blocks.{Ghosts}
use Rattle.flt_flash.specs.declared.blocks.BlockFault.{BlockFault}
use Rattle.flt_flash.specs.declared.blocks.BlockFault.TheVariants.{Flash as BlockFlash, SequenceSpent as BlockStuck}
use Rattle.flt_config.specs.declared.config.Config.{Config}
use Rattle.flt_store_model.specs.declared.commit.Commit.{Commit}
use Rattle.flt_store_model.specs.Layout.{mark_number}
use Rattle.flt_store_model.specs.Form.{mark_of}
use Rattle.flt_store_model.specs.Excess.{IsBorne}
use Rattle.flt_store_model.specs.Holding.{Generation, MarkAllows}
use Rattle.flt_restore.specs.declared.commit.CommitCopy.{CommitCopy}
use Rattle.flt_restore.specs.declared.fault.StartFault.{StartFault}
use Rattle.flt_restore.specs.declared.fault.StartFault.TheVariants.{Flash, SequenceSpent}
use Rattle.flt_restore.specs.Restored.{IsMarkDue}
use Rattle.flt_store.specs.declared.store.Store.{Store}
use Rattle.flt_store.specs.Cause.{HasRoom, StoreWrites}
use Rattle.flt_store.specs.Started.{HasMark, IsMarkTried, IsStarted}
use Rattle.flt_store.specs.Leaving.{AddsNoGeneration}
use Rattle.flt_store.specs.Store.{driver_of}
use Rattle.flt_store.specs.Start.{IsFoundIn, RefusedFor}
use Rattle.flt_store.specs.Dark.{IsMarkUnwritten, IsOfBlocks, IsUnbegun}
use Rattle.flt_store.specs.Spent.{IsMarkStuck, IsOutOfNumbers}

-- The driver was mounted, is not stale, and leaves the configuration its room.
pub record IsMountedFor (c : Config) (driver : BlocksState) : Type 0 where
  -- The driver has room for the configuration.
  pub room : HasRoom c driver.room
  -- The driver was mounted.
  pub mounted : IsTrue driver.has_mounted
  -- The driver is not stale.
  pub not_stale : IsFalse driver.is_stale

-- The mark of a configuration was written where that was due, or is as it was.
pub record WritesMark (c : Config) (before after : BlocksState) (result : Result (Unit {0}) BlockFault) : Type 0 where
  -- Over an image that is not another configuration's it is there after Ok.
  pub marked : (commit : Content) → MarkAllows c (before.value mark_number) commit → OnOk result (HasMark c after.value)
  -- The mark is there or as it was, and no other block changed.
  pub tried : IsMarkTried c before.value after.value
  -- It fails by the flash only if the mark was due and three writes failed.
  pub unwritten : IsErrOf result BlockFlash → IsMarkUnwritten c before after
  -- It finds no sequence number only if the driver has none left for the mark.
  pub stuck : IsErrOf result BlockStuck → IsMarkStuck c before after

-- A start-up has read an image on a driver that is not stale: it knows whether the mark is due, and the copy of the commit that was found.
pub record HasRead (c : Config) (driver : BlocksState) (is_mark_due : Bool) (copy : Option CommitCopy) : Type 0 where
  -- It knows whether the mark has to be written.
  pub due : IsTrue is_mark_due ↔ IsMarkDue (mark_of c) (driver.value mark_number)
  -- It has the copy of the commit that was found.
  pub found : IsFoundIn c driver.value copy
  -- The driver is not stale.
  pub not_stale : IsFalse driver.is_stale

-- What a generation needs in the image was written, so that both copies of the commit name it; or the writes stopped on the way.
pub record BeginsWith (c : Config) (g : Generation) (before after : BlocksState) (result : Result (Option Commit) BlockFault) : Type 0 where
  -- After Ok the image holds the generation by both copies of the commit.
  pub started : IfOk result (λ commit. IsStarted c after.value commit g)
  -- After Err a sound image is sound, with generations that it had.
  pub generations : AddsNoGeneration c before after result
  -- It fails by the flash only if the mark or the other copy of the commit could not be written.
  pub unbegun : IsErrOf result BlockFlash → IsUnbegun c before after
  -- Each other fault has its cause.
  pub writes : StoreWrites before after result
  -- No block is longer than the configuration allows.
  pub borne : IsBorne c after.value

module _ {B : Type 0} {b : Ghosts B} where
  -- Each refusal of a start-up has its cause: in these words where it is dark, and in these where nothing was written.
  pub record CausesOfRefusal (is_dark is_unwritten : BlocksState → BlocksState → Type 0) (c : Config) (before after : Store B b) (result : Result ℕ StartFault) : Type 0 where
    -- Each refusal has its cause in the image.
    pub refused : IfErr result (RefusedFor c before after)
    -- A start-up that fails by the flash is dark in these words.
    pub dark : IsErrOf result Flash → is_dark (driver_of before) (driver_of after)
    -- A refusal for what the blocks hold comes with nothing written, in these words.
    pub unwritten : IfErr result (λ fault. IsOfBlocks fault → is_unwritten (driver_of before) (driver_of after))
    -- Where the last sequence number was in use before, nothing is written.
    pub early : IsErrOf result SequenceSpent → IsTrue (driver_of before).is_spent → is_unwritten (driver_of before) (driver_of after)
    -- No start-up uses a sequence number and then answers that none is left.
    pub spent : IsErrOf result SequenceSpent → IsOutOfNumbers c (driver_of before) (driver_of after)
