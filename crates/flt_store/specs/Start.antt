-- What a start-up leaves.
use Rattle.std.specs.Prelude.{◌≡◌, ℕ, Option, Some, None, Result, Ok, Err, IsTrue, IsFalse}
use Rattle.flt_flash.specs.Content.{Content, missing, bytes}
use Rattle.flt_flash.specs.Calls.{SameValues}
use Rattle.flt_flash.specs.declared.blocks.Blocks.{Ghosts}
use Rattle.flt_config.specs.declared.config.Config.{Config}
use Rattle.flt_config.specs.declared.persist.Persist.{Persist}
use Rattle.flt_store_model.specs.declared.place.Place.TheVariants.{Page, Block}
use Rattle.flt_store_model.specs.Layout.{first_commit, second_commit}
use Rattle.flt_store_model.specs.Form.{mark_of}
use Rattle.flt_store_model.specs.Holding.{Generation, Fault, damaged, other, only_bytes, Holds}
use Rattle.flt_restore.specs.declared.commit.CommitCopy.{CommitCopy}
use Rattle.flt_restore.specs.declared.fault.StartFault.{StartFault}
use Rattle.flt_restore.specs.declared.fault.StartFault.TheVariants.{Flash, Damaged, OtherConfig, SequenceSpent}
use Rattle.flt_restore.specs.Restored.{IsJudged, IsCopy}
use Rattle.flt_store.specs.declared.store.Store.{Store}
use Rattle.flt_store.specs.Cause.{FailsThrice}
use Rattle.flt_store.specs.Store.{driver_of, is_settled, numbered, IsRunning}

-- A generation and the copy of the commit by which an image holds it; none where neither copy has bytes.
abbrev pub Begins : Config → (ℕ → Content) → Option CommitCopy → Generation → Type 0
Begins c value None g = Holds c value missing g × (value first_commit ≡ missing) × (only_bytes (value second_commit) ≡ missing)
Begins c value (Some found) g = Holds c value (bytes found.bytes.items) g × IsCopy c value found

-- The copy that was found is in the image.
abbrev pub IsFoundIn : Config → (ℕ → Content) → Option CommitCopy → Type 0
IsFoundIn c value None = Unit {0}
IsFoundIn c value (Some found) = IsCopy c value found

-- The image is damaged, or another configuration's.
abbrev pub IsForeign : StartFault → Type 0
IsForeign Flash = ⊥
IsForeign (Damaged place) = Unit {0}
IsForeign (OtherConfig found wanted) = Unit {0}
IsForeign SequenceSpent = ⊥

module _ {B : Type 0} {b : Ghosts B} where
  -- A start-up that answered this number: the image had no fault and a sequence number left, and what was judged is the state under
  -- the number, which both copies of the commit now name.
  pub record Starts (c : Config) (number : ℕ) (state : Persist) (before after : Store B b) : Type 0 where
    -- The driver found no damage.
    pub undamaged : (driver_of before).damage ≡ None
    -- The state under its number is what was judged of the image.
    pub judged : IsJudged c (driver_of before) (driver_of after) (Ok (numbered number state))
    -- The driver had a sequence number left.
    pub usable : IsFalse (driver_of before).is_spent
    -- The store runs with this generation alone.
    pub running : IsRunning c (numbered number state) (numbered number state) after
    -- The store is settled.
    pub settled : IsTrue (is_settled after)

  -- A start-up judged this of an image without a fault of the driver.
  pub record Judges (c : Config) (before after : Store B b) (judged : Result Generation Fault) : Type 0 where
    -- The driver found no damage.
    pub undamaged : (driver_of before).damage ≡ None
    -- It is what the image is judged to hold.
    pub is : IsJudged c (driver_of before) (driver_of after) judged

  -- A fault comes by its cause: three faults of the flash, a fault of the driver's image, what was judged, or the last sequence number
  -- in use where a generation was judged.
  abbrev pub RefusedFor : Config → Store B b → Store B b → StartFault → Type 0
  RefusedFor c before after Flash = FailsThrice (driver_of before) (driver_of after)
  RefusedFor c before after (Damaged (Page sector page)) = ((driver_of before).damage ≡ Some (sector, page)) × IsFalse (driver_of before).has_mounted
      × SameValues (driver_of before) (driver_of after)
  RefusedFor c before after (Damaged (Block id)) = Judges c before after (Err (damaged (Block id))) × SameValues (driver_of before) (driver_of after)
  RefusedFor c before after (OtherConfig found wanted) = Judges c before after (Err (other found)) × (wanted ≡ mark_of c)
      × SameValues (driver_of before) (driver_of after)
  RefusedFor c before after SequenceSpent = ((g : Generation) × Judges c before after (Ok g)) × IsTrue (driver_of after).is_spent
