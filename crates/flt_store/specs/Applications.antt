-- What a put and a get of an application block need, and what they leave.
use Rattle.std.specs.Prelude.{◌≡◌, ℕ, ◌≤◌, Bool, List, length, Result, IfOk, IsErrOf, IsOk, IsTrue, OnErr, OnOk}
use Rattle.flt_flash.specs.Content.{bytes}
use Rattle.flt_flash.specs.Blocks.{BlocksState}
use Rattle.flt_flash.specs.Calls.{OthersKept}
use Rattle.flt_flash.specs.declared.blocks.Blocks.{Ghosts}
use Rattle.flt_nvm.specs.Leaves.{IsEither}
use Rattle.flt_config.specs.declared.config.Config.{Config}
use Rattle.flt_store_model.specs.Form.{application_length}
use Rattle.flt_store_model.specs.Layout.{application_number}
use Rattle.flt_store_model.specs.Holding.{Generation}
use Rattle.flt_store.specs.declared.fault.PutFault.{PutFault}
use Rattle.flt_store.specs.declared.fault.PutFault.TheVariants.{Flash, SequenceSpent}
use Rattle.flt_store.specs.declared.store.Store.{Store}
use Rattle.flt_store.specs.Cause.{FailsThrice}
use Rattle.flt_store.specs.Store.{Gets, IsRunning, IsUnhindered, driver_of}

-- An application block takes 1 to 32 bytes.
pub record CanPut (raw : List ℕ) : Type 0 where
  -- There is at least one byte.
  pub least : 1 ≤ length raw
  -- There are at most 32 bytes.
  pub most : length raw ≤ application_length

-- An application block was put, or its put failed, and no other block changed.
pub record PutsBlock (block : ℕ) (raw : List ℕ) (before after : BlocksState) (result : Result (Unit {0}) PutFault) : Type 0 where
  -- After Ok the block holds the bytes.
  pub put : OnOk result (after.value (application_number block) ≡ bytes raw)
  -- After Err it holds them or what it held.
  pub either : IsEither before after (application_number block) (bytes raw)
  -- No other block changed.
  pub others : OthersKept (application_number block) before after
  -- It finds no sequence number only if the driver has none left for such a record.
  pub sequence : IsErrOf result SequenceSpent → IsTrue (after.is_stuck (application_number block) (length raw))

module _ {B : Type 0} {b : Ghosts B} where
  -- A put leaves a store running with its generations, and fails for its cause alone.
  pub record PutsWhileRunning (c : Config) (held spare : Generation) (before after : Store B b) (result : Result (Unit {0}) PutFault) : Type 0 where
    -- The store runs with the generations that it had.
    pub running : IsRunning c held spare after
    -- A put fails by the flash only if three tries failed.
    pub flash : IsErrOf result Flash → FailsThrice (driver_of before) (driver_of after)
    -- It answers Ok if no three tries fail and a sequence number is left.
    pub completed : IsUnhindered before after → IsOk result

  -- A get gives what the block of a running store holds, leaves the store running with its generations, and fails for its cause alone.
  pub record GetsWhileRunning {E : Type 0} (c : Config) (held spare : Generation) (block : ℕ) (out : List ℕ) (before after : Store B b) (result : Result Bool E) : Type 0 where
    -- It gives what the block holds.
    pub got : IfOk result (λ found. Gets ((driver_of before).value (application_number block)) found out)
    -- The store runs with the generations that it had.
    pub running : IsRunning c held spare after
    -- It fails only if three tries failed.
    pub flash : OnErr result (FailsThrice (driver_of before) (driver_of after))
    -- It answers Ok unless three tries failed.
    pub completed : (FailsThrice (driver_of before) (driver_of after) → ⊥) → IsOk result
