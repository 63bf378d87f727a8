-- What a save, a start-up or a part of one leaves, whatever it answers.
use Rattle.std.specs.Prelude.{Result, IsFalse, OnOk, OnErr}
use Rattle.flt_flash.specs.Blocks.{BlocksState}
use Rattle.flt_flash.specs.Calls.{Follows}
use Rattle.flt_config.specs.declared.config.Config.{Config}
use Rattle.flt_store_model.specs.Holding.{Generation, IsSound, OldOrNew, SameApplications}

-- The driver after such a call: no application block has changed, and after Ok it is not stale.
pub record LeavesDriver {T E : Type 0} (before after : BlocksState) (result : Result T E) : Type 0 where
  -- No application block changed.
  pub applications : SameApplications before.value after.value
  -- After Ok the driver is not stale.
  pub not_stale : OnOk result (IsFalse after.is_stale)
  -- It was called and no more: no count fell, and its room is what it was.
  pub calls : Follows before after

-- After an error a sound image is sound, and each of its two generations is one of those before.
abbrev pub AddsNoGeneration : {T E : Type 0} → Config → BlocksState → BlocksState → Result T E → Type 0
AddsNoGeneration c before after result = (held spare : Generation) → IsSound c before.value held spare → OnErr result (OldOrNew c after.value held spare held)
