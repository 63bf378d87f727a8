-- The driver over an EEPROM as the layers above see it, and but for what it keeps of its calls.
use Rattle.flt_flash.specs.State.{FlashState}
use Rattle.flt_flash.specs.Blocks.{BlocksState, recounted}
use Rattle.flt_ea.specs.Driver.{state_by}
use Rattle.flt_ea.specs.declared.ea.Ea.{Ea}

abbrev pub uncounted_of : {E : Type 0} {g : _} → (E → FlashState) → Ea E g → BlocksState
uncounted_of state ea = state_by ea.numbers ea.is_stale ea.has_mounted (state ea.device)

abbrev pub ea_state : {E : Type 0} {g : _} → (E → FlashState) → Ea E g → BlocksState
ea_state state ea = recounted ea.tally.calls ea.tally.last_failed (uncounted_of state ea)
