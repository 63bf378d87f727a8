-- The state of no event.
use Rattle.std.specs.Prelude.{◌≡◌, [], false, None}
use Rattle.flt_config.specs.declared.persist.Persist.{Persist}

-- No event, entry, note or overflow.
pub record IsNoState (state : Persist) : Type 0 where
  -- There is no event.
  pub events : state.events.items ≡ []
  -- There is no entry.
  pub entries : state.entries.items ≡ []
  -- No entry was refused for want of room.
  pub overflow : state.overflow ≡ false
  -- No first failed event is noted.
  pub first_failed : state.first_failed ≡ None
  -- No first confirmed event is noted.
  pub first_confirmed : state.first_confirmed ≡ None
  -- No last failed event is noted.
  pub recent_failed : state.recent_failed ≡ None
  -- No last confirmed event is noted.
  pub recent_confirmed : state.recent_confirmed ≡ None
