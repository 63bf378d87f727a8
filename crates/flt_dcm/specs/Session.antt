-- The diagnostic session of a tester, as the code keeps it, and what it stands for.
use Rattle.std.specs.Prelude.{◌≡◌, ℕ, ◌+◌, nat_lt, Bool, true, false, not, if◌then◌else◌, Result, Ok, Err}
use Rattle.flt_model.specs.Start.{History}
use Rattle.flt_model.specs.Session.{is_extended, holds_off, silence, session_timeout}
use Rattle.flt_model.specs.declared.request.Request.{Request}
use Rattle.flt_model.specs.declared.request.Request.TheVariants as requests
use Rattle.flt_model.specs.declared.request.Asked.{Asked}
use Rattle.flt_model.specs.declared.request.Negative.{Negative}
use Rattle.flt_dcm.specs.declared.session.Session.{Session}
use Rattle.flt_dcm.specs.declared.session.Session.TheVariants.{Default, Extended}

-- ---- what a session says

-- The session is the extended one.
abbrev pub is_extended_one : Session → Bool
is_extended_one Default = false
is_extended_one (Extended holds silent) = true

-- In the session the tester holds the DTC setting off.
abbrev pub has_hold : Session → Bool
has_hold Default = false
has_hold (Extended holds silent) = holds

-- The silent time of the session is this one; the default session has none.
abbrev pub IsSilentFor : Session → ℕ → Type 0
IsSilentFor Default ticks = Unit {0}
IsSilentFor (Extended holds silent) ticks = ticks ≡ silent

-- ---- how it changes

-- The tester sends a request.
abbrev pub heard : Session → Session
heard Default = Default
heard (Extended holds silent) = Extended holds 0

-- The tester asks for a session; the extended one keeps its hold.
abbrev pub entered : Bool → Session → Session
entered false session = Default
entered true Default = Extended false 0
entered true (Extended holds silent) = Extended holds silent

-- The tester switches the setting off or on, in the extended session.
abbrev pub setting_switched : Bool → Session → Session
setting_switched off Default = Default
setting_switched off (Extended holds silent) = Extended off silent

-- A request takes effect.
abbrev pub after : Session → Request → Session
after session (requests.Session extended) = entered extended session
after session (requests.Setting on) = setting_switched (not on) session
after session _ = session

-- A request that was read takes effect, and one that was refused does not.
abbrev pub after_asked : Session → Result Asked Negative → Session
after_asked session (Ok request) = after session request.request
after_asked session (Err refused) = session

-- Ticks pass.
abbrev pub ticked : ℕ → Session → Session
ticked ticks Default = Default
ticked ticks (Extended holds silent) =
    if nat_lt (silent + ticks) session_timeout then Extended holds (silent + ticks) else Default

-- ---- what it stands for

-- A tester's session, hold and silent time are those that the calls so far lead to.
pub record SessionStands (tester : ℕ) (past : History) (session : Session) : Type 0 where
  -- The session is the extended one if the calls lead to it.
  pub extended : is_extended tester past ≡ is_extended_one session
  -- The tester holds the settings off if the calls lead to it.
  pub hold : holds_off tester past ≡ has_hold session
  -- The silent time is as long as the calls make it.
  pub silent : IsSilentFor session (silence tester past)
