-- The whole status machine as a contract sees it, what it stands for, and which calls it takes.
use Rattle.std.specs.Prelude.{◌≡◌, ℕ, ◌<◌, List, ◌∷◌, length, slice_get, slice_set, unwrap_or, Some}
use Rattle.flt_config.specs.declared.config.Config.{Config}
use Rattle.flt_config.specs.declared.persist.Persist.{Persist}
use Rattle.flt_config.specs.Durable.{Fits}
use Rattle.flt_model.specs.Start.{Start, History}
use Rattle.flt_model.specs.Answer.{answer}
use Rattle.flt_model.specs.Durable.{saved_after}
use Rattle.flt_model.specs.Request.{RequestBytes}
use Rattle.flt_model.specs.declared.call.Op.{Op}
use Rattle.flt_model.specs.declared.call.Op.TheVariants as ops
use Rattle.flt_model.specs.Reply.{Reply}
use Rattle.flt_model.specs.declared.call.ReplyOf.TheVariants as replies
use Rattle.flt_dem.specs.Manager.{Manager, StandsFor}
use Rattle.flt_dcm.specs.Session.{SessionStands, heard}
use Rattle.flt_dcm.specs.declared.session.Session.{Session}
use Rattle.flt_dcm.specs.declared.session.Session.TheVariants.{Default}

-- The event manager, the sessions of the four testers, and the durable state of the last power-up.
pub record UnitView : Type 0 where
  -- The event manager.
  pub dem : Manager
  -- The session of each tester.
  pub sessions : List Session
  -- The durable state of the last power-up.
  pub base : Persist

-- There is a session for each of the four testers, and the base fits the configuration.
pub record IsUnitOf (config : Config) (sessions : List Session) (base : Persist) : Type 0 where
  -- There is a session for each of the four testers.
  pub one_each : length sessions ≡ 4
  -- The base fits the configuration.
  pub fits : Fits config base

-- The session of a tester.
abbrev pub session_at : List Session → ℕ → Session
session_at sessions tester = unwrap_or (slice_get sessions tester) Default

-- Each tester's session is the one that the calls so far lead to.
abbrev pub SessionsStand : History → List Session → Type 0
SessionsStand past sessions = (tester : ℕ) → tester < 4 → SessionStands tester past (session_at sessions tester)

-- A unit in the state that the base and the calls since power-up lead to.
pub record Stands (life : Start) (past : History) (unit : UnitView) : Type 0 where
  -- The event manager is in the state that the calls lead to.
  pub dem : StandsFor life past unit.dem
  -- So is each tester's session.
  pub sessions : SessionsStand past unit.sessions
  -- The base is that of the last power-up.
  pub base : unit.base ≡ life.base

-- A call whose numbers are in their ranges: a signal or an enable condition of the eight, a configured event, one of the
-- four cycles, and a request of at least one byte from one of the four testers.
abbrev pub IsAdmitted : Config → Op → Type 0
IsAdmitted config (ops.Signal index value) = index < 8
IsAdmitted config (ops.Enable condition fulfilled) = condition < 8
IsAdmitted config (ops.Report event report) = event < length config.events.items
IsAdmitted config (ops.Tick ticks) = Unit {0}
IsAdmitted config (ops.Cycle cycle) = cycle < 4
IsAdmitted config (ops.Request tester bytes) = (tester < 4) × (0 < length bytes.items)
IsAdmitted config (ops.Show event) = event < length config.events.items
IsAdmitted config ops.Snapshot = Unit {0}
IsAdmitted config (ops.Saved generation) = Unit {0}

-- What a call leaves in the state that it may write: a snapshot writes the durable state, and no other call writes.
abbrev pub written : Start → History → Op → Persist → Persist
written life past ops.Snapshot out = saved_after life past
written life past _ out = out

-- A call that changes nothing: a show, a snapshot and a save.
abbrev pub IsReading : Op → Type 0
IsReading (ops.Show event) = Unit {0}
IsReading ops.Snapshot = Unit {0}
IsReading (ops.Saved generation) = Unit {0}
IsReading _ = ⊥

-- A tester's request.
abbrev pub IsTesterCall : Op → Type 0
IsTesterCall (ops.Request tester bytes) = Unit {0}
IsTesterCall _ = ⊥

-- The answer to a report that is ignored.
abbrev pub IsIgnored : Reply → Type 0
IsIgnored (replies.Ignored cause) = Unit {0}
IsIgnored _ = ⊥

-- A negative response.
abbrev pub IsNegative : Reply → Type 0
IsNegative (replies.Response bytes) = slice_get bytes.items 0 ≡ Some 0x7F
IsNegative _ = ⊥

-- ---- The effect of a call on a unit, in words for contracts.

-- If it stands for some calls before the call, it stands for them and the call after it.
abbrev pub Takes : Op → UnitView → UnitView → Type 0
Takes op old new = (life : Start) (past : History) → Stands life past old → Stands life (op ∷ past) new

-- The reply is the answer to the call.
abbrev pub Answers : Op → UnitView → Reply → Type 0
Answers op unit reply = (life : Start) (past : History) → Stands life past unit → reply ≡ answer life past op

-- A tester sent a request: the silent time of its session restarts, and nothing else changes.
abbrev pub with_heard : ℕ → UnitView → UnitView
with_heard tester unit = record unit { sessions = slice_set unit.sessions tester (heard (session_at unit.sessions tester)) }

-- If the call is a request that gets a negative response, only the silent time of its tester's session restarts.
abbrev pub OnlyHearsWhereNegative : Op → Reply → UnitView → UnitView → Type 0
OnlyHearsWhereNegative op reply old new =
    (tester : ℕ) (bytes : RequestBytes) → op ≡ ops.Request tester bytes → IsNegative reply → new ≡ with_heard tester old
