-- What follows from a unit that stands for its past, and how a call changes it.
use Rattle.std.proofs.Common.{◌≡◌, ℕ, ◌<◌, List, [], ◌∷◌, length, get_or, arith, refl, sym, ap, subst, ⊎_elim}
use Rattle.std.specs.Prelude.{unwrap_or}
use Rattle.flt_config.specs.Durable.{start_state}
use Rattle.flt_model.specs.Start.{Start, History, base_of, event_of}
use Rattle.flt_model.specs.Mark.{marks_of}
use Rattle.flt_model.specs.Durable.{state_at}
use Rattle.flt_model.specs.StatusLaws.{since_clear}
use Rattle.flt_model.specs.Trace.{trace}
use Rattle.flt_model.specs.Response.{service_of}
use Rattle.flt_model.specs.declared.call.Op.{Op}
use Rattle.flt_model.specs.declared.call.Op.TheVariants as ops
use Rattle.flt_dem.specs.View.{event_seen}
use Rattle.flt_dcm.specs.Standard.{StandardBits, SaysStandard}
use Rattle.flt_dcm.specs.Unit.{UnitView, Stands}
use Rattle.flt_dem.proofs.IdleLemmas.{stands_idle}
use Rattle.flt_dcm.proofs.SessionLemmas.{sessions_kept}
use Rattle.flt_dcm.proofs.StandardLemmas.{bits_behind_a_clear, bits_from_the_start}

-- ---- a call that is read

-- The first byte is the service.
pub first_is_service : (bytes : List ℕ) (d : ℕ) → 0 < length bytes → get_or bytes 0 d ≡ service_of bytes
first_is_service [] d some = absurd (omega (arith, some))
first_is_service (service ∷ rest) d some = refl

-- The tester of a request.
abbrev pub tester_of : Op → ℕ
tester_of (ops.Request tester bytes) = tester
tester_of _ = 0

-- ---- calls that change nothing

pub stands_snapshot : (life : Start) (past : History) (unit : UnitView) → Stands life past unit → Stands life (ops.Snapshot ∷ past) unit
stands_snapshot life past unit s = record {
  dem = stands_idle life past unit.dem ops.Snapshot tt s.dem;
  sessions = sessions_kept past ops.Snapshot unit.sessions tt s.sessions;
  base = s.base;
}

pub stands_saved : (life : Start) (past : History) (generation : _) (unit : UnitView) → Stands life past unit → Stands life (ops.Saved generation ∷ past) unit
stands_saved life past generation unit s = record {
  dem = stands_idle life past unit.dem (ops.Saved generation) tt s.dem;
  sessions = sessions_kept past (ops.Saved generation) unit.sessions tt s.sessions;
  base = s.base;
}

-- ---- the six bits

pub says_standard : (life : Start) (past : History) (unit : UnitView) → Stands life past unit → SaysStandard life past unit.dem
says_standard life past unit s event within from =
    let marks = marks_of event (trace life past) in
    let state : (event_seen unit.dem event).state ≡ state_at life (trace life past) event =
    ap (λ o. unwrap_or o start_state) (s.dem.events.durable_stands.states_stand.each event within) in
    subst (λ e. StandardBits e.status (since_clear marks)) (sym state)
    (⊎_elim (bits_from_the_start (base_of life event) (event_of life event) marks)
    (bits_behind_a_clear (base_of life event) (event_of life event) marks) from)
