use Rattle.std.proofs.Common.{refl, rules, subst, sym}
use Rattle.flt_lane.specs.Views.{known_by}
use Rattle.flt_lane.specs.Stepped.{HasRoomForAnswer, IsLockCall}
use Rattle.flt_lane.proofs.OffStore.{lane_calls, stays_off}
use Rattle.flt_lane.proofs.Running.{begins, goes_on, has_run, possible_next, room_next}
use Rattle.flt_lane.proofs.lane.LaneOfSeatMachineWorkLocksOf.work.Goals as goal

pub loop-index-init : goal.loop-index-init
loop-index-init g c = begins (known_by g.L.StatusLock.known c.args.locks.now) _ c.requires.ready.0

pub make_call-requires-clause-call : goal.make_call-requires-clause-call
make_call-requires-clause-call g c =
    let steps = c.args.self.now.steps.now in
    let index = c.loop-index.index in
    let step = c.index-steps-index.result in
    subst IsLockCall (sym c.action_of.ensures)
    (lane_calls step (stays_off steps index step c.requires.ready.1 (search rules) c.index-steps-index.is)
    (possible_next (known_by g.L.StatusLock.known c.args.locks.now) c.args.self.now _ index step c.requires.ready.0 c.loop-index.invariant (search rules) c.index-steps-index.is).0)

pub make_call-requires-clause-room : goal.make_call-requires-clause-room
make_call-requires-clause-room g c =
    subst (HasRoomForAnswer c.loop-index.self.replies) (sym c.action_of.ensures)
    (room_next (known_by g.L.StatusLock.known c.args.locks.now) c.args.self.now _ c.loop-index.index c.index-steps-index.result c.requires.ready.0 c.loop-index.invariant (search rules) c.index-steps-index.is)

pub loop-index-preserved : goal.loop-index-preserved
loop-index-preserved g c =
    let made = c.make_call.ensures in
    goes_on (known_by g.L.StatusLock.known c.args.locks.now) c.args.self.now _ c.loop-index.index c.index-steps-index.result c.requires.ready.0 c.loop-index.invariant (search rules) c.index-steps-index.is _ (made.made c.index-steps-index.result (sym c.action_of.ensures)) refl refl
    made.lock made.queue

pub returns : goal.returns
returns g c = record { done = (has_run (known_by g.L.StatusLock.known c.args.locks.now) _ _ c.loop-index.index c.loop-index.invariant (search rules), c.loop-index.invariant.seats) }
