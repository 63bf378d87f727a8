-- The locks of a life may be shared by threads.
use denote.Param.Send.{sendable, recorded_sync, struct_sync, part_keyless, IsSend, IsSync}
use denote.RattleType.{RattleType}
use Prim.{tt}
use denote.Param.{number}
use Rattle.flt_did.specs.contracts.table.DidTable as did
use denote.Struct.Struct.{Struct}
use Rattle.std.specs.contracts.snapshot.Snapshot as snapshot
use denote.Builtin.{unit}
use Rattle.std.specs.contracts.option.Option as option
use denote.Struct.Declared.{shape}
use Rattle.flt_did.specs.contracts.row.Row as row
use Rattle.flt_config.specs.contracts.config.Config as config
use Rattle.flt_turn.proofs.turn.Turn.TheSendSync as turn_sent
use Rattle.flt_shared.proofs.guarded.Guarded.TheSendSync as guarded_sent
use Rattle.flt_model.proofs.call.Op.TheSendSync as op_sent
use Rattle.std.proofs.option.Option.TheSendSync as option_sent
use Rattle.arrayvec.proofs.array_vec.ArrayVec.TheSendSync as array_sent
use Rattle.flt_queue.proofs.boxed_queue.BoxedQueue.TheSendSync as queue_sent
use Rattle.flt_queue.proofs.job.QueueOp.TheSendSync as queue_op_sent
use Rattle.flt_queue.specs.contracts.lock.QueueLock as queue_lock
use Rattle.flt_shared.specs.contracts.lock.DemLock as lock
use Rattle.flt_lane.specs.contracts.locks.LocksOf as locks

pub unit_sync : IsSync unit
unit_sync = search sendable

snapshot_send : (Y : RattleType) → IsSend (snapshot.the_row Y)
snapshot_send Y = record { owned = λ d vs. ((λ vss. (tt, ((λ uss. (tt, tt)), tt))), tt); leaving = λ k f vs. tt }

pub snapshot_sync : (Y : RattleType) → IsSync (snapshot.the_row Y)
snapshot_sync Y = record { shared = λ d b o κ q. part_keyless (snapshot.the_row Y) (snapshot_send Y) q d b o }

pub row_sync : (F : RattleType) → (H : _) → IsSync F → IsSync (row.the_row F H)
row_sync F H sync = recorded_sync _ _ _ (row.the_type F H).to_one (struct_sync (shape (row.the_type F H)) (search sendable depth 20, (search sendable depth 20, (search sendable depth 20, tt))))

fields : (F : RattleType) → (H : _) → IsSync F → IsSync (Struct (shape (lock.the_type F H)))
fields F H sync = struct_sync (shape (lock.the_type F H)) (search (turn_sent.the_sync, guarded_sent.the_send, op_sent.the_send) depth 40, (struct_sync (shape (did.the_type (number 16) F H)) (array_sent.the_sync (option.the_row (row.the_row F H)) (number 16) unit (option_sent.the_sync _ (row_sync F H sync)) unit_sync, tt), (snapshot_sync config.the_row, tt)))

pub dem_sync : (F : RattleType) → (H : _) → IsSync F → IsSync (lock.the_row F H)
dem_sync F H sync = recorded_sync _ _ _ (lock.the_type F H).to_one (fields F H sync)

-- Locks may be shared if the one over the status machine may.
both : (L : RattleType) → IsSync L → IsSync (Struct (shape (locks.the_type L)))
both L sync = struct_sync (shape (locks.the_type L)) (sync, (struct_sync (shape queue_lock.the_type) (search (turn_sent.the_sync, queue_sent.the_send, queue_op_sent.the_send) depth 40, tt), tt))

pub locks_sync : (L : RattleType) → IsSync L → IsSync (locks.the_row L)
locks_sync L sync = recorded_sync _ _ _ (locks.the_type L).to_one (both L sync)
