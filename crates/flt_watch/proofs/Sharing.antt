-- A lock over a watched machine may be shared by threads.
use denote.Param.Send.{sendable, recorded_sync, struct_sync, IsSync}
use denote.RattleType.{RattleType}
use Prim.{tt}
use denote.Param.{number}
use Rattle.flt_did.specs.contracts.table.DidTable as did
use denote.Struct.Struct.{Struct}
use denote.Builtin.{unit}
use Rattle.std.specs.contracts.option.Option as option
use denote.Struct.Declared.{shape}
use Rattle.flt_did.specs.contracts.row.Row as did_row
use Rattle.flt_notify.specs.contracts.row.Row as sub_row
use Rattle.flt_notify.specs.contracts.subscribers.Subscribers as subscribers
use Rattle.flt_notify.specs.contracts.watched.Lent as lent
use Rattle.flt_config.specs.contracts.config.Config as config
use Rattle.flt_turn.proofs.turn.Turn.TheSendSync as turn_sent
use Rattle.flt_notify.proofs.watched.Watched.TheSendSync as watched_sent
use Rattle.flt_model.proofs.call.Op.TheSendSync as op_sent
use Rattle.std.proofs.option.Option.TheSendSync as option_sent
use Rattle.arrayvec.proofs.array_vec.ArrayVec.TheSendSync as array_sent
use Rattle.flt_lane.proofs.Sharing.{locks_sync, row_sync, snapshot_sync, unit_sync}
use Rattle.flt_lane.specs.contracts.locks.LocksOf as locks
use Rattle.flt_watch.specs.contracts.lock.WatchLock as lock

sub_row_sync : (G : RattleType) → (g : _) → IsSync G → IsSync (sub_row.the_row G g)
sub_row_sync G g sync = recorded_sync _ _ _ (sub_row.the_type G g).to_one (struct_sync (shape (sub_row.the_type G g)) (search sendable depth 20, (search sendable depth 20, tt)))

lent_sync : (F G : RattleType) → (f : _) → (g : _) → IsSync F → IsSync G → IsSync (Struct (shape (lent.the_type F G f g)))
lent_sync F G f g dids subs = struct_sync (shape (lent.the_type F G f g)) (
  struct_sync (shape (did.the_type (number 16) F f)) (array_sent.the_sync (option.the_row (did_row.the_row F f)) (number 16) unit (option_sent.the_sync _ (row_sync F f dids)) unit_sync, tt),
  (struct_sync (shape (subscribers.the_type (number 3) G g)) (array_sent.the_sync (option.the_row (sub_row.the_row G g)) (number 3) unit (option_sent.the_sync _ (sub_row_sync G g subs)) unit_sync, tt), tt),
)

fields : (F G : RattleType) → (f : _) → (g : _) → IsSync F → IsSync G → IsSync (Struct (shape (lock.the_type F G f g)))
fields F G f g dids subs = struct_sync (shape (lock.the_type F G f g))
    (search (turn_sent.the_sync, watched_sent.the_send, op_sent.the_send) depth 40, (lent_sync F G f g dids subs, (snapshot_sync config.the_row, tt)))

pub lock_sync : (F G : RattleType) → (f : _) → (g : _) → IsSync F → IsSync G → IsSync (lock.the_row F G f g)
lock_sync F G f g dids subs = recorded_sync _ _ _ (lock.the_type F G f g).to_one (fields F G f g dids subs)

pub both_sync : (F G : RattleType) → (f : _) → (g : _) → IsSync F → IsSync G → IsSync (locks.the_row (lock.the_row F G f g))
both_sync F G f g dids subs = locks_sync (lock.the_row F G f g) (lock_sync F G f g dids subs)
