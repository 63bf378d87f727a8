-- No store, as what the lanes of a life have beside their locks.
use Rattle.flt_life_model.specs.Actions.{action_of}
use Rattle.flt_lane.specs.Keeping.{Keeping, KeepingLaws}
use Rattle.flt_lane.specs.Stepped.{IsLockCall}
use Rattle.flt_lane.specs.Views.{KnownLock}
use Rattle.flt_watch.specs.declared.keeping.NoStore.{NoStore}
use Rattle.flt_watch.specs.declared.lock.WatchLock.{WatchLock}

-- What is seen of the lock.
abbrev pub known_watch : {F : _} {g : _} {H : _} {h : _} → WatchLock F g H h → KnownLock
known_watch lock = record { turn = lock.turn; config = lock.config.value }

-- It is always ready, allows a step that makes a call of what is under a lock, and nothing is left of it.
abbrev pub no_store : Keeping NoStore
no_store = record { is_ready = λ c arms x. Unit {0}; allows = λ step. IsLockCall (action_of step); goes_on = λ c before after deeds arms most x y. Unit {0} }

pub no_store_laws : KeepingLaws no_store
no_store_laws = record {
  none = λ c seats x. tt;
  further = λ c a b d deeds more arms given n m x y z start one two. tt;
  still_ready = λ c a b deeds arms n m x y ready gone. tt;
  for_fewer = λ c n m x less ready. tt;
}
