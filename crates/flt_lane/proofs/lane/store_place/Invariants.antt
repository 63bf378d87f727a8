use Rattle.std.proofs.Common.{◌≡◌, ◌<◌, ℕ, false, get_or}
use Rattle.flt_lane.specs.Views.{LaneWork}
use Rattle.flt_lane.specs.Stored.{is_store_lane}
use Rattle.flt_lane.proofs.lane.store_place.Given as goal

abbrev pub invariant-loop-place : goal.invariant-loop-place
invariant-loop-place l = (k : ℕ) (d : LaneWork) → k < l.place → is_store_lane (get_or l.lanes k d) ≡ false
