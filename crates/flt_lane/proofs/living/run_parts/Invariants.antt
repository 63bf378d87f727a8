use Rattle.flt_lane.specs.Views.{known_by}
use Rattle.flt_lane.specs.Parts.{CanRunParts, HaveLivedParts}
use Rattle.flt_lane.proofs.Parts.{done_of, left_of}
use Rattle.flt_lane.proofs.living.run_parts.Given as goal

abbrev pub invariant-loop-part : goal.invariant-loop-part
invariant-loop-part g l = record {
  can : CanRunParts g.S.LifeStore.keeping (known_by g.L.StatusLock.known l.common.locks.now) l.common.config.now l.seats l.store l.rooms.rest.items l.answers (left_of l.parts l.part-index);
  lived : HaveLivedParts g.S.LifeStore.keeping l.common.config.now l.initial.seats l.seats l.initial.store l.store l.answers (done_of l.parts l.part-index);
}
