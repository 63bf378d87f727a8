use Rattle.std.proofs.Common.{◌+◌, List, subst, sym}
use Rattle.flt_step.specs.declared.step.Step.{Step}
use Rattle.flt_step.specs.Part.{PartOf, part_of, parts_of}
use Rattle.flt_lane.specs.Views.{BlockRoom, known_by}
use Rattle.flt_lane.specs.Parts.{CanRunParts, HaveLivedParts}
use Rattle.flt_lane.proofs.Lives.{lived_more, lived_none}
use Rattle.flt_lane.proofs.Parts.{done_more, done_of, left_next, left_of}
use Rattle.flt_lane.proofs.living.run_parts.Goals as goal

pub loop-part-init : goal.loop-part-init
loop-part-init g c = let r = c.requires in record {
  can = subst (λ (l : List BlockRoom). CanRunParts g.S.LifeStore.keeping (known_by g.L.StatusLock.known c.args.common.now.locks.now) c.args.common.now.config.now c.args.seats.now c.args.store.now l c.args.answers.now (parts_of c.args.parts.now)) (sym c.into_iter-rooms.ensures.rest) r.can;
  lived = lived_none g.S.LifeStore.keeping g.met.S.LifeStore.laws c.args.common.now.config.now c.args.seats.now c.args.store.now c.args.answers.now r.can.main.0 r.can.main.1 r.no_answers r.none_told;
}

-- The parts that are left begin with the next one.
pub loop-part-preserved : goal.loop-part-preserved
loop-part-preserved g c =
    let parts = c.args.parts.now in
    let index = c.loop-part.part-index in
    let next = left_next parts index c.part-item.result c.loop-part-test.true c.part-item.is in
    let can = subst (λ (l : List (PartOf Step)). CanRunParts g.S.LifeStore.keeping (known_by g.L.StatusLock.known c.args.common.now.locks.now) c.args.common.now.config.now c.loop-part.seats c.loop-part.store c.loop-part.rooms.rest.items c.loop-part.answers l) next c.loop-part.invariant.can in
    record {
      can = c.run_part.ensures.can (left_of parts (index + 1)) can;
      lived = subst (λ (l : List (PartOf Step)). HaveLivedParts g.S.LifeStore.keeping c.args.common.now.config.now c.args.seats.now c.run_part.new.seats c.args.store.now c.run_part.new.store c.run_part.new.answers l)
          (sym (done_more parts index c.part-item.result c.loop-part-test.true c.part-item.is))
          (lived_more g.S.LifeStore.keeping g.met.S.LifeStore.laws c.args.common.now.config.now c.args.seats.now c.args.store.now c.loop-part.seats c.run_part.new.seats c.loop-part.store c.run_part.new.store c.loop-part.answers c.run_part.new.answers
          (done_of parts index) (part_of c.part-item.result) c.loop-part.invariant.lived c.run_part.ensures.runs.gains c.run_part.ensures.runs.told_len);
    }
