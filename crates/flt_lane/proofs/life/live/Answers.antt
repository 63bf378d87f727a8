use Rattle.flt_step.specs.Part.{parts_of}
use Rattle.flt_lane.proofs.FewSteps.{parts_for}
use Rattle.flt_lane.proofs.life.live.Goals as goal

pub run_parts-requires-clause-can : goal.run_parts-requires-clause-can
run_parts-requires-clause-can g c κs within =
    let can = c.requires.can in
    record {
      ready = can.ready;
      main = can.main;
      able = can.able;
      steps = parts_for c.args.common.now.config.now (parts_of c.args.parts.now) can.possible can.few;
      allowed = can.allowed;
      calls = can.calls;
      rooms_are = c.in_ok-rooms.ensures;
      room = c.requires.room;
    }
