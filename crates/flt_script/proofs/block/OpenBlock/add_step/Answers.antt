use Rattle.std.proofs.Common.{sym, ◌∙◌}
use Rattle.flt_script.proofs.InMemory.{steps_of_lanes}
use Rattle.flt_script.proofs.Stores.{put_used, put_earlier}
use Rattle.flt_script.proofs.block.OpenBlock.add_step.Goals as goal

pub invariant_of-self-2 : goal.invariant_of-self-2
invariant_of-self-2 c =
    let block = c.args.self.now in
    let lanes = steps_of_lanes block.lanes.items in
    let more = steps_of_lanes c.add_lane_step.new.lanes.items in
    record {
      told = rw (c.is_store_step-is_store_step.ensures, block.told) (sym (put_used c.args.step lanes more c.in_ok-add_lane_step.ensures.added));
      told_earlier = block.told_earlier ∙ sym (put_earlier c.args.step lanes more c.in_ok-add_lane_step.ensures.added);
    }
