use Rattle.std.proofs.Common.{◌≡◌, [], ◌∷◌, ◌++◌, refl}
use Rattle.std.proofs.lemmas.List.{map-append}
use Rattle.flt_script.proofs.InMemory.{Lane, steps_of_lanes}
use Rattle.flt_script.proofs.Stores.{used_with_lane, earlier_with_lane}
use Rattle.flt_script.proofs.block.OpenBlock.add_lane.Goals as goal

pub invariant_of-self-2 : goal.invariant_of-self-2
invariant_of-self-2 c =
    let block = c.args.self.now in
    let lanes = block.lanes.items in
    let more : steps_of_lanes c.push.new.self.items ≡ steps_of_lanes lanes ++ [] ∷ [] =
    rw (c.in_ok-push.ensures.items, map-append (λ (lane : Lane). lane.items) lanes (c.new.result ∷ []), c.new.ensures.items) refl in
    record {
      told = rw (more, used_with_lane (steps_of_lanes lanes)) block.told;
      told_earlier = rw (more, earlier_with_lane (steps_of_lanes lanes)) block.told;
    }
