use Rattle.std.proofs.Common.{◌++◌, ℕ, sym, ◌∙◌, ap, arith}
use Rattle.std.specs.Prelude.{map}
use Rattle.std.specs.List.{flat_map, range_with_len}
use Rattle.std.proofs.lemmas.List.{map-append, flat_map_more}
use Rattle.std.proofs.lemmas.List.FromFn.{map-range_with_len_more}
use Rattle.flt_step.specs.declared.step.Part.TheVariants.{One}
use Rattle.flt_step.specs.Part.{part_of, parts_of}
use Rattle.flt_script.specs.Load.{load_lane, plain_parts}
use Rattle.flt_script.proofs.Loads.{plain_of}
use Rattle.flt_script.proofs.loading.add_lanes.Goals as goal

pub loop-lane-preserved : goal.loop-lane-preserved
loop-lane-preserved c =
    let each = λ (lane : ℕ). load_lane c.args.count lane c.args.count in
    let lane = c.loop-lane.lane in
    let first = parts_of c.reserve.new.self.items in
    let earlier = map each (range_with_len 0 lane) in
    ap parts_of c.in_ok-add_lane.ensures
    ∙ map-append part_of c.loop-lane.life.items (map One (each lane))
    ∙ ap (λ parts. parts ++ map part_of (map One (each lane))) c.loop-lane.invariant
    ∙ ap (λ more. first ++ flat_map plain_parts earlier ++ more) (plain_of (each lane))
    ∙ flat_map_more plain_parts first earlier (each lane)
    ∙ ap (λ lanes. first ++ flat_map plain_parts lanes) (sym (map-range_with_len_more each 0 lane lane (omega arith)))
