use Rattle.std.proofs.Common.{◌<◌, length, set, ap, ◌∙◌, arith}
use Rattle.std.proofs.lemmas.List.{get_or_default}
use Rattle.std.proofs.lemmas.List.Edits.{map_over_more}
use Rattle.flt_flash.specs.Arms.{after_read}
use Rattle.flt_flash.proofs.power.use_up.Goals as goal

pub loop-arm-preserved : goal.loop-arm-preserved
loop-arm-preserved c =
    let arms = c.loop-arm.arms in
    let within : c.loop-arm.arm-index < length arms = omega arith in
    ap (set arms c.loop-arm.arm-index) c.after_read.ensures
    ∙ map_over_more (after_read c.args.sector c.args.page) c.args.arms.now arms c.loop-arm.arm-index _ (omega arith) c.loop-arm.invariant (get_or_default arms c.loop-arm.arm-index _ _ within)
