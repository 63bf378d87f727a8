use Rattle.std.proofs.Common.{refl, arith}
use Rattle.std.proofs.lemmas.List.FromFn.{length-map-range_with_len, map-range_with_len_more}
use Rattle.flt_script.specs.Load.{load_event}
use Rattle.flt_script.proofs.loading.load_config.Goals as goal

pub push-requires : goal.push-requires
push-requires c = (omega arith, rw (c.loop-number.invariant, length-map-range_with_len load_event 0 c.loop-number.number) (omega arith))

pub loop-number-preserved : goal.loop-number-preserved
loop-number-preserved c =
    let number = c.loop-number.number in
    rw (c.push.ensures.items, c.loop-number.invariant, c.load_event.ensures, map-range_with_len_more load_event 0 number number (omega arith)) refl
