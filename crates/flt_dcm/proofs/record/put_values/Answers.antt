use Rattle.std.proofs.Common.{◌≡◌, ◌∙◌, length, take, get_or, arith, ap}
use Rattle.std.proofs.lemmas.List.{length-append, take_min}
use Rattle.flt_dcm.proofs.RecordLemmas.{value_fits}
use Rattle.flt_dcm.proofs.record.put_values.Goals as goal

pub put_bytes-requires : goal.put_bytes-requires
put_bytes-requires c =
    let fits = value_fits c.args.out.now.items c.loop-did.out.items c.args.dids.now c.loop-did.did-index (record { id = 0; width = 0 }) c.loop-did.rest.now c.args.frame.now
    c.loop-did.invariant c.loop-did-test.true c.requires in
    let two = ap length c.to_be_bytes.ensures in
    omega (arith, fits, two)

pub put_bytes-requires-in-loop-did : goal.put_bytes-requires-in-loop-did
put_bytes-requires-in-loop-did c =
    let rest = c.loop-did.rest.now in
    let width = (get_or c.args.dids.now c.loop-did.did-index (record { id = 0; width = 0 })).width in
    let fits = value_fits c.args.out.now.items c.loop-did.out.items c.args.dids.now c.loop-did.did-index (record { id = 0; width = 0 }) rest c.args.frame.now
    c.loop-did.invariant c.loop-did-test.true c.requires in
    let two = ap length c.to_be_bytes.ensures in
    let put = ap length c.put_bytes.ensures ∙ length-append c.loop-did.out.items c.to_be_bytes.result in
    let value : length c.split_at.result.0.now ≡ length (take width rest) =
    ap length (c.split_at.ensures.front ∙ ap (λ n. take n rest) c.min.ensures ∙ take_min width rest) in
    omega (arith, fits, two, put, value)
