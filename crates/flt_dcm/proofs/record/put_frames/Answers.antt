use Rattle.std.proofs.Common.{◌∙◌, length, arith, ap}
use Rattle.std.proofs.lemmas.List.{length-append}
use Rattle.flt_model.specs.Response.{where_selected, snapshot}
use Rattle.flt_dcm.proofs.RecordLemmas.{snapshot_fits}
use Rattle.flt_dcm.proofs.record.put_frames.Goals as goal

pub put_snapshot-requires-clause-room : goal.put_snapshot-requires-clause-room
put_snapshot-requires-clause-room c =
    let first = snapshot_fits c.args.number 1 c.args.dids.now c.deref.result.now c.requires.few c.requires.narrow in
    omega (arith, first, c.requires.room)

pub put_snapshot-requires-2-clause-room : goal.put_snapshot-requires-2-clause-room
put_snapshot-requires-2-clause-room c =
    let first = snapshot_fits c.args.number 1 c.args.dids.now c.deref.result.now c.requires.few c.requires.narrow in
    let second = snapshot_fits c.args.number 2 c.args.dids.now c.deref-2.result.now c.requires.few c.requires.narrow in
    let put = ap length c.put_snapshot.ensures ∙ length-append c.args.out.now.items (where_selected c.args.number 1 (snapshot c.args.dids.now 1 c.deref.result.now)) in
    omega (arith, first, second, put, c.requires.room)
