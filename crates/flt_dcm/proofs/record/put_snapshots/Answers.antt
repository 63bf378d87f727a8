use Rattle.std.proofs.Common.{◌≡◌, ◌∙◌, ◌++◌, Some, sym, ap}
use Rattle.std.specs.Prelude.{option_copied}
use Rattle.flt_model.specs.Response.{snapshots}
use Rattle.flt_dem.specs.View.{event_seen}
use Rattle.flt_dcm.proofs.record.put_snapshots.Goals as goal

pub returns-in-Some : goal.returns-in-Some
returns-in-Some c =
    let seen = event_seen c.args.dem.now c.args.event in
    let entry : seen.entry ≡ Some c.in-Some.entry.now = sym c.entry.ensures.value ∙ ap option_copied c.in-Some.is in
    c.put_frames.ensures
    ∙ ap (λ dids. c.args.out.now.items ++ snapshots dids c.args.number (Some c.in-Some.entry.now)) c.dids_of.ensures.dids
    ∙ ap (λ found. c.args.out.now.items ++ snapshots seen.dids c.args.number found) (sym entry)
