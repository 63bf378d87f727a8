use Rattle.std.proofs.Common.{◌∙◌, ap, sym}
use Rattle.flt_did.specs.Table.{dids_of}
use Rattle.flt_script.specs.Script.{script_of}
use Rattle.flt_examine.proofs.Line.{read_as}
use Rattle.flt_examine.proofs.tracing.trace_bytes.Goals as goal

pub trace_script-requires-after_bounds : goal.trace_script-requires-after_bounds
trace_script-requires-after_bounds g c κs within =
    let dids = dids_of c.args.dids in
    read_as dids c.args.bytes.items c.in-Ok.script (ap (script_of dids) (sym c.deref.ensures.value) ∙ c.in-Ok.ensures.exact)
