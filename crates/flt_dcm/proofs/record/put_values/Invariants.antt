use Rattle.std.proofs.Common.{◌≡◌, ◌++◌, drop}
use Rattle.flt_model.specs.Response.{identified_values}
use Rattle.flt_dcm.proofs.record.put_values.Given as goal

abbrev pub invariant-loop-did : goal.invariant-loop-did
invariant-loop-did l = l.out.items ++ identified_values (drop l.did-index l.dids) l.rest ≡ l.fn.out.items ++ identified_values l.dids l.frame
