use Rattle.std.proofs.Common.{arith}
use Rattle.flt_store.proofs.laws.long_records_stop_no_save.Goals as goal

pub returns : goal.returns
returns g c = λ stuck.
    let long = c.requires stuck.0 stuck.1 stuck.3 in
    let short = stuck.2 in
    omega (arith, long, short)
