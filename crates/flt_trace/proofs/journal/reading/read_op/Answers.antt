use Rattle.flt_model.specs.declared.call.Op.{Op}
use Rattle.flt_trace.specs.Call.{IsOfStep}
use Rattle.flt_trace.proofs.Calls.{by_save, if_none}
use Rattle.flt_trace.proofs.journal.reading.read_op.Goals as goal

pub returns-in-None : goal.returns-in-None
returns-in-None c =
    let config = c.args.config.now in
    let text = c.args.words.now in
    by_save config text (if_none ((op : Op) → IsOfStep config op text → ⊥) (λ op. IsOfStep config op text) c.in_ok-op.field-0 c.in-None.is c.in_ok-op.ensures)
    c.read_save_call.result c.read_save_call.ensures
