use Rattle.std.proofs.Common.{◌∙◌, ap}
use Rattle.flt_script.specs.Alone.{step_in}
use Rattle.flt_trace.proofs.Calls.{no_step}
use Rattle.flt_trace.proofs.journal.reading.read_step_call.Goals as goal

pub returns-in_default : goal.returns-in_default
returns-in_default c =
    no_step c.args.config.now c.args.words.now (c.in_default.ensures ∙ ap (λ config. step_in config c.args.words.now) c.config.ensures.value)
