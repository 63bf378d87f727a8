use Rattle.std.proofs.Common.{◌<◌, ◌≤◌, length, subst, arith}
use Rattle.flt_config.specs.declared.TheConstants.{EVENTS}
use Rattle.flt_config.specs.declared.config.Config.{Config}
use Rattle.flt_store_model.specs.declared.mark.Mark.{Mark}
use Rattle.flt_image.proofs.mark.mark_of.Goals as goal

pub returns-clause-valid_config : goal.returns-clause-valid_config
returns-clause-valid_config c =
    let id = subst (λ (m : Mark). m.id < 65536) c.mark_with.ensures.value (omega (arith, c.mark_with.ensures.fields.id)) in
    let events : length c.config-config.result.now.events.items ≤ EVENTS = omega (arith, c.len.ensures.value, c.len.ensures.fits) in
    record {
      valid = c.config-config.ensures.valid;
      id = subst (λ (k : Config). k.id < 65536) c.config-config.ensures.value id;
      events = subst (λ (k : Config). length k.events.items ≤ EVENTS) c.config-config.ensures.value events;
    }
