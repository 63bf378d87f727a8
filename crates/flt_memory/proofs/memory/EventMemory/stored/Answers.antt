use Rattle.std.proofs.Common.{◌||◌, refl, false, ap}
use Rattle.std.specs.List.{find}
use Rattle.std.specs.Prelude.{is_some}
use Rattle.std.proofs.lemmas.List.{get_or-replicate}
use Rattle.flt_config.specs.declared.TheConstants.{EVENTS}
use Rattle.flt_config.specs.Durable.{is_of_event}
use Rattle.flt_memory.proofs.memory.EventMemory.stored.Goals as goal

pub loop-entry-init : goal.loop-entry-init
loop-entry-init c = record {
  size = refl;
  marked = λ event h. ap (λ b. b || is_some (find (is_of_event event) c.as_slice-entry-items.result.now)) (get_or-replicate EVENTS event false false h);
}
