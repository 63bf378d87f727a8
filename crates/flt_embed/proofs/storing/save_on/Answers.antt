use Rattle.std.proofs.Common.{◌∙◌, ◌+◌, ⊎_elim, ap}
use Rattle.flt_store_model.specs.Holding.{Generation}
use Rattle.flt_store.proofs.Running.{ok_map}
use Rattle.flt_embed.proofs.storing.save_on.Goals as goal

pub returns-clause-next : goal.returns-clause-next
returns-clause-next c = λ held running.
    ok_map c.save-saved.result (λ number saves. saves.next ∙ ap (λ (from : Generation). from.number + 1) (⊎_elim (λ by_held. by_held) (λ by_spare. by_spare.0) saves.is)) (c.save-saved.ensures.answers held held running).saved
