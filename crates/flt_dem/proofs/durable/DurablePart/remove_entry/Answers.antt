use Rattle.std.proofs.Common.{refl}
use Rattle.flt_dem.proofs.KeptLemmas.{removed_of_config}
use Rattle.flt_dem.proofs.durable.DurablePart.remove_entry.Goals as goal

pub invariant_of-self : goal.invariant_of-self
invariant_of-self c =
    removed_of_config c.self.inside.config c.self.inside.states.items c.self.inside.states.items c.args.event c.self.inside.memory c.remove.new.self refl
    c.remove.ensures.entries c.self.invariant
