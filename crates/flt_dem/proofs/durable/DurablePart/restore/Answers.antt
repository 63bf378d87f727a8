use Rattle.std.proofs.Common.{[], sym, ap, subst}
use Rattle.flt_config.specs.Durable.{Fits}
use Rattle.flt_model.specs.Start.{Start}
use Rattle.flt_dem.specs.Standing.{StatesStand, MemoryStands}
use Rattle.flt_dem.proofs.BaseLemmas.{base_states, base_memory}
use Rattle.flt_dem.proofs.durable.DurablePart.restore.Goals as goal

pub returns-clause-stands : goal.returns-clause-stands
returns-clause-stands c =
    let life : Start = record { config = c.args.self.now.config; base = c.args.base.now } in
    let fits : Fits c.args.self.now.config c.args.base.now = c.requires in
    record {
      config = ap (λ v. v.config) (sym c.self.view_is);
      states_stand = subst (λ xs. StatesStand life [] xs) (sym c.copied_states-self-inside.ensures) (base_states life fits);
      memory_stands = subst (λ m. MemoryStands life [] m) (sym c.load.ensures) (base_memory life fits);
      notes = c.of-self-inside.ensures;
    }
