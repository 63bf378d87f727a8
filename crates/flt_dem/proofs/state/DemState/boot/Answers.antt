use Rattle.std.proofs.Common.{[], ap, subst}
use Rattle.flt_dem.specs.Calls.{StandsAfter}
use Rattle.flt_dem.proofs.ManagerLemmas.{none_started}
use Rattle.flt_dem.proofs.state.DemState.boot.Goals as goal

pub returns-clause-stands : goal.returns-clause-stands
returns-clause-stands c =
    let outside = ap (λ m. m.durable.config) c.self.view_is in
    record {
      events = subst (λ k. StandsAfter (record { config = k; base = c.args.base.now }) [] c.restore.new.self) outside c.restore.ensures.stands;
      started = none_started;
      signals = c.zero-self-inside.ensures;
      conditions = c.fulfilled-self-inside.ensures;
    }
