-- What was known of the configuration under a seat stays known as long as its start stays.
use Rattle.std.proofs.Common.{◌≡◌, ap, subst, sym, ◌∙◌}
use Rattle.flt_config.specs.declared.config.Config.{Config}
use Rattle.flt_config.specs.Durable.{Fits}
use Rattle.flt_model.specs.declared.life.DemStart.{DemStart}
use Rattle.flt_shared.specs.Call.{Seat}
use Rattle.flt_lane.specs.Work.{HasConfig}

pub config_stays : (config : Config) (seat after : Seat) → after.start ≡ seat.start → HasConfig config seat → HasConfig config after
config_stays config seat after start has = record {
  same = ap (λ (s : DemStart). s.config) start ∙ has.same;
  valid = has.valid;
  fits = subst (λ (s : DemStart). Fits config s.base) (sym start) has.fits;
}
