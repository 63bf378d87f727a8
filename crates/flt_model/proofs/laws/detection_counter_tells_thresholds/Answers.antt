use Rattle.flt_model.proofs.CounterLaws.{detection_counter_tells_thresholds}
use Rattle.flt_model.proofs.laws.detection_counter_tells_thresholds.Goals as goal

pub returns : goal.returns
returns c = detection_counter_tells_thresholds
