use Rattle.std.proofs.Common.{refl}
use Rattle.flt_config.specs.Check.{check_of, distinct_behind}
use Rattle.flt_config.specs.Ranges.{ranges_result, global_settings, plain_settings, jump_settings, threshold_settings, counter_settings, debounce_settings, did_width_settings, did_settings, event_settings, events_settings}
use Rattle.flt_config.proofs.worked.ends_are_accepted.Goals as goal

pub returns : goal.returns
unfolding check_of distinct_behind ranges_result global_settings plain_settings jump_settings threshold_settings counter_settings debounce_settings did_width_settings did_settings event_settings events_settings
returns c = refl
