-- A configuration that is accepted is the one that was checked, and its one life is what was read.
use Rattle.std.proofs.Common.{◌≡◌, Result, Ok, Err}
use Rattle.flt_config.specs.declared.config.Config.{Config}
use Rattle.flt_config.specs.declared.config.CfgFault.{CfgFault}
use Rattle.flt_config.specs.Check.{check_of, unless_faulty, and_then, distinct_result, room_result}
use Rattle.flt_config.specs.Ranges.{settings, ranges_result}

kept : (config accepted : Config) (result : Result (Unit {0}) CfgFault) → unless_faulty config result ≡ Ok accepted → accepted ≡ config
kept config accepted (Ok done) e = cc
kept config accepted (Err fault) e = absurd cc

pub same_config : (config accepted : Config) → check_of config ≡ Ok accepted → accepted ≡ config
unfolding check_of
same_config config accepted e =
    kept config accepted (and_then (ranges_result (settings config)) (and_then (distinct_result config.events.items) (room_result config))) e
