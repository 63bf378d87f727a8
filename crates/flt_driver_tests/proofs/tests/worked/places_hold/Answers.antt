use Rattle.std.proofs.Common.{refl}
use Rattle.flt_flash.specs.Image.{blank_page}
use Rattle.flt_code.specs.Seal.{sealed, unsealed}
use Rattle.flt_ea.specs.Gate.{gate_bytes, gate_candidate, gate_of}
use Rattle.flt_ea.specs.Image.{value_from}
use Rattle.flt_driver_tests.proofs.tests.worked.places_hold.Goals as goal

pub returns : goal.returns
unfolding blank_page sealed unsealed gate_bytes gate_candidate gate_of value_from
returns c = refl
