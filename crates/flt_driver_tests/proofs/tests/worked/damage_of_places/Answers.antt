use Rattle.std.proofs.Common.{refl}
use Rattle.flt_flash.specs.Image.{blank_page}
use Rattle.flt_code.specs.Seal.{sealed, unsealed}
use Rattle.flt_code.specs.Spoiled.{is_spoiled}
use Rattle.flt_ea.specs.Gate.{gate_bytes, gate_candidate, gate_of}
use Rattle.flt_ea.specs.Image.{damage_from}
use Rattle.flt_driver_tests.proofs.tests.worked.damage_of_places.Goals as goal

pub returns : goal.returns
unfolding blank_page sealed unsealed is_spoiled gate_bytes gate_candidate gate_of damage_from
returns c = record { second_place = refl; number_zero = refl; none = refl }
