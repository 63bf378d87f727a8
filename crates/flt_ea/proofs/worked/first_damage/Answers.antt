use Rattle.std.proofs.Common.{refl}
use Rattle.flt_flash.specs.Image.{blank_page}
use Rattle.flt_code.specs.Seal.{sealed, unsealed}
use Rattle.flt_code.specs.Spoiled.{is_spoiled}
use Rattle.flt_ea.specs.Gate.{gate_bytes, gate_candidate, gate_of}
use Rattle.flt_ea.specs.Image.{damage_from}
use Rattle.flt_ea.proofs.worked.first_damage.Goals as goal

pub returns : goal.returns
unfolding blank_page sealed unsealed is_spoiled gate_bytes gate_candidate gate_of damage_from
returns c = record { other_block = refl; not_a_gate = refl; both_zero = refl; same_sequence = refl; next_block = refl; last = refl; none = refl }
