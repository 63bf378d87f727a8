use Rattle.std.proofs.Common.{◌≡◌, pos, ◌+ℤ◌, ◌-ℤ◌, Some, to_z, of_z, w64, arith}
use Rattle.std.proofs.lemmas.Int.{ints}
use mir.Syntax.{w16}
use Rattle.flt_config.proofs.ranges.jump_setting_of.Goals as goal

pub returns : goal.returns
returns c =
    let value : to_z w64 (of_z w64 (to_z w16 (of_z w16 c.args.jump))) ≡ c.args.jump = omega (arith, ints) in
    let least : to_z w64 (of_z w64 (to_z w64 (of_z w64 (to_z w16 (of_z w16 c.args.pass_at))) +ℤ pos 1)) ≡ c.args.pass_at +ℤ pos 1 = omega (arith, ints) in
    let greatest : to_z w64 (of_z w64 (to_z w64 (of_z w64 (to_z w16 (of_z w16 c.args.fail_at))) -ℤ pos 1)) ≡ c.args.fail_at -ℤ pos 1 = omega (arith, ints) in
    λ i. record { event = Some c.args.number; field = c.args.field; value = value i; least = least i; greatest = greatest i }
