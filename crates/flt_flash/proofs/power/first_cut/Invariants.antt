use Rattle.std.proofs.Common.{◌≡◌, drop}
use Rattle.std.specs.List.{find}
use Rattle.flt_flash.specs.Arms.{is_due_cut}
use Rattle.flt_flash.proofs.power.first_cut.Given as goal

abbrev pub invariant-loop-arm : goal.invariant-loop-arm
invariant-loop-arm l = find is_due_cut l.met ≡ find is_due_cut (drop l.arm-index l.met)
