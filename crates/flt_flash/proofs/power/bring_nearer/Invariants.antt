use Rattle.std.proofs.Common.{◌≡◌, ◌++◌, map, take, drop}
use Rattle.flt_flash.specs.Arms.{after_write}
use Rattle.flt_flash.proofs.power.bring_nearer.Given as goal

abbrev pub invariant-loop-arm : goal.invariant-loop-arm
invariant-loop-arm l = l.arms ≡ map after_write (take l.arm-index l.initial.arms) ++ drop l.arm-index l.initial.arms
