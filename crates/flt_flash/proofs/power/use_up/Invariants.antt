use Rattle.std.proofs.Common.{◌≡◌, ◌++◌, map, take, drop}
use Rattle.flt_flash.specs.Arms.{after_read}
use Rattle.flt_flash.proofs.power.use_up.Given as goal

abbrev pub invariant-loop-arm : goal.invariant-loop-arm
invariant-loop-arm l = l.arms ≡ map (after_read l.sector l.page) (take l.arm-index l.initial.arms) ++ drop l.arm-index l.initial.arms
