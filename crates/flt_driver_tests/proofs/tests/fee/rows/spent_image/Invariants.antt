use Rattle.std.proofs.Common.{◌≡◌, vec_len}
use Rattle.flt_driver_tests.proofs.tests.fee.rows.spent_image.Given as goal

abbrev pub invariant-loop-record : goal.invariant-loop-record
invariant-loop-record l = vec_len l.image ≡ 128
