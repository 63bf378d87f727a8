use Rattle.std.proofs.Common.{refl, arith}
use Rattle.flt_store_tests.proofs.tests.worked.first_indices.Goals as goal

pub returns : goal.returns
returns c = λ before after next is. (
  is.number,
  (
    (is.blocks 3 (omega arith) (omega arith)).used refl,
    (
      (is.blocks 4 (omega arith) (omega arith)).used refl,
      (
        (is.blocks 7 (omega arith) (omega arith)).used refl,
        (
          (is.blocks 8 (omega arith) (omega arith)).used refl,
          (
            (is.blocks 9 (omega arith) (omega arith)).unused refl,
            (
              (is.blocks 24 (omega arith) (omega arith)).used refl,
              (
                (is.blocks 25 (omega arith) (omega arith)).unused refl,
                tt,
              ),
            ),
          ),
        ),
      ),
    ),
  ),
)
