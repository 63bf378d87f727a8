use Rattle.std.proofs.Common.{refl, arith}
use Rattle.flt_store_tests.specs.CommitExamples.{once, failed_twice, second, third}
use Rattle.flt_store_tests.proofs.Indices.{stays, moves_to_0, moves_to_1, other_entry, other_entry_back, same_summary, same_summary_back}
use Rattle.flt_store_tests.proofs.tests.worked.next_indices.Goals as goal

pub returns : goal.returns
returns c = record {
  moves = λ next is. (
    is.number,
    (
      stays second next once failed_twice is 3 (omega arith) (omega arith) refl same_summary,
      (
        stays second next once failed_twice is 4 (omega arith) (omega arith) refl refl,
        (
          stays second next once failed_twice is 5 (omega arith) (omega arith) refl refl,
          (
            stays second next once failed_twice is 6 (omega arith) (omega arith) refl refl,
            (
              stays second next once failed_twice is 7 (omega arith) (omega arith) refl refl,
              (
                moves_to_1 second next once failed_twice is 8 (omega arith) (omega arith) refl other_entry refl,
                (
                  (is.blocks 9 (omega arith) (omega arith)).unused refl,
                  (
                    stays second next once failed_twice is 24 (omega arith) (omega arith) refl refl,
                    (
                      (is.blocks 25 (omega arith) (omega arith)).unused refl,
                      tt,
                    ),
                  ),
                ),
              ),
            ),
          ),
        ),
      ),
    ),
  );
  moves_back = λ next is. (
    is.number,
    (
      stays third next failed_twice once is 3 (omega arith) (omega arith) refl same_summary_back,
      (
        stays third next failed_twice once is 4 (omega arith) (omega arith) refl refl,
        (
          moves_to_0 third next failed_twice once is 8 (omega arith) (omega arith) refl other_entry_back refl,
          (
            stays third next failed_twice once is 24 (omega arith) (omega arith) refl refl,
            tt,
          ),
        ),
      ),
    ),
  );
}
