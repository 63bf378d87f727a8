use Rattle.std.proofs.Common.{◌≡◌, ◌∷◌, [], refl, arith}
use Rattle.flt_store_model.specs.Form.{commit_bytes, commit_bytes_1}
use Rattle.flt_store_model.specs.Reading.{commit_from_1, commit_from, is_commit, commit_in}
use Rattle.flt_store_tests.specs.CommitExamples.{commit_of_many, second}
use Rattle.flt_store_tests.proofs.Indices.{same_summary}
use Rattle.flt_store_tests.proofs.tests.worked.indices_are_kept.Goals as goal

pub returns : goal.returns
unfolding commit_bytes commit_bytes_1 commit_from_1 commit_from is_commit commit_in
returns c = record {
  keeps = λ next kept. (
    kept 3 refl same_summary,
    (
      kept 4 refl refl,
      (
        kept 5 refl refl,
        (
          kept 6 refl refl,
          (
            kept 7 refl refl,
            (
              kept 24 refl refl,
              tt,
            ),
          ),
        ),
      ),
    ),
  );
  moved_states = λ kept.
      let wrong : 0 ≡ 1 = kept second (commit_of_many 3 (0 ∷ 1 ∷ 0 ∷ 1 ∷ 0 ∷ 1 ∷ []) 0) (_, refl, refl) (_, refl, refl) 24 refl refl in
      omega (arith, wrong);
  moved_summary = λ kept.
      let wrong : 1 ≡ 0 = kept second (commit_of_many 3 (1 ∷ 1 ∷ 0 ∷ 1 ∷ 0 ∷ 1 ∷ []) 1) (_, refl, refl) (_, refl, refl) 3 refl same_summary in
      omega (arith, wrong);
  stand_at_zero = λ blocks next has zero. (
    zero next has 3 refl,
    (
      zero next has 4 refl,
      (
        zero next has 7 refl,
        (
          zero next has 8 refl,
          (
            zero next has 24 refl,
            tt,
          ),
        ),
      ),
    ),
  );
}
