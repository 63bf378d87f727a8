-- The lines of the parts of a life that are left.
use Rattle.std.proofs.Common.{◌≡◌, ℕ, ◌+◌, ◌-◌, ◌<◌, ◌≤◌, List, [], ◌∷◌, ◌++◌, length, take, drop, get_or, refl, sym, inl, inr, drop-cons, add-one, arith}
use Rattle.std.specs.Prelude.{slice_index_or}
use Rattle.std.proofs.lemmas.List.{drop-drop, length-drop, take_all}
use Rattle.std.proofs.Math.ListN.{drop_of_length-le}
use Rattle.flt_step.specs.declared.step.Part.{Part}
use Rattle.flt_step.specs.declared.step.Step.{Step}
use Rattle.flt_step.specs.Part.{part_of, parts_of}
use Rattle.flt_life_model.specs.declared.answer.StepAnswer.TheVariants as answers
use Rattle.flt_life_model.specs.Answers.{Told}
use Rattle.flt_report.specs.Answer.{step_line}
use Rattle.flt_report.specs.Life.{block_text, parts_text}

-- Those of the parts from an index on, where this many steps of lane 0 and this many lanes were answered.
abbrev pub parts_left : List Part → List Told → List (List Told) → ℕ → ℕ → ℕ → List ℕ
parts_left parts own told index answered lanes = parts_text (lanes + 1) (parts_of (drop index parts)) (drop answered own) (drop lanes told)

-- The elements from an index on, as a range of them.
pub range_is : {A : Type 0} (n : ℕ) (xs : List A) → take (length xs - n) (drop n xs) ≡ drop n xs
range_is n xs = let size = length-drop n xs in take_all (length xs - n) (drop n xs) (omega (arith, size))

next_told : (own : List Told) (answered : ℕ) → answered < length own → drop answered own ≡ slice_index_or own answered answers.Dark ∷ drop (answered + 1) own
next_told own answered within = rw (drop-cons own answered answers.Dark within, add-one) refl

module _ (parts : List Part) (own : List Told) (told : List (List Told)) (index answered lanes : ℕ) where
  -- No part is left.
  pub none_left : length parts ≤ index → parts_left parts own told index answered lanes ≡ []
  unfolding parts_text
  none_left past = rw (drop_of_length-le parts past) refl

  module _ (part : Part) (there : index < length parts) (is : part ≡ get_or parts index part) where
    first : parts_of (drop index parts) ≡ part_of part ∷ parts_of (drop (index + 1) parts)
    first = rw (drop-cons parts index part there, sym is, add-one) refl

    -- The next part is a step of lane 0 that was not answered.
    pub unanswered : (step : Step) → part_of part ≡ inl step → length own ≤ answered → parts_left parts own told index answered lanes ≡ []
    unfolding parts_text
    unanswered step one past = rw (first, one, drop_of_length-le own past) refl

    -- The next part is a step of lane 0.
    pub one_more : (step : Step) → part_of part ≡ inl step → answered < length own
        → parts_left parts own told index answered lanes ≡ step_line step (slice_index_or own answered answers.Dark) ++ parts_left parts own told (index + 1) (answered + 1) lanes
    unfolding parts_text
    one_more step one within = rw (first, one, next_told own answered within) refl

    -- The next part is a block.
    pub block_more : (block : List (List Step)) → part_of part ≡ inr block
        → parts_left parts own told index answered lanes ≡ block_text (lanes + 1) block (drop lanes told) ++ parts_left parts own told (index + 1) answered (lanes + length block)
    unfolding parts_text
    block_more block one =
        let number : lanes + 1 + length block ≡ lanes + length block + 1 = omega arith in
        rw (first, one, number, drop-drop (length block) lanes told) refl
