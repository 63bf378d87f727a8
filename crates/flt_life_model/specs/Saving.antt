-- The answers of a life, newest first: the numbers of its saves, and how many failed.
use Rattle.std.specs.Prelude.{◌≡◌, ◌⊎◌, ℕ, ◌+◌, ◌≤◌, ◌<◌, List, [], ◌∷◌}
use Rattle.flt_model.specs.Start.{Start}
use Rattle.flt_store_model.specs.Holding.{Generation}
use Rattle.flt_life_model.specs.Answers.{Told}
use Rattle.flt_life_model.specs.declared.answer.StepAnswer.TheVariants.{Saved, SaveFailed}
use Rattle.flt_life_model.specs.Journal.{Journal, IsTakenSince}

-- The number of saves that failed since the last acknowledged one.
abbrev pub failures : List Told → ℕ
failures [] = 0
failures (Saved number ∷ earlier) = 0
failures (SaveFailed fault ∷ earlier) = failures earlier + 1
failures (_ ∷ earlier) = failures earlier

-- The number that was acknowledged last, or the one with which the life started.
abbrev pub last_saved_number : ℕ → List Told → ℕ
last_saved_number first [] = first
last_saved_number first (Saved number ∷ earlier) = number
last_saved_number first (_ ∷ earlier) = last_saved_number first earlier

-- The number is one more than this, plus at most one for each save that failed between.
abbrev pub IsNextNumber : ℕ → ℕ → ℕ → Type 0
IsNextNumber earlier failed number = (earlier + 1 ≤ number) × (number ≤ earlier + 1 + failed)

-- Each number that was acknowledged is the next one.
abbrev pub AreRising : ℕ → List Told → Type 0
AreRising first [] = Unit {0}
AreRising first (Saved number ∷ earlier) = IsNextNumber (last_saved_number first earlier) (failures earlier) number × AreRising first earlier
AreRising first (_ ∷ earlier) = AreRising first earlier

-- A generation of a save that was not acknowledged: its number is past the last acknowledged one by at most one for each save that
-- failed since, and its state was taken since.
pub record IsUnacknowledged (start : Start) (journal : Journal) (answers : List Told) (last g : Generation) : Type 0 where
  pub past : last.number < g.number
  pub most : g.number ≤ last.number + failures answers
  pub taken : IsTakenSince start journal g.state

-- The generation that was acknowledged last, or one of a later save.
abbrev pub IsLeft : Start → Journal → List Told → Generation → Generation → Type 0
IsLeft start journal answers last g = (g ≡ last) ⊎ IsUnacknowledged start journal answers last g
