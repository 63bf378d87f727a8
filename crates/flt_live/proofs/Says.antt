-- The one answer that is kept.
use Rattle.std.proofs.Common.{◌≡◌, ℕ, List, [], ◌∷◌, get_or}
use Rattle.flt_life_model.specs.Answers.{KeptAnswer, Told, told_by, told_of}

pub first_told : (responses : List ℕ) (answers : List KeptAnswer) (d : KeptAnswer) (told : Told) → told_by responses answers ≡ told ∷ [] → told_of responses (get_or answers 0 d) ≡ told
first_told responses [] d told is = absurd (cc is)
first_told responses (answer ∷ rest) d told is = cc is
