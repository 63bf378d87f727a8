-- The lines of the lives that are left.
use Rattle.std.proofs.Common.{◌≡◌, ℕ, ◌+◌, ◌-◌, ◌<◌, ◌≤◌, min, List, [], ◌∷◌, ◌++◌, length, drop, get_or, refl, sym, ap, inl, inr, drop-cons, add-one, arith}
use Rattle.std.specs.Prelude.{Vec}
use Rattle.std.proofs.lemmas.List.{drop-map}
use Rattle.std.proofs.lemmas.Bool.{cases_lt}
use Rattle.std.proofs.Math.ListN.{drop_of_length-le}
use Rattle.flt_step.specs.declared.step.Part.{Part}
use Rattle.flt_step.specs.declared.step.Step.{Step}
use Rattle.flt_step.specs.Part.{PartOf, parts_of}
use Rattle.flt_life_model.specs.declared.life.Life.{Life}
use Rattle.flt_life_model.specs.Lives.{lists}
use Rattle.flt_report.specs.Life.{life_text}
use Rattle.flt_run.specs.Left.{lives_left}
use Rattle.flt_run.specs.Report.{lives_text, last_life_text}

pub lives_more : {A : Type 0} (script : List (Vec Part A)) (lives : List Life) (index : ℕ) (parts : Vec Part A) (life : Life) → index < length script → index < length lives
    → lives_left script lives index ≡ life_text (index + 1) (parts_of (get_or script index parts).items) (get_or lives index life).boot (get_or lives index life).replies.items ++ lives_left script lives (index + 1)
unfolding lives_text
lives_more script lives index parts life there too = rw (drop-cons script index parts there, drop-cons lives index life too, add-one) refl

no_script : (number : ℕ) (lives : List Life) → lives_text number [] lives ≡ []
unfolding lives_text
no_script number lives = refl

no_lives : (number : ℕ) (script : List (List (PartOf Step))) → lives_text number script [] ≡ []
unfolding lives_text
no_lives number [] = refl
no_lives number (parts ∷ rest) = refl

pub lives_end : {A : Type 0} (script : List (Vec Part A)) (lives : List Life) (index : ℕ) → min (length script) (length lives) ≤ index → lives_left script lives index ≡ []
lives_end script lives index past = elim (cases_lt index (length script)) [
  | inl below ↦
      let short : length lives ≤ index = omega (arith, below, past) in
      rw (drop_of_length-le lives short) (no_lives (index + 1) (lists (drop index script)))
  | inr beyond ↦ rw (drop_of_length-le script beyond) (no_script (index + 1) (drop index lives))
]

-- The last life alone.
pub last_is_left : {A : Type 0} (script : List (Vec Part A)) (lives : List Life) → lives_left script lives (length lives - 1) ≡ last_life_text (lists script) lives
last_is_left {A = A} script lives = ap (λ rest. lives_text (length lives - 1 + 1) rest (drop (length lives - 1) lives)) (sym (drop-map (λ (life : Vec Part A). parts_of life.items) (length lives - 1) script))
