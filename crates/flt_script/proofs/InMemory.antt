-- A script that is read, and its lives without where they lie in memory.
use Rattle.std.proofs.Common.{◌≡◌, ℕ, zero, suc, ◌+◌, List, [], ◌∷◌, ◌++◌, length, get_or, slice_set, Bool, true, ◌&&◌, ◌||◌, Some, Ok, refl, ap, arith, Vec, Global}
use Rattle.std.specs.Prelude.{map, not, sum_by}
use Rattle.std.proofs.lemmas.List.{length-map}
use Rattle.std.proofs.lemmas.List.Sums.{sum_by-cons}
use Rattle.std.proofs.lemmas.Bool.{not-true}
use Rattle.flt_step.specs.declared.step.Part.{Part}
use Rattle.flt_step.specs.declared.step.Step.{Step}
use Rattle.flt_step.specs.Part.{PartOf, part_of, parts_of}
use Rattle.flt_script.specs.Behind.{has_earlier_store, in_last_lane}
use Rattle.flt_script.specs.Next.{with_lane_step}
use Rattle.flt_step.specs.Step.{is_lane_step, is_store_step, lanes_of_parts}
use Rattle.flt_script.specs.Within.{lines_at_least}

-- A life where it lies in memory.
abbrev pub Life : Type 0
Life = Vec Part Global

-- Lives without where they lie in memory.
abbrev pub lives_of : List Life → List (List (PartOf Step))
lives_of lives = map (λ life. parts_of life.items) lives

-- A sum over them.
pub sum_of_lives : (count : List (PartOf Step) → ℕ) (lives : List Life) → sum_by (λ life. count (parts_of life.items)) lives ≡ sum_by count (lives_of lives)
sum_of_lives count [] = refl
sum_of_lives count (life ∷ lives) =
    let rest = sum_of_lives count lives in
    omega (arith, rest, sum_by-cons (λ (l : Life). count (parts_of l.items)) life lives, sum_by-cons count (parts_of life.items) (lives_of lives))

-- As many marks has a life in memory.
pub sum_of_marks : (lives : List Life) → sum_by (λ life. length life.items + lanes_of_parts (parts_of life.items)) lives ≡ sum_by lines_at_least (lives_of lives)
sum_of_marks [] = refl
sum_of_marks (life ∷ lives) =
    let rest = sum_of_marks lives in
    omega (
      arith,
      rest,
      length-map life.items part_of,
      sum_by-cons (λ (l : Life). length l.items + lanes_of_parts (parts_of l.items)) life lives,
      sum_by-cons lines_at_least (parts_of life.items) (lives_of lives),
    )

-- ---- the lanes of a block

-- A lane where it lies in memory.
abbrev pub Lane : Type 0
Lane = Vec Step Global

-- Lanes without where they lie in memory.
abbrev pub steps_of_lanes : List Lane → List (List Step)
steps_of_lanes lanes = map (λ lane. lane.items) lanes

last_written : (s : Step) (lanes : List Lane) (place : ℕ) (last new : Lane) → place + 1 ≡ length lanes → last ≡ get_or lanes place last → new.items ≡ last.items ++ s ∷ []
    → in_last_lane (Some s) (steps_of_lanes lanes) ≡ steps_of_lanes (slice_set lanes place new)
last_written s [] place last new e there items = absurd (omega (arith, e))
last_written s (lane ∷ []) zero last new e there items = let same : last.items ≡ lane.items = ap (λ (l : Lane). l.items) there in rw (items, same) refl
last_written s (lane ∷ []) (suc place) last new e there items = absurd (omega (arith, e))
last_written s (lane ∷ next ∷ lanes) zero last new e there items = absurd (omega (arith, e))
last_written s (lane ∷ next ∷ lanes) (suc place) last new e there items =
    ap (λ (more : List (List Step)). lane.items ∷ more) (last_written s (next ∷ lanes) place last new (omega (arith, e)) there items)

-- A last lane that was written as it was leaves them.
pub last_kept : (lanes : List Lane) (place : ℕ) (last new : Lane) → place + 1 ≡ length lanes → last ≡ get_or lanes place last → new.items ≡ last.items
    → steps_of_lanes (slice_set lanes place new) ≡ steps_of_lanes lanes
last_kept [] place last new e there items = absurd (omega (arith, e))
last_kept (lane ∷ lanes) zero last new e there items =
    let same : last.items ≡ lane.items = ap (λ (l : Lane). l.items) there in rw (items, same) refl
last_kept (lane ∷ lanes) (suc place) last new e there items =
    ap (λ (more : List (List Step)). lane.items ∷ more) (last_kept lanes place last new (omega (arith, e)) there items)

-- A step that is allowed there is put after the last lane's.
pub lane_written : (s : Step) (lanes : List Lane) (place : ℕ) (last new : Lane) (earlier : Bool) → not (not (is_lane_step s) || is_store_step s && earlier) ≡ true
    → earlier ≡ has_earlier_store (steps_of_lanes lanes) → place + 1 ≡ length lanes → last ≡ get_or lanes place last
    → new.items ≡ last.items ++ s ∷ [] → with_lane_step s (steps_of_lanes lanes) ≡ Ok (steps_of_lanes (slice_set lanes place new))
lane_written s [] place last new earlier may is e there items = absurd (omega (arith, e))
lane_written s (lane ∷ lanes) place last new earlier may is e there items =
    let free = rw is at (not-true (not (is_lane_step s) || is_store_step s && earlier) may) in
    rw (free, last_written s (lane ∷ lanes) place last new e there items) refl
