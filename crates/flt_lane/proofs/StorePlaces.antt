-- Which lane of a block touches the store, where one at most does.
use Rattle.std.proofs.Common.{◌≡◌, ◌≢◌, ℕ, zero, suc, ◌<◌, ◌≤◌, ◌+◌, Bool, true, false, cond, List, [], ◌∷◌, length, map, get_or, refl, ap, sym, arith, ◌∙◌}
use Rattle.std.proofs.lemmas.Bool.{true≢false}
use Rattle.std.proofs.lemmas.List.Sums.{sum_by-cons}
use Rattle.flt_step.specs.Step.{has_store_step, store_lanes}
use Rattle.flt_step.specs.declared.step.Step.{Step}
use Rattle.flt_lane.specs.Views.{LaneWork}
use Rattle.flt_lane.specs.Stored.{StoresAt, is_store_lane}

-- How many lanes do.
abbrev pub stores : List LaneWork → ℕ
stores works = store_lanes (map (λ (w : LaneWork). w.steps.now) works)

stores-cons : (w : LaneWork) (works : List LaneWork) → stores (w ∷ works) ≡ cond (is_store_lane w) 1 0 + stores works
stores-cons w works = sum_by-cons (λ (steps : List Step). cond (has_store_step steps) 1 0) w.steps.now (map (λ (w : LaneWork). w.steps.now) works)

not_one : (b : Bool) (more all : ℕ) → all ≡ cond b 1 0 + more → all ≤ 0 → b ≡ false
not_one true more all is none = absurd (omega (arith, is, none))
not_one false more all is none = refl

none_stores : (works : List LaneWork) → stores works ≤ 0 → (k : ℕ) (d : LaneWork) → k < length works → is_store_lane (get_or works k d) ≡ false
none_stores [] none k d within = absurd (omega (arith, within))
none_stores (w ∷ works) none zero d within = not_one (is_store_lane w) (stores works) (stores (w ∷ works)) (stores-cons w works) none
none_stores (w ∷ works) none (suc k) d within = none_stores works (let sum = stores-cons w works in omega (arith, sum, none)) k d (omega (arith, within))

-- The first is one of them, or is not.
rest_stores : (w : LaneWork) (works : List LaneWork) → stores (w ∷ works) ≤ 1 → is_store_lane w ≡ true → stores works ≤ 0
rest_stores w works few is = let sum = stores-cons w works in let one : cond (is_store_lane w) 1 0 ≡ 1 = ap {B = ℕ} (λ b. cond b 1 0) is in omega (arith, sum, one, few)

first_not : (w : LaneWork) (works : List LaneWork) (place : ℕ) (d : LaneWork) → stores (w ∷ works) ≤ 1 → place < length works → is_store_lane (get_or works place d) ≡ true → (b : Bool) → is_store_lane w ≡ b → is_store_lane w ≡ false
first_not w works place d few within at true is = absurd (true≢false (sym at ∙ none_stores works (rest_stores w works few is) place d within))
first_not w works place d few within at false is = is

pub others_not : (works : List LaneWork) (place : ℕ) → stores works ≤ 1 → place < length works → ((d : LaneWork) → is_store_lane (get_or works place d) ≡ true) → (k : ℕ) (d : LaneWork) → k < length works → k ≢ place → is_store_lane (get_or works k d) ≡ false
others_not [] place few within at k d inside apart = absurd (omega (arith, within))
others_not (w ∷ works) zero few within at zero d inside apart = absurd (apart refl)
others_not (w ∷ works) zero few within at (suc k) d inside apart = none_stores works (rest_stores w works few (at w)) k d (omega (arith, inside))
others_not (w ∷ works) (suc place) few within at zero d inside apart = first_not w works place d few (omega (arith, within)) (at d) (is_store_lane w) refl
others_not (w ∷ works) (suc place) few within at (suc k) d inside apart =
    others_not works place (let sum = stores-cons w works in omega (arith, sum, few)) (omega (arith, within)) at k d (omega (arith, inside)) (λ same. apart (omega (arith, same)))

pub stores_at : (works : List LaneWork) (place : ℕ) → stores works ≤ 1 → place < length works → ((d : LaneWork) → is_store_lane (get_or works place d) ≡ true) → StoresAt place works
stores_at works place few within at = record { within = within; one = at; others = others_not works place few within at }
