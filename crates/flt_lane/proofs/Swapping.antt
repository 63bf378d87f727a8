-- Lanes of which the first and the one at a place are exchanged.
use Rattle.std.proofs.Common.{◌≡◌, ◌≢◌, inr, ⊎_elim, ℕ, ◌<◌, List, All, length, get_or, ap, subst, sym, arith, ◌∙◌}
use Rattle.std.specs.List.{SwappedAt}
use Rattle.std.proofs.lemmas.Bool.{cases_eq}
use Rattle.flt_flash.specs.declared.blocks.Blocks.{Ghosts}
use Rattle.flt_config.specs.declared.config.Config.{Config}
use Rattle.flt_store.specs.declared.store.Store.{Store}
use Rattle.flt_lane.specs.Views.{LaneWork}
use Rattle.flt_lane.specs.Stored.{AreRun, HasRunStore, RunsStore, StoresAt, is_store_lane}
use Rattle.flt_lane.specs.Work.{HasRun}

pub record Exchanged {X : Type 0} (place : ℕ) (xs ys : List X) : Type 0 where
  pub len : length ys ≡ length xs
  pub within : place < length xs
  pub first : (d : X) → get_or ys 0 d ≡ get_or xs place d
  pub other : (d : X) → get_or ys place d ≡ get_or xs 0 d
  pub same : (k : ℕ) (d : X) → k < length xs → k ≢ 0 → k ≢ place → get_or ys k d ≡ get_or xs k d

pub exchanged : {X : Type 0} (place : ℕ) (xs ys : List X) → place < length xs → length ys ≡ length xs → SwappedAt xs ys 0 place → Exchanged place xs ys
exchanged place xs ys within len at = record { len = len; within = within; first = at.0; other = at.1; same = λ k d inside not_zero apart. at.2 k d not_zero apart }

pub all_exchanged : {X : Type 0} (P : X → Type 0) (place : ℕ) (xs ys : List X) → Exchanged place xs ys → All P xs → All P ys
all_exchanged {X} P place xs ys is all k d inside =
    let len = is.len in
    let within = is.within in
    let here : k < length xs = omega (arith, len, inside) in
    ⊎_elim (λ zero. subst P (sym (ap (λ n. get_or ys n d) zero ∙ is.first d)) (all place d within))
    (λ not_zero. ⊎_elim (λ at. subst P (sym (ap (λ n. get_or ys n d) at ∙ is.other d)) (all 0 d (omega (arith, within))))
    (λ apart. subst P (sym (is.same k d here not_zero apart)) (all k d here)) (cases_eq k place))
    (cases_eq k 0)

pub stores_exchanged : (place : ℕ) (xs ys : List LaneWork) → Exchanged place xs ys → StoresAt place xs → StoresAt 0 ys
stores_exchanged place xs ys is stores =
    let len = is.len in
    let within = is.within in
    record {
      within = omega (arith, len, within);
      one = λ d. ap is_store_lane (is.first d) ∙ stores.one d;
      others = λ k d inside not_zero.
          (let here : k < length xs = omega (arith, len, inside) in
          ⊎_elim (λ at. ap is_store_lane (ap (λ n. get_or ys n d) at ∙ is.other d) ∙ stores.others 0 d (omega (arith, within)) (λ zero. not_zero (at ∙ sym zero)))
          (λ apart. ap is_store_lane (is.same k d here not_zero apart) ∙ stores.others k d here apart) (cases_eq k place));
    }

module _ {B : Type 0} {b : Ghosts B} (c : Config) (place : ℕ) (lanes begun ended afters : List LaneWork) (store now : Store B b) where
  -- Each lane at its own place again.
  pub runs_exchanged : Exchanged place lanes begun → Exchanged place ended afters → RunsStore c 0 begun ended store now → RunsStore c place lanes afters store now
  runs_exchanged is back runs =
      let len = is.len in
      let back_len = back.len in
      let run_len = runs.len in
      let within = is.within in
      record {
        len = omega (arith, len, back_len, run_len);
        one = λ d. subst (λ (w : LaneWork). HasRunStore c w (get_or afters place d) store now) (is.first d)
            (subst (λ (w : LaneWork). HasRunStore c (get_or begun 0 d) w store now) (sym (back.other d)) (runs.one d));
        others = λ k d inside apart.
            ⊎_elim (λ zero. (let not_zero : place ≢ 0 = λ at. apart (zero ∙ sym at) in
            subst (λ n. HasRun (get_or lanes n d) (get_or afters n d)) (sym zero)
            (subst (λ (w : LaneWork). HasRun w (get_or afters 0 d)) (is.other d)
            (subst (λ (w : LaneWork). HasRun (get_or begun place d) w) (sym (back.first d)) (runs.others place d (omega (arith, len, within)) not_zero)))))
            (λ not_zero. subst (λ (w : LaneWork). HasRun w (get_or afters k d)) (is.same k d inside not_zero apart)
            (subst (λ (w : LaneWork). HasRun (get_or begun k d) w) (sym (back.same k d (omega (arith, len, run_len, inside)) not_zero apart)) (runs.others k d (omega (arith, len, inside)) not_zero)))
            (cases_eq k 0);
      }

  pub are_run : StoresAt place lanes → Exchanged place lanes begun → Exchanged place ended afters → RunsStore c 0 begun ended store now → AreRun c lanes afters store now
  are_run stores is back runs = inr (place, stores, runs_exchanged is back runs)
