-- One application block more that is judged, and the pages of one record more.
use Rattle.std.proofs.Common.{◌≡◌, ℕ, zero, suc, ◌+◌, ◌-◌, ◌<◌, ◌≤◌, [], ◌∷◌, Bool, true, false, refl, sym, ◌∙◌, ap, subst, arith, inl, inr, below_more}
use Rattle.std.specs.Prelude.{◌++◌, not, find, flat_map, map, sum_by, Some, Ok, Err}
use Rattle.std.specs.List.{range_with_len}
use Rattle.std.proofs.lemmas.Bool.{cases_Bool}
use Rattle.std.proofs.lemmas.List.Sums.{sum_by-append}
use Rattle.flt_flash.specs.Content.{Content}
use Rattle.flt_config.specs.declared.config.Config.{Config}
use Rattle.flt_store_model.specs.Layout.{numbers, both_indices, first_part, parts, first_application, applications, application_number}
use Rattle.flt_store_model.specs.Excess.{excess}
use Rattle.flt_store_model.specs.Holding.{damaged_at, is_application, application_fault, applications_judged}
use Rattle.flt_store_model.proofs.Choices.{chosen, not_chosen, range_more}
use Rattle.flt_store_model.proofs.Bridge.{fine_applications}
use Rattle.flt_store_model.proofs.Pages.{both_sum, mapped_sum}
use Rattle.flt_restore.specs.declared.fault.StartFault.{StartFault}
use Rattle.flt_restore.specs.Judging.{as_told, application_judged, beyond, beyond_of_part, beyond_of_parts, beyond_of_applications}

-- The first number of a range that passes a test.
first_found : (test : ℕ → Bool) (first count k : ℕ) → k < count → ((j : ℕ) → j < k → test (first + j) ≡ false) → test (first + k) ≡ true → find test (range_with_len first count) ≡ Some (first + k)
first_found test first zero k below fails passes = absurd (omega (arith, below))
first_found test first (suc count) zero below fails passes =
    let at : first + 0 ≡ first = omega arith in
    chosen (test first) (Some first) (find test (range_with_len (first + 1) count)) (subst (λ (n : ℕ). test n ≡ true) at passes) ∙ ap Some (sym at)
first_found test first (suc count) (suc k) below fails passes =
    let at : first + 0 ≡ first = omega arith in
    let here : first + suc k ≡ first + 1 + k = omega arith in
    not_chosen (test first) (Some first) (find test (range_with_len (first + 1) count)) (subst (λ (n : ℕ). test n ≡ false) at (fails 0 (omega arith)))
    ∙ first_found test (first + 1) count k (omega (arith, below))
    (λ j before. let later : first + (j + 1) ≡ first + 1 + j = omega arith in subst (λ (n : ℕ). test n ≡ false) later (fails (j + 1) (omega (arith, before))))
    (subst (λ (n : ℕ). test n ≡ true) here passes)
    ∙ ap Some (sym here)

not_true : (b : Bool) → b ≡ true → not b ≡ false
not_true true is = refl
not_true false is = absurd (cc)

not_false : (b : Bool) → b ≡ false → not b ≡ true
not_false true is = absurd (cc)
not_false false is = refl

module _ (value : ℕ → Content) where
  fine : (block : ℕ) → application_judged value block ≡ Ok tt → is_application (value (application_number block)) ≡ true
  fine block is = elim (cases_Bool (is_application (value (application_number block)))) [
    | inl passes ↦ passes
    | inr fails ↦ absurd (let fault = sym (not_chosen (is_application (value (application_number block))) (Ok tt) (damaged_at (first_application + block)) fails) ∙ is in cc)
  ]

  all_fine : ((block : ℕ) → block < applications → application_judged value block ≡ Ok tt) → applications_judged value ≡ Ok tt
  all_fine judged = fine_applications value (λ block below. fine block (judged block below))

  -- The first block at fault is that of all.
  first_fault : (block : ℕ) → block < applications → ((before : ℕ) → before < block → application_judged value before ≡ Ok tt) → is_application (value (application_number block)) ≡ false
      → applications_judged value ≡ application_judged value block
  unfolding applications_judged
  first_fault block below judged fails =
      let test : ℕ → Bool = λ b. not (is_application (value (application_number b))) in
      let at : (k : ℕ) → k ≡ 0 + k = λ k. omega arith in
      ap application_fault
      (first_found test 0 applications block below (λ k before. subst (λ (n : ℕ). test n ≡ false) (at k) (not_true _ (fine k (judged k before)))) (subst (λ (n : ℕ). test n ≡ true) (at block) (not_false _ fails)))
      ∙ ap (λ (n : ℕ). damaged_at (first_application + n)) (sym (at block))
      ∙ sym (not_chosen (is_application (value (application_number block))) (Ok tt) (damaged_at (first_application + block)) fails)

  pub application_fine : (block : ℕ) → ((earlier : ℕ) → earlier < block → application_judged value earlier ≡ Ok tt) → application_judged value block ≡ Ok tt
      → (k : ℕ) → k < block + 1 → application_judged value k ≡ Ok tt
  application_fine block judged here = below_more _ block judged here

  pub application_refused : (c : Config) (block : ℕ) (fault : StartFault) → block < applications → ((earlier : ℕ) → earlier < block → application_judged value earlier ≡ Ok tt)
      → Err fault ≡ as_told c (application_judged value block) → Err fault ≡ as_told c (applications_judged value)
  application_refused c block fault below judged is = elim (cases_Bool (is_application (value (application_number block)))) [
    | inl passes ↦
        let none : application_judged value block ≡ Ok tt = chosen (is_application (value (application_number block))) (Ok tt) (damaged_at (first_application + block)) passes in
        absurd (let no : Err fault ≡ Ok tt = is ∙ ap (as_told c) none in cc)
    | inr fails ↦ is ∙ ap (as_told c) (sym (first_fault block below judged fails))
  ]

  pub all_applications_fine : (end : ℕ) → applications ≤ end → ((block : ℕ) → block < end → application_judged value block ≡ Ok tt) → applications_judged value ≡ Ok tt
  all_applications_fine end all judged = all_fine (λ block below. judged block (omega (arith, all, below)))

module _ (c : Config) (value : ℕ → Content) where
  pub application_pages : (block pages more : ℕ) → pages ≡ beyond_of_applications c value block → more ≡ beyond c value (application_number block)
      → pages + more ≡ beyond_of_applications c value (block + 1)
  unfolding beyond_of_applications
  application_pages block pages more are is =
      let f : ℕ → ℕ = λ k. beyond c value (application_number k) in
      let all : sum_by f (range_with_len 0 (block + 1)) ≡ sum_by f (range_with_len 0 block) + sum_by f ((0 + block) ∷ []) =
      ap (sum_by f) (range_more 0 block) ∙ sum_by-append f (range_with_len 0 block) ((0 + block) ∷ []) in
      let at : 0 + block ≡ block = omega arith in
      let one : sum_by f ((0 + block) ∷ []) ≡ f block = ap (λ (n : ℕ). 0 + f n) at ∙ omega arith in
      omega (arith, are, is, all, one)

  pub part_pages : (id pages more : ℕ) → first_part ≤ id → pages ≡ beyond_of_parts c value (id - first_part) → more ≡ beyond_of_part c value id
      → pages + more ≡ beyond_of_parts c value (id + 1 - first_part)
  unfolding beyond_of_parts
  part_pages id pages more low are is =
      let f : ℕ → ℕ = beyond_of_part c value in
      let count : id - first_part + 1 ≡ id + 1 - first_part = omega (arith, low) in
      let all : sum_by f (range_with_len first_part (id - first_part + 1)) ≡ sum_by f (range_with_len first_part (id - first_part)) + sum_by f ((first_part + (id - first_part)) ∷ []) =
      ap (sum_by f) (range_more first_part (id - first_part)) ∙ sum_by-append f (range_with_len first_part (id - first_part)) ((first_part + (id - first_part)) ∷ []) in
      let at : first_part + (id - first_part) ≡ id = omega (arith, low) in
      let one : sum_by f ((first_part + (id - first_part)) ∷ []) ≡ 0 + f id = ap (λ (n : ℕ). 0 + f n) at in
      let sum : pages + more ≡ sum_by f (range_with_len first_part (id - first_part + 1)) = omega (arith, are, is, all, one) in
      sum ∙ ap (λ (n : ℕ). sum_by f (range_with_len first_part n)) count

  pub no_applications : 0 ≡ beyond_of_applications c value 0
  unfolding beyond_of_applications
  no_applications = refl

  pub no_parts : 0 ≡ beyond_of_parts c value 0
  unfolding beyond_of_parts
  no_parts = refl

  -- The excess is the sum over the mark, the copies of the commit, the parts and the application blocks.
  pub excess_is : excess c value ≡ beyond c value 8 + (beyond c value 16 + beyond c value 17) + beyond_of_parts c value parts + beyond_of_applications c value applications
  unfolding numbers beyond_of_parts beyond_of_applications
  excess_is =
      let f : ℕ → ℕ = beyond c value in
      let pairs = flat_map both_indices (range_with_len first_part parts) in
      let blocks = map application_number (range_with_len 0 40) in
      let whole = sum_by-append f ((8 ∷ 16 ∷ 17 ∷ []) ++ pairs) blocks in
      let front = sum_by-append f (8 ∷ 16 ∷ 17 ∷ []) pairs in
      let pair_sum = both_sum f first_part parts in
      let applications = mapped_sum f application_number 0 40 in
      omega (arith, whole, front, pair_sum, applications)
