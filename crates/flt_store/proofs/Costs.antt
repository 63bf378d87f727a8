-- The costs of writes in a row.
use Rattle.std.proofs.Common.{◌≡◌, inl, inr, ℕ, zero, suc, ◌+◌, ◌*◌, ◌-◌, ◌^◌, ◌≤◌, Bool, true, false, List, [], ◌∷◌, length, Option, Some, None, Result, Ok, refl, sym, ◌∙◌, ap, subst, arith, zero-add}
use Rattle.std.specs.Prelude.{IsFalse, IfSome, IsSomeAnd, sum_by, filter, if◌then◌else◌}
use Rattle.std.specs.List.{range_with_len}
use Rattle.std.proofs.Math.Nat.{add-mul}
use Rattle.std.proofs.lemmas.Bool.{cases_Bool}
use Rattle.std.proofs.lemmas.List.Sums.{sum_by-append}
use Rattle.flt_flash.specs.Content.{Content}
use Rattle.flt_flash.specs.Blocks.{BlocksState, record_pages}
use Rattle.flt_flash.specs.Calls.{Follows, NeverFalls, NoFault, NoErase, switch_cost}
use Rattle.flt_flash.specs.declared.blocks.BlockFault.{BlockFault}
use Rattle.flt_flash.proofs.CallsInARow.{more_calls}
use Rattle.flt_config.specs.declared.config.Config.{Config}
use Rattle.flt_nvm.specs.Tries.{Tries, Changing}
use Rattle.flt_nvm.specs.Leaves.{GivesInAJob, GivesInTwoJobs}
use Rattle.flt_store_model.specs.declared.commit.Commit.{Commit}
use Rattle.flt_store_model.specs.Layout.{first_part, parts, is_used, used_ids}
use Rattle.flt_store_model.specs.Laws.{IsGiven}
use Rattle.flt_store_model.specs.Successor.{is_written}
use Rattle.flt_store_model.proofs.Choices.{chosen, not_chosen, range_more}
use Rattle.flt_store_model.proofs.Pages.{sum_more}
use Rattle.flt_store.specs.Cause.{HasRoom}
use Rattle.flt_store.specs.Cost.{SwitchesWithin, Spends, written_sum}
use Rattle.flt_store.proofs.Successors.{used_of}

-- The operations of a row of calls.
costs_nothing : (count : Option ℕ) → IfSome count (λ made. IsSomeAnd count (λ earlier. made ≤ earlier + 0))
costs_nothing None = tt
costs_nothing (Some count) = omega arith

costs_on : (first second third : Option ℕ) (one two : ℕ) → NeverFalls first second → IfSome second (λ made. IsSomeAnd first (λ earlier. made ≤ earlier + one))
    → IfSome third (λ made. IsSomeAnd second (λ earlier. made ≤ earlier + two)) → IfSome third (λ made. IsSomeAnd first (λ earlier. made ≤ earlier + (one + two)))
costs_on first second None one two told a b = tt
costs_on first None (Some third) one two told a b = absurd b
costs_on None (Some second) (Some third) one two told a b = absurd a
costs_on (Some first) (Some second) (Some third) one two told a b = omega (arith, a, b)

costs_less : (first second : Option ℕ) (one two : ℕ) → one ≤ two → IfSome second (λ made. IsSomeAnd first (λ earlier. made ≤ earlier + one)) → IfSome second (λ made. IsSomeAnd first (λ earlier. made ≤ earlier + two))
costs_less first None one two less a = tt
costs_less None (Some second) one two less a = a
costs_less (Some first) (Some second) one two less a = omega (arith, less, a)

-- No fault in a row is none in each part.
module _ (before middle after : BlocksState) (first : Follows before middle) (then_ : Follows middle after) where
  first_unfailed : NoFault before after → NoFault before middle
  first_unfailed none rose = none (let later = then_.counts in omega (arith, rose, later))

  then_unfailed : NoFault before after → NoFault middle after
  then_unfailed none rose = none (let earlier = first.counts in omega (arith, rose, earlier))

  unerased : (one two three : Option ℕ) → NeverFalls one two → NeverFalls two three → IsSomeAnd one (λ erases. (erases + 2 ^ 32 ≤ 2 ^ 64 - 1) × (three ≡ Some erases))
      → IsSomeAnd one (λ erases. (erases + 2 ^ 32 ≤ 2 ^ 64 - 1) × (two ≡ Some erases)) × IsSomeAnd two (λ erases. (erases + 2 ^ 32 ≤ 2 ^ 64 - 1) × (three ≡ Some erases))
  unerased None two three a b none = absurd none
  unerased (Some one) None three a b none = absurd a
  unerased (Some one) (Some two) None a b none = absurd b
  unerased (Some one) (Some two) (Some three) a b none =
      let last : three ≡ one = same three one none.1 in
      let middle : two ≡ one = omega (arith, a, b, last) in
      ((none.0, ap Some middle), (omega (arith, middle, none.0), ap Some (last ∙ sym middle)))
    where
      same : (x y : ℕ) → Some x ≡ Some y → x ≡ y
      same x y is = cc is

  erases_apart : NoErase before after → NoErase before middle × NoErase middle after
  erases_apart none = unerased before.device.erases middle.device.erases after.device.erases first.erases then_.erases none

  pub spends_more : (most one two limit_one limit_two : ℕ) → IsFalse middle.is_stale → Spends most before middle one limit_one → Spends most middle after two limit_two
      → Spends most before after (one + two) (limit_one + limit_two)
  spends_more most one two limit_one limit_two fresh a b = record {
    at_the_end = λ settled unfailed none. (let apart = erases_apart none in
        costs_on before.device.operations middle.device.operations after.device.operations one two first.operations
        (a.at_the_end settled (first_unfailed unfailed) apart.0) (b.at_the_end fresh (then_unfailed unfailed) apart.1));
    at_most = λ within settled unfailed.
        costs_on before.device.operations middle.device.operations after.device.operations limit_one limit_two first.operations
        (a.at_most within settled (first_unfailed unfailed)) (b.at_most (subst (λ (room : Option ℕ). SwitchesWithin room most) (sym first.room) within) fresh (then_unfailed unfailed));
  }

pub spends_nothing : (most : ℕ) (state : BlocksState) → Spends most state state 0 0
spends_nothing most state = record {
  at_the_end = λ settled unfailed none. costs_nothing state.device.operations;
  at_most = λ within settled unfailed. costs_nothing state.device.operations;
}

pub spends_less : (most : ℕ) (before after : BlocksState) (one two limit_one limit_two : ℕ) → one ≤ two → limit_one ≤ limit_two → Spends most before after one limit_one → Spends most before after two limit_two
spends_less most before after one two limit_one limit_two less lower a = record {
  at_the_end = λ settled unfailed none. costs_less before.device.operations after.device.operations one two less (a.at_the_end settled unfailed none);
  at_most = λ within settled unfailed. costs_less before.device.operations after.device.operations limit_one limit_two lower (a.at_most within settled unfailed);
}

-- Nothing was written yet.
pub spends_start : (most : ℕ) (state : BlocksState) (c : Config) (current : Option Commit) (next : Commit) (pages : ℕ → ℕ) → Spends most state state (written_sum c current next pages 0) (written_sum c current next (λ id. most) 0)
spends_start most state c current next pages = spends_less most state state 0 _ 0 _ (omega arith) (omega arith) (spends_nothing most state)

-- One job.
module _ (number : ℕ) (asked : Content) (size : ℕ) where
  follows_by : (count : ℕ) (before after : BlocksState) (result : Result (Unit {0}) BlockFault) → Tries count (Changing number asked size) before after result → Follows before after
  unfolding Tries
  follows_by zero before after result tries = absurd tries
  follows_by (suc zero) before after result tries = tries.calls.keeps_driver
  follows_by (suc (suc more)) before after result (inl ends) = ends.0.calls.keeps_driver
  follows_by (suc (suc more)) before after result (inr (between, failed, rest)) = more_calls before between after failed.calls.keeps_driver (follows_by (suc more) between after result rest)

  fresh_by : (count : ℕ) (before after : BlocksState) → Tries count (Changing number asked size) before after (Ok tt) → IsFalse after.is_stale
  unfolding Tries
  fresh_by zero before after tries = absurd tries
  fresh_by (suc zero) before after tries = tries.stale
  fresh_by (suc (suc more)) before after (inl ends) = ends.0.stale
  fresh_by (suc (suc more)) before after (inr (between, failed, rest)) = fresh_by (suc more) between after rest

  spends_once : (most : ℕ) → size ≤ 96 → (before after : BlocksState) (result : Result (Unit {0}) BlockFault) → Changing number asked size before after result → Spends most before after (record_pages size) most
  spends_once most short before after result changing = record {
    at_the_end = λ settled unfailed none. changing.costs.at_the_end settled unfailed none;
    at_most = λ within settled unfailed. costs_less before.device.operations after.device.operations (switch_cost before.room size) most (within size short) (changing.costs.at_most settled unfailed);
  }

  -- Where no operation failed there was one try.
  spends_by : (most : ℕ) → size ≤ 96 → (count : ℕ) (before after : BlocksState) (result : Result (Unit {0}) BlockFault) → Tries count (Changing number asked size) before after result
      → Spends most before after (record_pages size) most
  unfolding Tries
  spends_by most short zero before after result tries = absurd tries
  spends_by most short (suc zero) before after result tries = spends_once most short before after result tries
  spends_by most short (suc (suc more)) before after result (inl ends) = spends_once most short before after result ends.0
  spends_by most short (suc (suc more)) before after result (inr (between, failed, rest)) = record {
    at_the_end = λ settled unfailed none. absurd (never unfailed);
    at_most = λ within settled unfailed. absurd (never unfailed);
  }
    where
      never : NoFault before after → ⊥
      never unfailed = first_unfailed before between after failed.calls.keeps_driver (follows_by (suc more) between after result rest) unfailed (failed.calls.flash refl)

  pub job_spends : (most : ℕ) → size ≤ 96 → (before after : BlocksState) (result : Result (Unit {0}) BlockFault) → GivesInAJob number asked size before after result → Spends most before after (record_pages size) most
  job_spends most short before after result job = spends_by most short 3 before after result job

  pub job_follows : (before after : BlocksState) (result : Result (Unit {0}) BlockFault) → GivesInAJob number asked size before after result → Follows before after
  job_follows before after result job = follows_by 3 before after result job

  pub job_fresh : (before after : BlocksState) → GivesInAJob number asked size before after (Ok tt) → IsFalse after.is_stale
  job_fresh before after job = fresh_by 3 before after job

-- The jobs on both copies.
pub jobs_spend : (id : ℕ) (asked : Content) (size most : ℕ) → size ≤ 96 → (before after : BlocksState) (result : Result (Unit {0}) BlockFault) → GivesInTwoJobs id asked size before after result
    → Spends most before after (record_pages size + record_pages size) (most + most)
jobs_spend id asked size most short before after result (inl (one, failed)) =
    spends_less most before after (record_pages size) (record_pages size + record_pages size) most (most + most) (omega arith) (omega arith) (job_spends _ asked size most short before after result one)
jobs_spend id asked size most short before after result (inr (between, one, two)) =
    spends_more before between after (job_follows _ asked size before between (Ok tt) one) (job_follows _ asked size between after result two) most (record_pages size) (record_pages size) most most
    (job_fresh _ asked size before between one) (job_spends _ asked size most short before between (Ok tt) one) (job_spends _ asked size most short between after result two)

-- Sums over the blocks that are written.
module _ (c : Config) (current : Option Commit) (next : Commit) (weight : ℕ → ℕ) where
  abbrev Weighs : ℕ → ℕ
  Weighs id = if is_written c current next id then weight id else 0

  pub one_more : (count : ℕ) → written_sum c current next weight (count + 1) ≡ written_sum c current next weight count + Weighs (first_part + count)
  unfolding written_sum
  one_more count =
      ap (sum_by Weighs) (range_more first_part count) ∙ sum_by-append Weighs (range_with_len first_part count) ((first_part + count) ∷ [])
      ∙ ap (λ (n : ℕ). sum_by Weighs (range_with_len first_part count) + n) (zero-add (Weighs (first_part + count)))

  pub sum_grows : (count more : ℕ) → written_sum c current next weight count ≤ written_sum c current next weight (count + more)
  sum_grows count zero = (let same : written_sum c current next weight (count + 0) ≡ written_sum c current next weight count = ap (written_sum c current next weight) (omega arith) in omega (arith, same))
  sum_grows count (suc more) =
      let earlier = sum_grows count more in
      let step = one_more (count + more) in
      let same : written_sum c current next weight (count + suc more) ≡ written_sum c current next weight (count + more + 1) = ap (written_sum c current next weight) (omega arith) in
      omega (arith, earlier, step, same)

-- One block more.
pub spends_through : (most : ℕ) (before middle after : BlocksState) → Follows before middle → Follows middle after → (c : Config) (current : Option Commit) (next : Commit) (pages : ℕ → ℕ) (id : ℕ) → 3 ≤ id
    → IsFalse middle.is_stale → Spends most before middle (written_sum c current next pages (id - 3)) (written_sum c current next (λ id. most) (id - 3))
    → Spends most middle after (if is_written c current next id then pages id else 0) (if is_written c current next id then most else 0)
    → Spends most before after (written_sum c current next pages (id + 1 - 3)) (written_sum c current next (λ id. most) (id + 1 - 3))
spends_through most before middle after first then_ c current next pages id least fresh earlier here =
    spends_less most before after _ _ _ _ (sum pages) (sum (λ id. most))
    (spends_more before middle after first then_ most (written_sum c current next pages (id - 3)) (if is_written c current next id then pages id else 0) (written_sum c current next (λ id. most) (id - 3))
    (if is_written c current next id then most else 0) fresh earlier here)
  where
    sum : (weight : ℕ → ℕ) → written_sum c current next weight (id - 3) + (if is_written c current next id then weight id else 0) ≤ written_sum c current next weight (id + 1 - 3)
    sum weight =
        let step = one_more c current next weight (id - 3) in
        let count : written_sum c current next weight (id + 1 - 3) ≡ written_sum c current next weight (id - 3 + 1) = (let at : id + 1 - 3 ≡ id - 3 + 1 = omega (arith, least) in ap (written_sum c current next weight) at) in
        let place : (if is_written c current next (3 + (id - 3)) then weight (3 + (id - 3)) else 0) ≡ (if is_written c current next id then weight id else 0) =
        (let at : 3 + (id - 3) ≡ id = omega (arith, least) in ap (λ (n : ℕ). if is_written c current next n then weight n else 0) at) in
        omega (arith, step, count, place)

-- Where the row ended early.
pub spends_to_the_end : (most : ℕ) (before after : BlocksState) (c : Config) (current : Option Commit) (next : Commit) (pages : ℕ → ℕ) (count : ℕ) → count ≤ parts
    → Spends most before after (written_sum c current next pages count) (written_sum c current next (λ id. most) count)
    → Spends most before after (written_sum c current next pages parts) (written_sum c current next (λ id. most) parts)
spends_to_the_end most before after c current next pages count below spends = spends_less most before after _ _ _ _ (grown pages) (grown (λ id. most)) spends
  where
    grown : (weight : ℕ → ℕ) → written_sum c current next weight count ≤ written_sum c current next weight parts
    grown weight =
        let grows = sum_grows c current next weight count (parts - count) in
        let whole : written_sum c current next weight (count + (parts - count)) ≡ written_sum c current next weight parts = ap (written_sum c current next weight) (omega (arith, below)) in
        omega (arith, grows, whole)

-- At most as many blocks are written as are used.
module _ (c : Config) (current : Option Commit) (next : Commit) (most : ℕ) where
  passed : (id : ℕ) (ids : List ℕ) → is_used c id ≡ true → length (filter (is_used c) (id ∷ ids)) ≡ length (filter (is_used c) ids) + 1
  passed id ids used = ap (λ (test : Bool). length (if test then id ∷ filter (is_used c) ids else filter (is_used c) ids)) used ∙ omega arith

  left_out : (id : ℕ) (ids : List ℕ) → is_used c id ≡ false → length (filter (is_used c) (id ∷ ids)) ≡ length (filter (is_used c) ids)
  left_out id ids unused = ap (λ (test : Bool). length (if test then id ∷ filter (is_used c) ids else filter (is_used c) ids)) unused

  weighs_at_most : (id : ℕ) → (if is_written c current next id then most else 0) ≤ most
  weighs_at_most id = elim (cases_Bool (is_written c current next id)) [
    | inl written ↦ (let is = chosen (is_written c current next id) most 0 written in omega (arith, is))
    | inr left ↦ (let is = not_chosen (is_written c current next id) most 0 left in omega (arith, is))
  ]

  weighs_nothing : (id : ℕ) → is_used c id ≡ false → (if is_written c current next id then most else 0) ≡ 0
  weighs_nothing id unused = elim (cases_Bool (is_written c current next id)) [
    | inl written ↦ (let used = used_of c current next id written in absurd (cc (used, unused)))
    | inr left ↦ not_chosen (is_written c current next id) most 0 left
  ]

  weighs_used : (ids : List ℕ) → sum_by (λ id. if is_written c current next id then most else 0) ids ≤ length (filter (is_used c) ids) * most
  weighs_used [] = omega arith
  weighs_used (id ∷ ids) =
      let weigh : ℕ → ℕ = λ id. if is_written c current next id then most else 0 in
      let rest = weighs_used ids in
      let sum = sum_more weigh id ids in
      elim (cases_Bool (is_used c id)) [
        | inl used ↦
            let count = ap (λ (n : ℕ). n * most) (passed id ids used) in
            let times = add-mul (length (filter (is_used c) ids)) 1 most in
            let here = weighs_at_most id in
            omega (arith, rest, sum, count, times, here)
        | inr unused ↦
            let count = ap (λ (n : ℕ). n * most) (left_out id ids unused) in
            let here = weighs_nothing id unused in
            omega (arith, rest, sum, count, here)
      ]

  pub limit_of_used : written_sum c current next (λ id. most) parts ≤ length (used_ids c) * most
  unfolding written_sum used_ids
  limit_of_used = weighs_used (range_with_len first_part parts)

-- A switch and a record within the pages of a sector.
pub switch_within : (c : Config) → IsGiven c → (room : Option ℕ) → HasRoom c room → SwitchesWithin room (2 * c.pages + 4)
switch_within c given None has size short = let pages = given.valid.pages in omega (arith, short, pages.0)
switch_within c given (Some room) has size short = omega (arith, has)
