-- What a call on a driver that is not stale costs.
use Rattle.std.proofs.Common.{◌≡◌, ⊎_elim, inl, inr, ◌+◌, ◌-◌, ◌^◌, ◌<◌, ◌≤◌, ℕ, zero, suc, Bool, true, false, List, get_or, set, length, get_or-set_same, get_or-set_other, Some, Result, Ok, Err, refl, sym, ◌∙◌, ap, subst, arith}
use Rattle.std.specs.Prelude.{OnOk, not, nat_le}
use Rattle.std.proofs.lemmas.Bool.{leb-true}
use Rattle.flt_flash.specs.State.{FlashState, HasShape, as_counted, erases_of, counted_up}
use Rattle.flt_flash.specs.Blocks.{BlocksState, record_pages, live_pages}
use Rattle.flt_flash.specs.Calls.{BlockCalls, Costs, CostsAtMost, NeverFull, NoFault, NoErase, switch_cost}
use Rattle.flt_flash.specs.declared.blocks.BlockFault.{BlockFault}
use Rattle.flt_flash.specs.declared.blocks.BlockFault.TheVariants.{Flash, Full, SequenceSpent, Damaged}
use Rattle.flt_fee.specs.Costs.{SpendsAtMost, MakesRoom, Stores, UnlessFailed, StoreCosts}
use Rattle.flt_fee.specs.Fee.{state_by}

-- A record that was appended where there was room, or room was made.
pub stored_behind : (used end live size sector : ℕ) (before middle after : FlashState) → MakesRoom used end live size sector before middle → (result : Result (Unit {0}) BlockFault) → NeverFull result
    → OnOk result (SpendsAtMost (record_pages size) middle after) → UnlessFailed result (Stores used end live size sector before after)
stored_behind used end live size sector before middle after room (Ok x) never spends = ⊎_elim
    (λ stays. inr (inl (stays.0, subst (λ (m : FlashState). SpendsAtMost (record_pages size) m after) stays.1 spends)))
    (λ switched. inr (inr (record {
      past = switched.past;
      room = switched.room;
      erases = record { operations = omega (arith, spends.operations, switched.erases.operations); wear = spends.wear ∙ switched.erases.wear };
    }))) room
stored_behind used end live size sector before middle after room (Err Flash) never spends = tt
stored_behind used end live size sector before middle after room (Err (Full l n)) never spends = absurd (never.full l n refl)
stored_behind used end live size sector before middle after room (Err SequenceSpent) never spends = absurd (never.spent refl)
stored_behind used end live size sector before middle after room (Err (Damaged s p)) never spends = tt

-- An erase is one more.
erased : (wear : List ℕ) → length wear ≡ 2 → (sector : ℕ) → sector < 2
    → (erases_of (set wear (1 - sector) (counted_up (get_or wear (1 - sector) 0))) ≡ as_counted (get_or wear sector 0) + as_counted (counted_up (get_or wear (1 - sector) 0)))
    × (erases_of wear ≡ as_counted (get_or wear sector 0) + as_counted (get_or wear (1 - sector) 0))
erased wear two zero within =
    let first : get_or (set wear 1 (counted_up (get_or wear 1 0))) 0 0 ≡ get_or wear 0 0 = get_or-set_other wear 1 0 (counted_up (get_or wear 1 0)) 0 (omega arith) in
    let second : get_or (set wear 1 (counted_up (get_or wear 1 0))) 1 0 ≡ counted_up (get_or wear 1 0) = get_or-set_same wear 1 (counted_up (get_or wear 1 0)) 0 (omega (arith, two)) in
    (λ i. as_counted (first i) + as_counted (second i), refl)
erased wear two (suc zero) within =
    let first : get_or (set wear 0 (counted_up (get_or wear 0 0))) 0 0 ≡ counted_up (get_or wear 0 0) = get_or-set_same wear 0 (counted_up (get_or wear 0 0)) 0 (omega (arith, two)) in
    let second : get_or (set wear 0 (counted_up (get_or wear 0 0))) 1 0 ≡ get_or wear 1 0 = get_or-set_other wear 0 1 (counted_up (get_or wear 0 0)) 0 (omega arith) in
    ((λ i. as_counted (first i) + as_counted (second i)) ∙ turned (as_counted (counted_up (get_or wear 0 0))) (as_counted (get_or wear 1 0)), turned (as_counted (get_or wear 0 0)) (as_counted (get_or wear 1 0)))
  where
    turned : (m n : ℕ) → m + n ≡ n + m
    turned m n = omega arith
erased wear two (suc (suc sector)) within = absurd (omega arith)

erase_counts : (wear : List ℕ) → length wear ≡ 2 → (sector : ℕ) → sector < 2 → erases_of wear + 2 ^ 32 ≤ 2 ^ 64 - 1 → erases_of (set wear (1 - sector) (counted_up (get_or wear (1 - sector) 0))) ≡ erases_of wear + 1
erase_counts wear two sector within small = let sums = erased wear two sector within in omega (arith, sums.0, sums.1, small)

erase_most : (wear : List ℕ) → length wear ≡ 2 → (sector : ℕ) → sector < 2 → erases_of (set wear (1 - sector) (counted_up (get_or wear (1 - sector) 0))) ≤ erases_of wear + 1
erase_most wear two sector within = let sums = erased wear two sector within in omega (arith, sums.0, sums.1)

-- A fact of each answer that no fault and no mount gave.
module _ {T : Type 0} (before after : BlocksState) where
  pub unless : (result : Result T BlockFault) (fact : Type 0) → BlockCalls before after result → before.has_mounted ≡ true → NoFault before after → UnlessFailed result fact → fact
  unless (Ok x) fact calls mounted none is = is
  unless (Err Flash) fact calls mounted none is = absurd (none (calls.flash refl))
  unless (Err (Full l n)) fact calls mounted none is = is
  unless (Err SequenceSpent) fact calls mounted none is = is
  unless (Err (Damaged s p)) fact calls mounted none is = absurd (cc (mounted, (calls.damaged s p refl).1))

module _ (used still_used : ℕ) (numbers still_numbers : List ℕ) (before after : FlashState) (shape : HasShape before) (least : 4 ≤ used) (end live size sector : ℕ) (in_sector : sector < 2) (stores : Stores used end live size sector before after)
    (was_stale had_mounted is_stale has_mounted : Bool) where
  at_most : CostsAtMost (switch_cost (Some (used - 2)) size) (state_by used numbers was_stale had_mounted before) (state_by still_used still_numbers is_stale has_mounted after)
  at_most = ⊎_elim
      (λ same. omega (arith, ap (λ (flash : FlashState). flash.operations) same))
      (λ stored. ⊎_elim (λ behind. omega (arith, behind.0, behind.1.operations, least)) (λ switched. omega (arith, switched.room, switched.erases.operations, least)) stored) stores

  at_the_end : NoErase (state_by used numbers was_stale had_mounted before) (state_by still_used still_numbers is_stale has_mounted after)
      → CostsAtMost (record_pages size) (state_by used numbers was_stale had_mounted before) (state_by still_used still_numbers is_stale has_mounted after)
  at_the_end none = ⊎_elim
      (λ same. omega (arith, ap (λ (flash : FlashState). flash.operations) same))
      (λ stored. ⊎_elim (λ behind. omega (arith, behind.1.operations))
      (λ switched. absurd (let stays : erases_of after.wear ≡ erases_of before.wear = cc none.1 in
      omega (arith, stays, ap erases_of switched.erases.wear, erase_counts before.wear shape.wear sector in_sector none.0))) stored) stores

-- A put by what it stores.
pub put_costs : (used still_used : ℕ) (numbers still_numbers : List ℕ) (before after : FlashState) (shape : HasShape before) → 4 ≤ used → (end live size sector : ℕ) → sector < 2 → (was_stale had_mounted is_stale has_mounted : Bool) (result : Result (Unit {0}) BlockFault)
    → (was_stale ≡ false → had_mounted ≡ true) → BlockCalls (state_by used numbers was_stale had_mounted before) (state_by still_used still_numbers is_stale has_mounted after) result
    → (was_stale ≡ false → UnlessFailed result (Stores used end live size sector before after))
    → Costs (state_by used numbers was_stale had_mounted before) (state_by still_used still_numbers is_stale has_mounted after) size
put_costs used still_used numbers still_numbers before after shape least end live size sector in_sector was_stale had_mounted is_stale has_mounted result mounted calls stores = record {
  at_the_end = λ fresh none. at_the_end used still_used numbers still_numbers before after shape least end live size sector in_sector (stored fresh none) was_stale had_mounted is_stale has_mounted;
  at_most = λ fresh none. at_most used still_used numbers still_numbers before after shape least end live size sector in_sector (stored fresh none) was_stale had_mounted is_stale has_mounted;
}
  where
    stored : was_stale ≡ false → NoFault (state_by used numbers was_stale had_mounted before) (state_by still_used still_numbers is_stale has_mounted after) → Stores used end live size sector before after
    stored fresh none = unless (state_by used numbers was_stale had_mounted before) (state_by still_used still_numbers is_stale has_mounted after) result (Stores used end live size sector before after) calls (mounted fresh) none (stores fresh)

-- A store of a driver that is not stale.
module _ (used still_used : ℕ) (numbers still_numbers : List ℕ) (before after : FlashState) (shape : HasShape before) (end size sector : ℕ) (in_sector : sector < 2)
    (was_stale had_mounted is_stale has_mounted : Bool) (stores : Stores used end (live_pages (state_by used numbers was_stale had_mounted before)) size sector before after)
    (past : Bool) (is : past ≡ not (nat_le (end + record_pages size) used)) where
  fits_if : (test : Bool) → test ≡ nat_le (end + record_pages size) used → past ≡ not test → past ≡ false → end + record_pages size ≤ used
  fits_if true told same none = leb-true (end + record_pages size) used (sym told)
  fits_if false told same none = absurd (cc (same, none))

  pub store_costs : StoreCosts past (state_by used numbers was_stale had_mounted before) (state_by still_used still_numbers is_stale has_mounted after) size
  store_costs = record {
    behind = λ none. (let fits = fits_if (nat_le (end + record_pages size) used) refl is none in ⊎_elim
        (λ same. (omega (arith, ap (λ (flash : FlashState). flash.operations) same), omega (arith, ap (λ (flash : FlashState). erases_of flash.wear) same)))
        (λ stored. ⊎_elim (λ behind. (omega (arith, behind.1.operations), omega (arith, ap erases_of behind.1.wear))) (λ switched. absurd (omega (arith, fits, switched.past))) stored) stores);
    switched = ⊎_elim
        (λ same. (omega (arith, ap (λ (flash : FlashState). flash.operations) same), omega (arith, ap (λ (flash : FlashState). erases_of flash.wear) same)))
        (λ stored. ⊎_elim (λ behind. (omega (arith, behind.1.operations), omega (arith, ap erases_of behind.1.wear)))
        (λ switched. (omega (arith, switched.erases.operations), omega (arith, ap erases_of switched.erases.wear, erase_most before.wear shape.wear sector in_sector))) stored) stores;
  }
