-- How the two sectors wear, call by call.
use Rattle.std.proofs.Common.{◌≡◌, ◌-◌, ◌<◌, ◌≤◌, ◌^◌, ℕ, zero, suc, List, get_or, set, length, get_or-set_same, get_or-set_other, Option, Some, Result, Ok, Err, refl, sym, subst, arith}
use Rattle.flt_flash.specs.State.{FlashState, HasShape, counted_up}
use Rattle.flt_flash.specs.Blocks.{BlocksState}
use Rattle.flt_flash.specs.Calls.{BlockCalls, NoFault}
use Rattle.flt_flash.specs.declared.blocks.BlockFault.{BlockFault}
use Rattle.flt_flash.specs.declared.blocks.BlockFault.TheVariants.{Flash, Full, SequenceSpent, Damaged}
use Rattle.flt_sector_model.specs.Blocks.{Current, current}
use Rattle.flt_fee.specs.Wear.{IsEven, StaysEven, UnlessFlash}

-- The same current sector, and no erase.
pub even_same : (used : ℕ) (before after : FlashState) → current used after.image ≡ current used before.image → after.wear ≡ before.wear → StaysEven used before after
even_same used before after same wear even = subst (λ (w : List ℕ). IsEven (current used after.image) w) (sym wear) (subst (λ (at : Result (Option Current) (ℕ × ℕ)). IsEven at before.wear) (sym same) even)

-- One call after another.
pub even_on : (used : ℕ) (first second third : FlashState) → StaysEven used first second → StaysEven used second third → StaysEven used first third
even_on used first second third one two even = two (one even)

-- The sectors were switched.
switched_wear : (wear : List ℕ) → length wear ≡ 2 → ((k : ℕ) → k < 2 → get_or wear k 0 ≤ 2 ^ 64 - 1) → (sector sequence next : ℕ) → sector < 2 → IsEven (Ok (Some record { sector = sector; sequence = sequence })) wear
    → IsEven (Ok (Some record { sector = 1 - sector; sequence = next })) (set wear (1 - sector) (counted_up (get_or wear (1 - sector) 0)))
switched_wear wear two most zero sequence next within even =
    let first : get_or (set wear 1 (counted_up (get_or wear 1 0))) 0 0 ≡ get_or wear 0 0 = get_or-set_other wear 1 0 (counted_up (get_or wear 1 0)) 0 (omega arith) in
    let second : get_or (set wear 1 (counted_up (get_or wear 1 0))) 1 0 ≡ counted_up (get_or wear 1 0) = get_or-set_same wear 1 (counted_up (get_or wear 1 0)) 0 (omega (arith, two)) in
    (omega (arith, first, second, even.0, even.1, most 0 (omega arith)), omega (arith, first, second, even.0, even.1))
switched_wear wear two most (suc zero) sequence next within even =
    let first : get_or (set wear 0 (counted_up (get_or wear 0 0))) 0 0 ≡ counted_up (get_or wear 0 0) = get_or-set_same wear 0 (counted_up (get_or wear 0 0)) 0 (omega (arith, two)) in
    let second : get_or (set wear 0 (counted_up (get_or wear 0 0))) 1 0 ≡ get_or wear 1 0 = get_or-set_other wear 0 1 (counted_up (get_or wear 0 0)) 0 (omega arith) in
    (omega (arith, first, second, even.0, even.1, most 1 (omega arith)), omega (arith, first, second, even.0, even.1))
switched_wear wear two most (suc (suc sector)) sequence next within even = absurd (omega arith)

pub even_switched : (used : ℕ) (before after : FlashState) → HasShape before → (sector sequence next : ℕ) → sector < 2 → current used before.image ≡ Ok (Some record { sector = sector; sequence = sequence })
    → current used after.image ≡ Ok (Some record { sector = 1 - sector; sequence = next }) → after.wear ≡ set before.wear (1 - sector) (counted_up (get_or before.wear (1 - sector) 0)) → StaysEven used before after
even_switched used before after shape sector sequence next within was now wear even =
    subst (λ (w : List ℕ). IsEven (current used after.image) w) (sym wear)
    (subst (λ (at : Result (Option Current) (ℕ × ℕ)). IsEven at (set before.wear (1 - sector) (counted_up (get_or before.wear (1 - sector) 0)))) (sym now)
    (switched_wear before.wear shape.wear shape.erases sector sequence next within (subst (λ (at : Result (Option Current) (ℕ × ℕ)). IsEven at before.wear) was even)))

-- A fact of every answer, and of those that no fault of the flash gave.
pub unless_any : {T : Type 0} (result : Result T BlockFault) (fact : Type 0) → fact → UnlessFlash result fact
unless_any (Ok x) fact is = is
unless_any (Err Flash) fact is = tt
unless_any (Err (Full l n)) fact is = is
unless_any (Err SequenceSpent) fact is = is
unless_any (Err (Damaged s p)) fact is = is

pub unless_map : {T : Type 0} (result : Result T BlockFault) (one two : Type 0) → (one → two) → UnlessFlash result one → UnlessFlash result two
unless_map (Ok x) one two on is = on is
unless_map (Err Flash) one two on is = tt
unless_map (Err (Full l n)) one two on is = on is
unless_map (Err SequenceSpent) one two on is = on is
unless_map (Err (Damaged s p)) one two on is = on is

pub unless_fault : {T : Type 0} (before after : BlocksState) (result : Result T BlockFault) (fact : Type 0) → BlockCalls before after result → UnlessFlash result fact → NoFault before after → fact
unless_fault before after (Ok x) fact calls is none = is
unless_fault before after (Err Flash) fact calls is none = absurd (none (calls.flash refl))
unless_fault before after (Err (Full l n)) fact calls is none = is
unless_fault before after (Err SequenceSpent) fact calls is none = is
unless_fault before after (Err (Damaged s p)) fact calls is none = is

-- The used pages follow from the room.
pub used_same : (one two : ℕ) → 4 ≤ one → 4 ≤ two → ◌≡◌ {A = Option ℕ} (Some (one - 2)) (Some (two - 2)) → one ≡ two
used_same one two first second same = (let e : one - 2 ≡ two - 2 = cc same in omega (arith, e, first, second))
