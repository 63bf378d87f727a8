-- Worked costs of calls on drivers of blocks, and the wear of two sectors.
use Rattle.std.specs.Prelude.{◌≡◌, ◌≤◌, ◌+◌, ◌↔◌, ◌⊎◌, ℕ, true, false, [], ◌∷◌, replicate, map, Option, Some, None, Ok, Err}
use Rattle.flt_flash.specs.Content.{bytes}
use Rattle.flt_flash.specs.Blocks.{BlocksState}
use Rattle.flt_flash.specs.Calls.{CostsAtMost, MountCosts, ReadCosts, switch_cost}
use Rattle.flt_fee.specs.Costs.{ErasesAtMost, StoreCosts}
use Rattle.flt_fee.specs.Wear.{IsEven}

-- A driver whose device gives these counts of operations and of erases. It is not stale, and its one block 8 has 96 bytes.
abbrev pub counting : Option ℕ → Option ℕ → BlocksState
counting operations erases = record {
  numbers = 8 ∷ [];
  is_stale = false;
  has_mounted = true;
  calls = 0;
  last_failed = None;
  value = λ block. bytes (replicate 96 0);
  damage = None;
  room = Some 10;
  is_spent = false;
  is_stuck = λ block size. false;
  device = record {
    faults = 0;
    image = [];
    operations = operations;
    erases = erases;
    bench = record { boots = []; boots_left = 0; arms = None; armed = 0 };
  };
}

-- This many operations and erases were made.
abbrev pub made : ℕ → ℕ → BlocksState
made operations erases = counting (Some operations) (Some erases)

-- ---- operations and erases

-- Ten operations lead from 100 to 110 at most, and where both counts are known no more than that many are made. A count that was not known
-- before is not known after.
pub record OperationsAtMost : Type 0 where
  pub told : (limit earlier later : ℕ) (before after : BlocksState) → before.device.operations ≡ Some earlier → after.device.operations ≡ Some later
      → CostsAtMost limit before after ↔ (later ≤ earlier + limit)
  pub within : CostsAtMost 10 (made 100 0) (made 110 0)
  pub beyond : CostsAtMost 10 (made 100 0) (made 111 0) → ⊥
  pub untold : CostsAtMost 10 (counting None (Some 0)) (made 0 0) → ⊥

-- The same of erases.
pub record EraseCallsAtMost : Type 0 where
  pub told : (limit earlier later : ℕ) (before after : BlocksState) → before.device.erases ≡ Some earlier → after.device.erases ≡ Some later
      → ErasesAtMost limit before after ↔ (later ≤ earlier + limit)
  pub none : ErasesAtMost 0 (made 0 7) (made 0 7)
  pub not_none : ErasesAtMost 0 (made 0 7) (made 0 8) → ⊥
  pub one : ErasesAtMost 1 (made 0 7) (made 0 8)
  pub not_one : ErasesAtMost 1 (made 0 7) (made 0 9) → ⊥
  pub untold : ErasesAtMost 1 (counting (Some 0) None) (made 0 0) → ⊥

-- A record of up to 128 bytes takes one write for each 32 bytes of them, and two for its head and its gate. Where the room is limited, a switch
-- comes before it: each page of the room is read and written at most, and four operations come to that, whatever the length.
pub record SwitchCosts : Type 0 where
  pub without : map (switch_cost None) (0 ∷ 1 ∷ 32 ∷ 33 ∷ 96 ∷ 97 ∷ 128 ∷ []) ≡ 2 ∷ 3 ∷ 3 ∷ 4 ∷ 5 ∷ 6 ∷ 6 ∷ []
  pub with_switch : map (switch_cost (Some 10)) (0 ∷ 96 ∷ 128 ∷ []) ≡ 24 ∷ 24 ∷ 24 ∷ []
  pub larger_room : switch_cost (Some 62) 96 ≡ 128

-- A mount takes 15 operations at most where ten pages are left for records: four for the gates, and eleven for the log.
pub record MountsOfDrivers : Type 0 where
  pub within : MountCosts (made 100 0) (made 115 0)
  pub beyond : MountCosts (made 100 0) (made 116 0) → ⊥

-- A read of 96 bytes takes three operations at most.
pub record ReadsOfBytes : Type 0 where
  pub within : ReadCosts (made 100 0) (made 103 0) 8
  pub beyond : ReadCosts (made 100 0) (made 104 0) 8 → ⊥

-- A record of 96 bytes after the log takes five operations and no erase. With a switch it takes one erase and 18 operations at most: two
-- gates and the erase, a read and a write of each of the five pages that are copied, and five for the record.
pub record StoresOfBytes : Type 0 where
  pub behind : StoreCosts false (made 100 7) (made 105 7) 96
  pub behind_beyond : StoreCosts false (made 100 7) (made 106 7) 96 → ⊥
  pub behind_erases : StoreCosts false (made 100 7) (made 105 8) 96 → ⊥
  pub switched : StoreCosts true (made 100 7) (made 118 8) 96
  pub switched_beyond : StoreCosts true (made 100 7) (made 119 8) 96 → ⊥
  pub switched_erases : StoreCosts true (made 100 7) (made 118 9) 96 → ⊥

-- ---- wear

-- Whether the sectors wore evenly after this many erases of sector 0 and of sector 1, where this one is the current sector.
abbrev pub IsEvenAt : ℕ → ℕ → ℕ → Type 0
IsEvenAt sector first second = IsEven (Ok (Some (record { sector = sector; sequence = 1 }))) (first ∷ second ∷ [])

-- The current sector was erased as often as the other one, or once more: after 3 and 4 erases it is sector 1, and after 3 and 5 it is neither.
-- Before a sector is valid both were erased as often.
pub record WearIsEven : Type 0 where
  pub first : (first second : ℕ) → IsEvenAt 0 first second ↔ ((first ≡ second) ⊎ (first ≡ second + 1))
  pub second : (first second : ℕ) → IsEvenAt 1 first second ↔ ((second ≡ first) ⊎ (second ≡ first + 1))
  pub once_more : IsEvenAt 1 3 4
  pub once_less : IsEvenAt 0 3 4 → ⊥
  pub twice_more : IsEvenAt 1 3 5 → ⊥
  pub twice_less : IsEvenAt 0 3 5 → ⊥
  pub as_often : IsEvenAt 0 4 4 × IsEvenAt 1 4 4
  pub no_sector : IsEven (Ok None) (4 ∷ 4 ∷ [])
  pub no_sector_uneven : IsEven (Ok None) (4 ∷ 5 ∷ []) → ⊥
  pub faulty : IsEven (Err (0, 2)) (4 ∷ 4 ∷ []) → ⊥
