-- What a flash and its bench mean, and what each operation does beside its answer.
use Rattle.std.specs.Prelude.{◌≡◌, ℕ, ◌+◌, ◌-◌, ◌^◌, ◌≤◌, min, Bool, false, List, [], ◌∷◌, ◌++◌, Option, Some, Result, IsTrue, IsErr, OnErr, IfSome, IsSomeAnd, length, ◌<◌, slice_index_or}
use Rattle.flt_flash.specs.Image.{sector_at, ArePages}
use Rattle.flt_flash.specs.declared.arm.Arm.{Arm}
use Rattle.flt_flash.specs.declared.arm.Arm.TheVariants.{Cut, Fault, Mute}
use Rattle.flt_flash.specs.declared.arm.ArmMade.{ArmMade}
use Rattle.flt_flash.specs.declared.flash.FlashFailed.{FlashFailed}

-- The greatest number of a count, at which it stays.
abbrev pub last_count : ℕ
last_count = 2 ^ 64 - 1

-- A count that rose by this many at least, or is at its greatest number.
abbrev pub HasRisenBy : ℕ → ℕ → ℕ → Type 0
HasRisenBy many before after = min (before + many) (2 ^ 64 - 1) ≤ after

-- One more, as far as the count goes.
abbrev pub counted_up : ℕ → ℕ
counted_up before = min (before + 1) (2 ^ 64 - 1)

-- A count as far as it goes.
abbrev pub as_counted : ℕ → ℕ
as_counted count = min count (2 ^ 64 - 1)

-- The erase calls of both sectors.
abbrev pub erases_of : List ℕ → ℕ
erases_of wear = as_counted (slice_index_or wear 0 0) + as_counted (slice_index_or wear 1 0)

-- A power-up: the count of faults and the image at its moment.
pub record PowerUp : Type 0 where
  pub faults : ℕ
  pub image : List (List (List ℕ))

-- What a bench keeps: the boots, the arms made where they are known, and how many arms remain.
pub record BenchState : Type 0 where
  pub boots : List PowerUp
  pub boots_left : ℕ
  pub arms : Option (List ArmMade)
  pub armed : ℕ

-- What a flash means: pages and erase calls by sector, the counts of faults and of operations, its bench.
pub record FlashState : Type 0 where
  pub pages : ℕ
  pub image : List (List (List ℕ))
  pub is_off : Bool
  pub faults : ℕ
  pub operations : ℕ
  pub wear : List ℕ
  pub bench : BenchState

-- The image is two sectors of this many pages of 32 bytes, and the erase calls are counted for both; no count is past its greatest number.
pub record HasShape (state : FlashState) : Type 0 where
  pub most : state.pages < 65536
  pub sectors : length state.image ≡ 2
  pub pages : (sector : ℕ) → sector < 2 → length (sector_at state.image sector) ≡ state.pages
  pub bytes : (sector : ℕ) → sector < 2 → ArePages (sector_at state.image sector)
  pub wear : length state.wear ≡ 2
  pub operations : state.operations ≤ 2 ^ 64 - 1
  pub erases : (sector : ℕ) → sector < 2 → slice_index_or state.wear sector 0 ≤ 2 ^ 64 - 1

-- An operation keeps the boots and the arms made, and adds no arm.
pub record KeepsBench (before after : BenchState) : Type 0 where
  pub boots : after.boots ≡ before.boots
  pub boots_left : after.boots_left ≡ before.boots_left
  pub arms : after.arms ≡ before.arms
  pub armed : after.armed ≤ before.armed

-- One read, program or erase, beside what it answers and does to the image.
pub record Operates {T : Type 0} (before after : FlashState) (result : Result T FlashFailed) : Type 0 where
  pub pages : after.pages ≡ before.pages
  pub counts : HasRisenBy 0 before.faults after.faults
  pub cause : OnErr result (HasRisenBy 1 before.faults after.faults)
  pub fails_while_off : IsTrue before.is_off → IsErr result
  pub stays_off : IsTrue before.is_off → IsTrue after.is_off
  pub stays_while_off : IsTrue before.is_off → after.image ≡ before.image
  pub counts_for_no_arm : IsTrue before.is_off → after.bench ≡ before.bench
  pub operations : after.operations ≡ counted_up before.operations
  pub erases : erases_of before.wear ≤ erases_of after.wear
  pub bench : KeepsBench before.bench after.bench

-- The program or erase of a cut or a fault is one to come.
abbrev pub CanArm : Arm → Type 0
CanArm (Cut after pattern) = 0 < after
CanArm (Fault after pattern) = 0 < after
CanArm (Mute sector page times) = Unit {0}

-- One arm more is made, at this count of faults.
pub record AddsArm (arm : Arm) (faults : ℕ) (before after : BenchState) : Type 0 where
  pub boots : after.boots ≡ before.boots
  pub boots_left : after.boots_left ≡ before.boots_left
  pub arms : IfSome after.arms (λ made. IsSomeAnd before.arms (λ earlier.
      made ≡ earlier ++ record { arm = arm; boots = length before.boots; faults = faults } ∷ []))
  pub armed : after.armed ≤ before.armed + 1

-- The power comes back, at this count of faults and this image.
pub record AddsBoot (faults : ℕ) (image : List (List (List ℕ))) (before after : BenchState) : Type 0 where
  pub boots : after.boots ≡ before.boots ++ record { faults = faults; image = image } ∷ []
  pub boots_left : after.boots_left ≡ before.boots_left - 1
  pub arms : after.arms ≡ before.arms
  pub armed : after.armed ≤ before.armed

-- An arm is made, and nothing else changes.
pub record Arms (arm : Arm) (before after : FlashState) : Type 0 where
  pub bench : AddsArm arm before.faults before.bench after.bench
  pub rest : after ≡ record before { bench = after.bench }

-- The flash is on again, and nothing else changes.
pub record PowersUp (before after : FlashState) : Type 0 where
  pub bench : AddsBoot before.faults before.image before.bench after.bench
  pub rest : after ≡ record before { is_off = false; bench = after.bench }

-- A flash that was just made of these two sectors, whose power may come back this often.
abbrev pub first_state : ℕ → List (List ℕ) → List (List ℕ) → ℕ → FlashState
first_state pages first second boots = record {
  pages = pages;
  image = first ∷ second ∷ [];
  is_off = false;
  faults = 0;
  operations = 0;
  wear = 0 ∷ 0 ∷ [];
  bench = record { boots = []; boots_left = boots; arms = Some []; armed = 0 };
}

-- Any number of operations of one call or several.
pub record MakesOperations (before after : FlashState) : Type 0 where
  pub pages : after.pages ≡ before.pages
  pub counts : HasRisenBy 0 before.faults after.faults
  pub operations : HasRisenBy 0 before.operations after.operations
  pub erases : erases_of before.wear ≤ erases_of after.wear
  pub stays_off : IsTrue before.is_off → IsTrue after.is_off
  pub stays_while_off : IsTrue before.is_off → after.image ≡ before.image
  pub counts_for_no_arm : IsTrue before.is_off → after.bench ≡ before.bench
  pub bench : KeepsBench before.bench after.bench

-- Reads alone, which change no bit.
pub record OnlyReads (before after : FlashState) : Type 0 where
  pub runs : MakesOperations before after
  pub image : after.image ≡ before.image
  pub wear : after.wear ≡ before.wear
