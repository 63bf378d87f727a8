-- What steps leave of a driver and its bench.
use Rattle.std.specs.Prelude.{◌≡◌, ℕ, ◌-◌, List, [], ◌∷◌, ◌++◌, length, map, All, Option, IfSome, IsSomeAnd}
use Rattle.flt_flash.specs.declared.arm.Arm.{Arm}
use Rattle.flt_flash.specs.declared.arm.ArmMade.{ArmMade}
use Rattle.flt_flash.specs.State.{HasRisenBy}
use Rattle.flt_flash.specs.Blocks.{BlocksState}
use Rattle.flt_life_model.specs.Moment.{boot_of}

-- An arm of a life with this many boots, made when the count of faults had come to this.
pub record IsMadeIn (boots count : ℕ) (arm : ArmMade) : Type 0 where
  pub life : arm.boots ≡ boots
  pub later : HasRisenBy 0 count arm.faults

-- The arms made since then, where they are known, are of one life and were made past this count.
pub record AddsArms (boots count : ℕ) (earlier made : List ArmMade) : Type 0 where
  pub more : List ArmMade
  pub is : made ≡ earlier ++ more
  pub each : All (IsMadeIn boots count) more

abbrev pub ArmsSince : ℕ → ℕ → Option (List ArmMade) → Option (List ArmMade) → Type 0
ArmsSince boots count before after = IfSome after (λ made. IsSomeAnd before (λ earlier. AddsArms boots count earlier made))

-- Any number of steps of one life.
pub record GoesOn (before after : BlocksState) : Type 0 where
  pub numbers : after.numbers ≡ before.numbers
  pub room : after.room ≡ before.room
  pub counts : HasRisenBy 0 before.device.faults after.device.faults
  pub boots : after.device.bench.boots ≡ before.device.bench.boots
  pub boots_left : after.device.bench.boots_left ≡ before.device.bench.boots_left
  pub arms : ArmsSince (length before.device.bench.boots) before.device.faults before.device.bench.arms after.device.bench.arms

-- The arms that were made between two states of a bench, where they are known, are these by what is seen of each.
pub record AddsGiven {A : Type 0} (of : ArmMade → A) (arms : List A) (earlier made : List ArmMade) : Type 0 where
  pub more : List ArmMade
  pub is : made ≡ earlier ++ more
  pub arms_are : map of more ≡ arms

abbrev pub WereAdded : {A : Type 0} → (ArmMade → A) → List A → Option (List ArmMade) → Option (List ArmMade) → Type 0
WereAdded of arms before after = IfSome after (λ made. IsSomeAnd before (λ earlier. AddsGiven of arms earlier made))

-- These arms were made.
abbrev pub WereGiven : List Arm → Option (List ArmMade) → Option (List ArmMade) → Type 0
WereGiven arms before after = WereAdded (λ a. a.arm) arms before after

-- The same, each with the number of boots in its life.
abbrev pub WereGivenIn : List (ℕ × Arm) → Option (List ArmMade) → Option (List ArmMade) → Type 0
WereGivenIn arms before after = WereAdded (λ a. (a.boots, a.arm)) arms before after

-- What a life leaves of a driver and its bench: one boot more.
pub record AddsLife (before after : BlocksState) : Type 0 where
  pub numbers : after.numbers ≡ before.numbers
  pub room : after.room ≡ before.room
  pub counts : HasRisenBy 0 before.device.faults after.device.faults
  pub boots : after.device.bench.boots ≡ before.device.bench.boots ++ boot_of before ∷ []
  pub boots_left : after.device.bench.boots_left ≡ before.device.bench.boots_left - 1
