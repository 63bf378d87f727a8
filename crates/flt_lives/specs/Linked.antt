-- Lives of a run so far, with the count of faults at the end of each start-up; all lists begin with the newest.
use Rattle.std.specs.Prelude.{◌≡◌, ℕ, ◌+◌, ◌≤◌, List, [], ◌∷◌, ◌++◌, length, reverse, All, IfSome, IsSomeAnd}
use Rattle.flt_flash.specs.declared.arm.ArmMade.{ArmMade}
use Rattle.flt_flash.specs.declared.blocks.Blocks.{Ghosts}
use Rattle.flt_flash.specs.State.{HasRisenBy, PowerUp}
use Rattle.flt_flash.specs.Blocks.{BlocksState}
use Rattle.flt_config.specs.declared.config.Config.{Config}
use Rattle.flt_store_model.specs.Layout.{numbers}
use Rattle.flt_store.specs.Cause.{HasRoom}
use Rattle.flt_life_model.specs.Moment.{Medium, IsOn, boot_of, moment_at}
use Rattle.flt_life_model.specs.Chain.{LifeView, IsLifeBetween}

-- A driver for the numbers of an image that leaves the configuration its room keeps its blocks as this medium does.
abbrev pub KeepsOn : {B : Type 0} → Ghosts B → Config → Medium → Type 0
KeepsOn {B = B} b c medium = (driver : B) → (b.state driver).numbers ≡ numbers → HasRoom c (b.state driver).room → IsOn medium (b.state driver)

-- An arm that was made in a life with this many boots was made past this count.
pub record IsPast (boots count : ℕ) (arm : ArmMade) : Type 0 where
  -- An arm of this life counts faults that come after that count.
  pub later : arm.boots ≡ boots → HasRisenBy 0 count arm.faults

-- The arms were made past the counts at the ends of the start-ups of their lives.
abbrev pub ArePast : ℕ → List ℕ → List ArmMade → Type 0
ArePast earlier [] made = Unit {0}
ArePast earlier (count ∷ counts) made = All (IsPast (earlier + length counts + 1) count) made × ArePast earlier counts made

-- Lives between their boots, with the count of faults at the end of each start-up.
abbrev pub AreLinkedBy : Config → Medium → PowerUp → List PowerUp → List LifeView → List ℕ → Type 0
AreLinkedBy c medium next [] [] [] = Unit {0}
AreLinkedBy c medium next [] [] (count ∷ counts) = ⊥
AreLinkedBy c medium next [] (life ∷ lives) counts = ⊥
AreLinkedBy c medium next (boot ∷ boots) [] counts = ⊥
AreLinkedBy c medium next (boot ∷ boots) (life ∷ lives) [] = ⊥
AreLinkedBy c medium next (boot ∷ boots) (life ∷ lives) (count ∷ counts) =
    IsLifeBetween c (moment_at medium boot) (moment_at medium next) count life × HasRisenBy 0 count next.faults × (length counts ≡ length boots)
    × AreLinkedBy c medium boot boots lives counts

-- The arms of a run, each made past the count at the end of the start-up of its life, and in one of the lives so far.
pub record MadeInRun (earlier : ℕ) (counts : List ℕ) (before now : List ArmMade) : Type 0 where
  -- The arms that the run made.
  pub made : List ArmMade
  -- They come after those that were there.
  pub is : now ≡ before ++ made
  -- Each counts faults after the start-up of its life.
  pub past : ArePast earlier counts made
  -- Each was made in one of the lives so far.
  pub so_far : All (λ arm. arm.boots ≤ earlier + length counts) made

pub record IsLinkedBy (c : Config) (medium : Medium) (before now : BlocksState) (lives : List LifeView) : Type 0 where
  -- The boots of the lives, the last one first.
  pub boots : List PowerUp
  -- The count of faults at the end of each start-up.
  pub counts : List ℕ
  -- The device has these boots after those that it had.
  pub is : now.device.bench.boots ≡ before.device.bench.boots ++ reverse boots
  -- It has one more for each of them.
  pub many : length now.device.bench.boots ≡ length before.device.bench.boots + length boots
  -- There is one count a boot.
  pub as_many : length counts ≡ length boots
  -- Each life begins with what the one before left.
  pub linked : AreLinkedBy c medium (boot_of now) boots lives counts
  -- Each arm that was made is one of these lives.
  pub arms : IfSome now.device.bench.arms (λ made. IsSomeAnd before.device.bench.arms
      (λ earlier. MadeInRun (length before.device.bench.boots) counts earlier made))
