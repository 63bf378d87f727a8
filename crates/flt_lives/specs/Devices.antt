-- Lives over a device, of whatever kind: what must hold for them to be made, and what they leave.
use Rattle.std.specs.Prelude.{◌≡◌, ℕ, ◌+◌, ◌≤◌, List, [], ◌∷◌, ◌++◌, length, sum_by, All, Option, IfSome, Vec}
use Rattle.flt_flash.specs.State.{FlashState, PowerUp}
use Rattle.flt_flash.specs.Blocks.{DeviceState}
use Rattle.flt_config.specs.declared.config.Config.{Config}
use Rattle.flt_config.specs.Validity.{IsValid}
use Rattle.flt_step.specs.declared.step.Part.{Part}
use Rattle.flt_step.specs.declared.step.Step.{Step}
use Rattle.flt_step.specs.Part.{PartOf, parts_of}
use Rattle.flt_life_model.specs.declared.life.Life.{Life}
use Rattle.flt_life_model.specs.Lives.{ArePlayed, AreEnded, AreGiven, IsLinked, StaysSound, arms_given, lives_seen}
use Rattle.flt_life_model.specs.Moment.{Medium, moment_at, boot_in}
use Rattle.flt_life_model.specs.Parts.{IsPossiblePart, arms_in, steps_in, widths}

-- Lives can be made on a device: it has a boot for each, their parts are possible, and their steps, their parts with the lanes of these,
-- and the arms are few.
pub record CanLiveOn {A : Type 0} (c : Config) (device : DeviceState) (lives : List (Vec Part A)) : Type 0 where
  -- The device has a boot for each life.
  pub boots : length lives ≤ device.bench.boots_left
  -- The steps of all lives are 65,536 at most.
  pub few : sum_by (λ life. sum_by steps_in (parts_of life.items)) lives ≤ 65536
  -- Their parts and lanes are 1,048,577 at most.
  pub small : sum_by (λ life. length life.items + widths (parts_of life.items)) lives ≤ 1048577
  -- Each part is possible.
  pub possible : All (λ life. All (IsPossiblePart c) (parts_of life.items)) lives
  -- The bench has a place for each arm.
  pub arms : device.bench.armed + sum_by (λ life. sum_by arms_in (parts_of life.items)) lives ≤ 64

-- The lives of a script over a device that keeps blocks so, between its boots: the journals of the status machine and of the queue of write
-- jobs have the calls of its steps, in the order of its parts, and each answer is that of its machine at its place, or the store's; none
-- but the last is refused, and else there are as many as asked; they are linked by the boots of the device; and the arms that were given
-- are those of their steps, each in its life.
pub record AreLivedOn (medium : Medium) (c : Config) (before after : DeviceState) (script : List (List (PartOf Step))) (lives : List Life) : Type 0 where
  -- Each life has the calls of its steps in order, and each answer is that of its machine at its place.
  pub played : ArePlayed c (lives_seen script lives)
  -- No life but the last is refused, and else there are as many as asked.
  pub ended : AreEnded (length script) (lives_seen script lives)
  -- Each life begins with what the one before left on the device.
  pub linked : IsLinked c medium before after (lives_seen script lives)
  -- The arms that were given are those of the steps, each in its life.
  pub arms_made : AreGiven (arms_given (length before.bench.boots) (lives_seen script lives)) before.bench.arms after.bench.arms

-- A sound image of a device stays sound.
abbrev pub DeviceStaysSound : Medium → Config → DeviceState → DeviceState → Type 0
DeviceStaysSound medium c before after = StaysSound c (moment_at medium (boot_in before)) (moment_at medium (boot_in after))

-- The first of these power-ups found a device as it was before them; without one it is still so.
abbrev pub BeginsFrom : DeviceState → DeviceState → List PowerUp → Type 0
BeginsFrom before after [] = after ≡ before
BeginsFrom before after (first ∷ later) = first ≡ boot_in before

-- At most this many lives were begun over a device: it has the boots that it had, and one more for each of them; where none was begun, it
-- is as it was.
pub record BeginsLives (most : ℕ) (before after : DeviceState) : Type 0 where
  -- The power-ups of the lives that were begun.
  pub begun : List PowerUp
  -- The device has one more boot for each of them.
  pub boots : after.bench.boots ≡ before.bench.boots ++ begun
  -- They are no more than the limit.
  pub few : length begun ≤ most
  -- Each began with what the device held, and if there was none the device is as it was.
  pub from : BeginsFrom before after begun

-- What the lives of a script leave: the lives, unless memory ran out; and in both cases a boot for each life that was begun, and a sound
-- image where there was one.
pub record LivesOn {A : Type 0} (medium : Medium) (c : Config) (before after : DeviceState) (script : List (List (PartOf Step)))
    (lives : Option (Vec Life A)) : Type 0 where
  -- The lives, if memory was enough, are those of the script.
  pub lived : IfSome lives (λ lives. AreLivedOn medium c before after script lives.items)
  -- In any case each life that was begun has a boot.
  pub begun : BeginsLives (length script) before after
  -- In any case an image that was sound is sound.
  pub sound : DeviceStaysSound medium c before after

-- A device that serves so has room for the blocks of an image under each valid configuration.
abbrev pub ServesAll : (Config → FlashState → Type 0) → FlashState → Type 0
ServesAll serves device = (c : Config) → IsValid c → serves c device
