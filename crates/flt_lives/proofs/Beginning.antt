-- Lives that were begun over a device, one after the other.
use Rattle.std.proofs.Common.{◌≡◌, ℕ, ◌<◌, ◌≤◌, List, [], ◌∷◌, ◌++◌, refl, ap, sym, subst, arith, append_assoc, ◌∙◌}
use Rattle.std.proofs.lemmas.List.{append-nil, length-append}
use Rattle.flt_config.specs.declared.config.Config.{Config}
use Rattle.flt_flash.specs.State.{PowerUp}
use Rattle.flt_flash.specs.Blocks.{BlocksState, DeviceState}
use Rattle.flt_life_model.specs.Lives.{StaysSound}
use Rattle.flt_life_model.specs.Moment.{boot_in, moment_of}
use Rattle.flt_lives.specs.Devices.{BeginsFrom, BeginsLives}
use Rattle.flt_lives.specs.Lives.{LeavesSound}

-- None.
pub none_begun : (most : ℕ) (device : DeviceState) → BeginsLives most device device
none_begun most device = record { begun = []; boots = sym (append-nil device.bench.boots); few = omega arith; from = refl }

-- One.
pub one_begun : (before after : DeviceState) → after.bench.boots ≡ before.bench.boots ++ boot_in before ∷ [] → BeginsLives 1 before after
one_begun before after boots = record { begun = boot_in before ∷ []; boots = boots; few = omega arith; from = refl }

from_further : (first second third : DeviceState) (begun later : List PowerUp) → BeginsFrom first second begun → BeginsFrom second third later → BeginsFrom first third (begun ++ later)
from_further first second third [] later one two = subst (λ d. BeginsFrom d third later) one two
from_further first second third (boot ∷ rest) later one two = one

-- Some, and then one more.
pub begun_next : (few all : ℕ) (first second third : DeviceState) → few < all → BeginsLives few first second → BeginsLives 1 second third → BeginsLives all first third
begun_next few all first second third within one two =
    let most = one.few in let more = two.few in let size = length-append one.begun two.begun in
    record {
      begun = one.begun ++ two.begun;
      boots = two.boots ∙ ap (λ front. front ++ two.begun) one.boots ∙ append_assoc first.bench.boots one.begun two.begun;
      few = omega (arith, most, more, size, within);
      from = from_further first second third one.begun two.begun one.from two.from;
    }

-- No more than that.
pub begun_within : (most all : ℕ) (before after : DeviceState) → most ≤ all → BeginsLives most before after → BeginsLives all before after
begun_within most all before after within begins =
    let few = begins.few in
    record { begun = begins.begun; boots = begins.boots; few = omega (arith, few, within); from = begins.from }

-- The same with the image and the room that they leave.
pub left_next : (c : Config) (first second third : BlocksState) (few all : ℕ) → few < all → BeginsLives few first.device second.device → StaysSound c (moment_of first) (moment_of second)
    → second.room ≡ first.room → LeavesSound c 1 second third → LeavesSound c all first third
left_next c first second third few all within begun sound room left = record {
  begun = begun_next few all first.device second.device third.device within begun left.begun;
  sound = λ h s is. (let one = sound h s is in left.sound one.0 one.1 one.2);
  room = left.room ∙ room;
}
