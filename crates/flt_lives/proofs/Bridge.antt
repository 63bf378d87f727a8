-- What holds of a driver's blocks holds of the image of its device.
use Rattle.std.proofs.Common.{◌≡◌, List, length, Result, Ok, Err, sym, subst}
use Rattle.std.specs.Prelude.{IfOk, Vec}
use Rattle.std.specs.Result.{result_ok}
use Rattle.std.proofs.lemmas.List.{length-map}
use Rattle.flt_flash.specs.Blocks.{BlocksState, DeviceState}
use Rattle.flt_flash.specs.declared.blocks.Blocks.{Ghosts}
use Rattle.flt_store.specs.Cause.{HasRoom}
use Rattle.flt_store.specs.Store.{driver_of}
use Rattle.flt_store.specs.declared.store.Store.{Store}
use Rattle.flt_config.specs.declared.config.Config.{Config}
use Rattle.flt_step.specs.declared.step.Part.{Part}
use Rattle.flt_step.specs.Part.{parts_of}
use Rattle.flt_life_model.specs.declared.life.Life.{Life}
use Rattle.flt_life_model.specs.Moment.{Moment, Medium, IsOn, IsSoundAt, moment_of}
use Rattle.flt_life_model.specs.Lives.{AreEnded, StaysSound, lists, lives_seen}
use Rattle.flt_lives.specs.Devices.{BeginsLives, DeviceStaysSound, LivesOn}
use Rattle.flt_lives.specs.Linked.{KeepsOn}
use Rattle.flt_lives.specs.Lives.{AreLivedThrough, LeavesSound}
use Rattle.flt_lives.proofs.Linking.{at_moment}

-- A sound image stays one, as the driver's blocks and as its device's image.
sound_on_device : (c : Config) (medium : Medium) (before after : BlocksState) → IsOn medium before → IsOn medium after → StaysSound c (moment_of before) (moment_of after)
    → DeviceStaysSound medium c before.device after.device
sound_on_device c medium before after on on_after stays = λ h s sound.
    let kept = stays h s (subst (λ (m : Moment). IsSoundAt c m h s) (at_moment medium before on) sound) in
    (kept.0, kept.1, subst (λ (m : Moment). IsSoundAt c m kept.0 kept.1) (sym (at_moment medium after on_after)) kept.2)

module _ {A F E : Type 0} (c : Config) (medium : Medium) (script : List (Vec Part A)) where
  left_by : {B : Type 0} (b : Ghosts B) (before after : BlocksState) (made : Result (Vec Life F) E) → KeepsOn b c medium → IfOk made (λ lives. AreLivedThrough b c before after script lives.items)
      → BeginsLives (length script) before.device after.device → DeviceStaysSound medium c before.device after.device → LivesOn medium c before.device after.device (lists script) (result_ok made)
  left_by b before after (Ok lives) keeps whole begun sound =
      let all = sym (length-map script (λ (life : Vec Part A). parts_of life.items)) in
      record {
        lived = record { played = whole.played; ended = subst (λ many. AreEnded many (lives_seen (lists script) lives.items)) all whole.ended; linked = whole.linked medium keeps; arms_made = whole.arms_made };
        begun = subst (λ many. BeginsLives many before.device after.device) all begun;
        sound = sound;
      }
  left_by b before after (Err error) keeps whole begun sound =
      record { lived = tt; begun = subst (λ many. BeginsLives many before.device after.device) (sym (length-map script (λ (life : Vec Part A). parts_of life.items))) begun; sound = sound }

  -- What lives left of a store they left of its device, on a driver that keeps its blocks as its medium does.
  pub left_on_device : (made : Result (Vec Life F) E) {B : Type 0} (b : Ghosts B) (store next : Store B b) → KeepsOn b c medium → HasRoom c (driver_of store).room
      → IfOk made (λ lives. AreLivedThrough b c (driver_of store) (driver_of next) script lives.items) → LeavesSound c (length script) (driver_of store) (driver_of next)
      → (first last : DeviceState) → (driver_of store).device ≡ first → (driver_of next).device ≡ last → LivesOn medium c first last (lists script) (result_ok made)
  left_on_device made b store next keeps room whole left first last is is_after =
      let stays = sound_on_device c medium (driver_of store) (driver_of next) (keeps store.nvm.blocks store.numbers room) (keeps next.nvm.blocks next.numbers (subst (HasRoom c) (sym left.room) room)) left.sound in
      subst (λ (d : DeviceState). LivesOn medium c d last (lists script) (result_ok made)) is
      (subst (λ (d : DeviceState). LivesOn medium c (driver_of store).device d (lists script) (result_ok made)) is_after
      (left_by b (driver_of store) (driver_of next) made keeps whole left.begun stays))
