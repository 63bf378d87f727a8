-- A life of a session that began.
use Rattle.std.proofs.Common.{◌≡◌, ◌∙◌, ℕ, refl, sym, ap, subst, arith}
use Rattle.std.specs.Prelude.{◌≢◌, IsFalse}
use Rattle.flt_config.specs.declared.config.Config.{Config}
use Rattle.flt_config.specs.declared.persist.Persist.{Persist}
use Rattle.flt_config.specs.Durable.{Fits}
use Rattle.flt_flash.specs.Blocks.{BlocksState}
use Rattle.flt_flash.specs.Calls.{Follows, PowersUpDriver}
use Rattle.flt_flash.specs.declared.blocks.Blocks.{Ghosts}
use Rattle.flt_restore.specs.declared.fault.StartFault.{StartFault}
use Rattle.flt_restore.specs.declared.fault.StartFault.TheVariants as faults
use Rattle.flt_store.specs.declared.store.Store.{Store}
use Rattle.flt_store.specs.Start.{RefusedFor, Starts}
use Rattle.flt_store.specs.Store.{driver_of, numbered}
use Rattle.flt_store_model.specs.Holding.{Generation, IsSound, OldOrNew, SameApplications}
use Rattle.flt_life_model.specs.Chain.{Finds, IsLifeBetween}
use Rattle.flt_life_model.specs.Moment.{Moment, moment_of}
use Rattle.flt_life_model.specs.declared.life.Boot.TheVariants.{Started, Dark, Refused}
use Rattle.flt_lives.proofs.Starting.{finds, keeps, refused_is, refuses, same_moment}
use Rattle.flt_life_model.specs.declared.life.Boot.{Boot}
use Rattle.flt_live.specs.Begun.{BeginsOn, IsBegunBy, without_steps}

module _ {B : Type 0} {b : Ghosts B} (c : Config) (first : BlocksState) (before after : Store B b) (powers : PowersUpDriver first (driver_of before)) where
  pub begun_started : (number : ℕ) (state start : Persist) → start ≡ state → Starts c number state before after → Fits c state → IsBegunBy c first (Started number start) after
  begun_started number state start same starts fits =
      subst (λ (s : Persist). IsBegunBy c first (Started number s) after) (sym same) (
        subst (λ (m : Moment). Finds c m (driver_of after).device.faults (numbered number state)) (same_moment first (driver_of before) powers) (finds c before after number state starts),
        subst (λ (m : Moment). IsFalse m.is_spent) (same_moment first (driver_of before) powers) starts.usable,
        fits,
        starts.running,
      )

  module _ (follows : Follows (driver_of before) (driver_of after)) (left : (h s : Generation) → IsSound c (driver_of before).value h s → OldOrNew c (driver_of after).value h s h)
      (same : SameApplications (driver_of before).value (driver_of after).value) where
    pub begun_dark : RefusedFor c before after faults.Flash → IsBegunBy c first Dark after
    begun_dark three =
        subst (λ (m : Moment). IsLifeBetween c m (moment_of (driver_of after)) (driver_of after).device.faults (without_steps Dark)) (same_moment first (driver_of before) powers)
        (three, refl, keeps c (driver_of before) (driver_of after) follows left, same)

    pub begun_refused : (fault : StartFault) → fault ≢ faults.Flash → RefusedFor c before after fault → IsBegunBy c first (Refused fault) after
    begun_refused fault other told =
        subst (λ (m : Moment). IsLifeBetween c m (moment_of (driver_of after)) (driver_of after).device.faults (without_steps (Refused fault))) (same_moment first (driver_of before) powers)
        (refused_is c before after fault (refuses fault other) follows told (keeps c (driver_of before) (driver_of after) follows left), refl, same)

-- On the blocks that were there.
pub begins_by : {B : Type 0} {b : Ghosts B} (c : Config) (first : BlocksState) (before after : Store B b) (boot : Boot) → PowersUpDriver first (driver_of before) → Follows (driver_of before) (driver_of after)
    → SameApplications (driver_of before).value (driver_of after).value → IsBegunBy c first boot after → BeginsOn c first boot after
begins_by c first before after boot powers follows same is =
    let counts = follows.counts in
    let faults = ap (λ (d : BlocksState). d.device.faults) powers.rest in
    record {
      is = is;
      numbers = follows.numbers ∙ ap (λ (d : BlocksState). d.numbers) powers.rest;
      room = follows.room ∙ ap (λ (d : BlocksState). d.room) powers.rest;
      applications = subst (λ (d : BlocksState). SameApplications d.value (driver_of after).value) powers.rest same;
      no_new_damage = λ none. follows.no_new_damage (ap (λ (d : BlocksState). d.damage) powers.rest ∙ none);
      counts = omega (arith, counts, faults);
    }
