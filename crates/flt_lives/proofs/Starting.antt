-- What a start-up finds, and what it leaves where it fails.
use Rattle.std.proofs.Common.{◌≡◌, List, inl, inr, ⊎_elim, ℕ, ◌+◌, [], ◌∷◌, length, Option, Some, None, Result, Ok, refl, sym, ap, subst, arith, ◌∙◌, Err}
use Rattle.std.specs.Prelude.{◌≢◌, IfOk}
use Rattle.std.proofs.lemmas.List.{length-append}
use Rattle.flt_flash.specs.Blocks.{BlocksState}
use Rattle.flt_flash.specs.Calls.{Follows, SameValues, PowersUpDriver}
use Rattle.flt_flash.specs.declared.blocks.Blocks.{Ghosts}
use Rattle.flt_config.specs.declared.config.Config.{Config}
use Rattle.flt_config.specs.declared.persist.Persist.{Persist}
use Rattle.flt_store_model.specs.declared.place.Place.TheVariants.{Page, Block}
use Rattle.flt_store_model.specs.Holding.{Generation, Fault, IsSound, OldOrNew, SameApplications}
use Rattle.flt_restore.specs.Restored.{IsJudged}
use Rattle.flt_restore.specs.declared.fault.StartFault.{StartFault}
use Rattle.flt_restore.specs.declared.fault.StartFault.TheVariants as faults
use Rattle.flt_step.specs.declared.step.Step.{Step}
use Rattle.flt_step.specs.Part.{PartOf}
use Rattle.flt_store.specs.declared.store.Store.{Store}
use Rattle.flt_store.specs.Store.{driver_of, numbered}
use Rattle.flt_store.specs.Start.{Starts, RefusedFor}
use Rattle.flt_life_model.specs.Moment.{Moment, moment_of, boot_of, IsSoundAt}
use Rattle.flt_life_model.specs.Chain.{IsFound, Finds, KeepsSound, Unchanged, IsRefused, IsLifeBetween, IsLifeBegunBy, KeepsApplications, Leaves, LifeView, told_of}
use Rattle.flt_life_model.specs.Lives.{StaysSound}
use Rattle.flt_lives.specs.Living.{IsLived}
use Rattle.flt_life_model.specs.declared.life.Boot.TheVariants.{Started, Dark, Refused}
use Rattle.flt_life_model.specs.declared.life.Boot.{Boot}
use Rattle.flt_flash.specs.State.{HasRisenBy}
use Rattle.flt_life_model.specs.Answers.{Told}
use Rattle.flt_life_model.specs.Causes.{AreCaused}
use Rattle.flt_life_model.specs.Going.{AddsLife, ArmsSince, GoesOn}
use Rattle.flt_life_model.proofs.Riding.{goes_nowhere}

-- A fault that does not make the life dark.
abbrev pub Refuses : StartFault → Type 0
Refuses faults.Flash = ⊥
Refuses _ = Unit {0}

-- So does each fault that is not one of the device.
pub refuses : (fault : StartFault) → fault ≢ faults.Flash → Refuses fault
refuses faults.Flash other = absurd (other refl)
refuses (faults.Damaged place) other = tt
refuses (faults.OtherConfig found wanted) other = tt
refuses faults.SequenceSpent other = tt

damage_kept : (before after : BlocksState) → Follows before after → (damage : Option (ℕ × ℕ)) → before.damage ≡ damage → after.damage ≡ before.damage
damage_kept before after follows None is = follows.no_new_damage is ∙ sym is
damage_kept before after follows (Some place) is = (follows.damage_stays place is).0 ∙ sym is

unchanged : (before after : BlocksState) → Follows before after → SameValues before after → Unchanged (moment_of before) (moment_of after)
unchanged before after follows same = record { value = same; damage = damage_kept before after follows before.damage refl }

pub keeps : (c : Config) (before after : BlocksState) → Follows before after
    → ((h s : Generation) → IsSound c before.value h s → OldOrNew c after.value h s h) → KeepsSound c (moment_of before) (moment_of after)
keeps c before after follows left = λ h s sound. record { undamaged = follows.no_new_damage sound.undamaged; old = left h s sound.sound }

found_of : (c : Config) (before after : BlocksState) (judged : Result Generation Fault) → IsJudged c before after judged → IsFound c (moment_of before) after.device.faults judged
found_of c before after judged = ⊎_elim (λ held. inl held) (λ spare. inr (spare.0, spare.2))

module _ {B : Type 0} {b : Ghosts B} (c : Config) (before after : Store B b) where
  pub finds : (number : ℕ) (state : Persist) → Starts c number state before after → Finds c (moment_of (driver_of before)) (driver_of after).device.faults (numbered number state)
  finds number state starts = record { undamaged = starts.undamaged; found = found_of c (driver_of before) (driver_of after) (Ok (numbered number state)) starts.judged }

  pub refused_is : (fault : StartFault) → Refuses fault → Follows (driver_of before) (driver_of after) → RefusedFor c before after fault
      → KeepsSound c (moment_of (driver_of before)) (moment_of (driver_of after))
      → IsRefused c (moment_of (driver_of before)) (moment_of (driver_of after)) (driver_of after).device.faults fault
  refused_is faults.Flash refuses follows told kept = absurd refuses
  refused_is (faults.Damaged (Page sector page)) refuses follows told kept = (told.0, unchanged (driver_of before) (driver_of after) follows told.2)
  refused_is (faults.Damaged (Block id)) refuses follows told kept =
      (told.0.undamaged, found_of c (driver_of before) (driver_of after) _ told.0.is, unchanged (driver_of before) (driver_of after) follows told.1)
  refused_is (faults.OtherConfig found wanted) refuses follows told kept =
      (told.0.undamaged, found_of c (driver_of before) (driver_of after) _ told.0.is, told.1, unchanged (driver_of before) (driver_of after) follows told.2)
  refused_is faults.SequenceSpent refuses follows told kept =
      ((told.0.0, record { undamaged = told.0.1.undamaged; found = found_of c (driver_of before) (driver_of after) _ told.0.1.is }), kept, told.1)

-- ---- what stays

pub stays_by_keeping : (c : Config) (first : BlocksState) (second third : BlocksState) → PowersUpDriver first second → KeepsSound c (moment_of second) (moment_of third)
    → StaysSound c (moment_of first) (moment_of third)
stays_by_keeping c first second third powers keeps = λ h s sound.
    let same = ap moment_of powers.rest in
    let kept = keeps h s (subst (λ (m : Moment). IsSoundAt c m h s) (sym same) sound) in
    (kept.old.held, kept.old.spare, record { undamaged = kept.undamaged; sound = kept.old.sound })

-- ---- the power-up before it

pub same_moment : (before after : BlocksState) → PowersUpDriver before after → moment_of after ≡ moment_of before
same_moment before after powers = ap moment_of powers.rest

module _ (first second : BlocksState) (powers : PowersUpDriver first second) where
  pub life_arms : (third fourth : BlocksState) → Follows second third → GoesOn third fourth
      → ArmsSince (length first.device.bench.boots + 1) third.device.faults first.device.bench.arms fourth.device.bench.arms
  life_arms third fourth follows goes =
      let boots : length third.device.bench.boots ≡ length first.device.bench.boots + 1 =
      ap length (follows.bench.boots ∙ powers.bench.boots) ∙ length-append first.device.bench.boots (boot_of first ∷ []) in
      let arms : third.device.bench.arms ≡ first.device.bench.arms = follows.bench.arms ∙ powers.bench.arms in
      subst (λ n. ArmsSince n third.device.faults first.device.bench.arms fourth.device.bench.arms) boots
      (subst (λ a. ArmsSince (length third.device.bench.boots) third.device.faults a fourth.device.bench.arms) arms goes.arms)

  -- A power-up, a start-up and the steps after it are one life more.
  pub adds_life : (third fourth : BlocksState) → Follows second third → GoesOn third fourth → AddsLife first fourth
  adds_life third fourth follows goes =
      let on = ap (λ (d : BlocksState). d.device.faults) powers.rest in
      let rose = follows.counts in
      let more = goes.counts in
      record {
        numbers = goes.numbers ∙ follows.numbers ∙ ap (λ (d : BlocksState). d.numbers) powers.rest;
        room = goes.room ∙ follows.room ∙ ap (λ (d : BlocksState). d.room) powers.rest;
        counts = omega (arith, on, rose, more);
        boots = goes.boots ∙ follows.bench.boots ∙ powers.bench.boots;
        boots_left = goes.boots_left ∙ follows.bench.boots_left ∙ powers.bench.boots_left;
      }

module _ {B : Type 0} {b : Ghosts B} (c : Config) (first : BlocksState) (before after : Store B b) (powers : PowersUpDriver first (driver_of before)) where
  pub lived_refused : (parts : List (PartOf Step)) (fault : StartFault) → Refuses fault → Follows (driver_of before) (driver_of after) → RefusedFor c before after fault
      → KeepsSound c (moment_of (driver_of before)) (moment_of (driver_of after)) → SameApplications (driver_of before).value (driver_of after).value
      → IsLived c first (driver_of after) (record { parts = parts; boot = Refused fault; journal = []; queue = []; own = []; lanes = [] })
  lived_refused parts fault refuses follows told kept same = record {
    ended = (driver_of after).device.faults;
    holds = subst (λ (m : Moment). IsLifeBetween c m (moment_of (driver_of after)) (driver_of after).device.faults (record { parts = parts; boot = Refused fault; journal = []; queue = []; own = []; lanes = [] }))
        (same_moment first (driver_of before) powers) (refused_is c before after fault refuses follows told kept, refl, same);
    later = omega arith;
    arms = life_arms first (driver_of before) powers (driver_of after) (driver_of after) follows (goes_nowhere (driver_of after));
  }

  pub lived_started : (number : ℕ) (state : Persist) (last : BlocksState) (life : LifeView) → Starts c number state before after → Follows (driver_of before) (driver_of after)
      → GoesOn (driver_of after) last → life.boot ≡ Started number state → Leaves c (numbered number state) life (moment_of last)
      → AreCaused c (moment_of (driver_of before)) (moment_of last) (told_of life) → KeepsApplications (moment_of (driver_of before)) (moment_of last) life → IsLived c first last life
  lived_started number state last life starts follows goes boot leaves caused kept = record {
    ended = (driver_of after).device.faults;
    holds = subst (λ (m : Moment). IsLifeBetween c m (moment_of last) (driver_of after).device.faults life) (same_moment first (driver_of before) powers)
        (subst (λ (b : Boot). IsLifeBegunBy c (moment_of (driver_of before)) (moment_of last) (driver_of after).device.faults life b) (sym boot)
        (finds c before after number state starts, starts.usable, leaves, caused, kept));
    later = goes.counts;
    arms = life_arms first (driver_of before) powers (driver_of after) last follows goes;
  }

  pub lived_dark : (parts : List (PartOf Step)) (last : BlocksState) (own : List Told) (lanes : List (List Told)) → HasRisenBy 3 (driver_of before).device.faults (driver_of after).device.faults
      → Follows (driver_of before) (driver_of after) → GoesOn (driver_of after) last → moment_of last ≡ moment_of (driver_of after) → KeepsSound c (moment_of (driver_of before)) (moment_of (driver_of after))
      → SameApplications (driver_of before).value (driver_of after).value
      → IsLived c first last (record { parts = parts; boot = Dark; journal = []; queue = []; own = own; lanes = lanes })
  lived_dark parts last own lanes three follows goes same kept applications = record {
    ended = (driver_of after).device.faults;
    holds = subst (λ (m : Moment). IsLifeBetween c m (moment_of last) (driver_of after).device.faults (record { parts = parts; boot = Dark; journal = []; queue = []; own = own; lanes = lanes }))
        (same_moment first (driver_of before) powers) (
          three,
          refl,
          subst (λ (m : Moment). KeepsSound c (moment_of (driver_of before)) m) (sym same) kept,
          subst (λ (m : Moment). SameApplications (driver_of before).value m.value) (sym same) applications,
        );
    later = goes.counts;
    arms = life_arms first (driver_of before) powers (driver_of after) last follows goes;
  }

-- What holds of a result that is there.
pub if_ok : {T E : Type 0} {P Q : T → Type 0} (result : Result T E) → ((t : T) → P t → Q t) → IfOk result P → IfOk result Q
if_ok (Ok t) more p = more t p
if_ok (Err e) more p = tt
