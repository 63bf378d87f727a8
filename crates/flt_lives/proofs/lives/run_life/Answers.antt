use Rattle.std.proofs.Common.{◌≢◌, ◌∙◌, [], refl, sym, subst, map, arith, rules}
use Rattle.flt_restore.specs.declared.fault.StartFault.TheVariants as faults
use Rattle.flt_store.specs.Store.{driver_of}
use Rattle.flt_store.specs.Start.{RefusedFor}
use Rattle.flt_step.specs.Part.{parts_of}
use Rattle.flt_life_model.specs.declared.life.Boot.TheVariants as boots
use Rattle.flt_life_model.specs.Actions.{all_arms}
use Rattle.flt_life_model.specs.Chain.{LifeView}
use Rattle.flt_life_model.specs.Lives.{StaysSound, arms_by, view_of}
use Rattle.flt_life_model.specs.Moment.{Moment, moment_of}
use Rattle.flt_life_model.specs.Parts.{own_actions, lanes_in}
use Rattle.flt_life_model.specs.Played.{dark_answer, dark_answers}
use Rattle.flt_life_model.specs.Going.{WereGiven}
use Rattle.flt_lives.specs.Lives.{IsLivedThrough}
use Rattle.flt_lives.proofs.Deeds.{keeps_from_boot}
use Rattle.flt_life_model.proofs.Giving.{none_since}
use Rattle.flt_life_model.proofs.Riding.{goes_nowhere}
use Rattle.flt_lives.proofs.Rooms.{possible_own, possible_lanes}
use Rattle.flt_lives.proofs.Starting.{adds_life, if_ok, keeps, refuses, stays_by_keeping, lived_refused, lived_started, lived_dark}
use Rattle.flt_lives.proofs.Beginning.{none_begun, one_begun}
use Rattle.flt_lives.proofs.lives.run_life.Goals as goal

pub dark_life-life-requires-clause-possible : goal.dark_life-life-requires-clause-possible
dark_life-life-requires-clause-possible g c = possible_own c.args.config.now (parts_of c.args.parts.now) c.requires.fit.possible

pub dark_life-life-requires-clause-steps : goal.dark_life-life-requires-clause-steps
dark_life-life-requires-clause-steps g c = possible_lanes c.args.config.now (parts_of c.args.parts.now) c.requires.fit.possible

pub live-requires-clause-fit : goal.live-requires-clause-fit
live-requires-clause-fit g c =
    let fit = c.requires.fit in
    let most = fit.arms in
    let powered = c.power_up.ensures.powers_up.bench.armed in
    let started = c.start_up.ensures.driver.calls.bench.armed in
    record { possible = fit.possible; few = fit.few; numbers = fit.numbers; indices = fit.indices; arms = omega (arith, most, powered, started) }

pub returns-in_err-room-clause-stays_sound : goal.returns-in_err-room-clause-stays_sound
returns-in_err-room-clause-stays_sound g c = record { begun = none_begun 1 (driver_of c.args.store.now).device; sound = λ h s sound. (h, s, sound); room = refl }

-- ---- a life that started

pub returns-in-Ok-clause-lived : goal.returns-in-Ok-clause-lived
returns-in-Ok-clause-lived g c =
    let config = c.args.config.now in
    let first = driver_of c.args.store.now in
    let second = driver_of c.power_up.new.self in
    let third = driver_of c.start_up.new.self in
    let last = driver_of c.live.new.store in
    let parts = parts_of c.args.parts.now in
    let powers = c.power_up.ensures.powers_up in
    let started = c.in-Ok.ensures.started in
    let follows = c.start_up.ensures.driver.calls in
    let stays = c.live.ensures.stays in
    let powered = powers.bench.armed in
    let begun = follows.bench.armed in
    let armed = stays.armed in
    if_ok c.live.result (λ lived life. record {
      lived = lived_started config first c.power_up.new.self c.start_up.new.self powers c.in-Ok.generation c.start_up.new.out
          last (view_of parts lived.life) started follows stays.keeps_driver life.boot life.leaves (life.caused (moment_of second) follows.counts)
          (keeps_from_boot config (moment_of second) (moment_of third) (moment_of last) (view_of parts lived.life) started.running.served.valid_config.valid c.requires.fit.possible
          c.start_up.ensures.driver.applications life.kept);
      played = life.played;
      arms_made = subst (λ b. WereGiven (arms_by parts b) first.device.bench.arms last.device.bench.arms) (sym life.boot)
          (subst (λ a. WereGiven (all_arms (own_actions parts)) a last.device.bench.arms) (follows.bench.arms ∙ powers.bench.arms) life.arms_made);
      adds = adds_life first second powers third last follows stays.keeps_driver;
      armed = omega (arith, powered, begun, armed);
    }) c.live.ensures.lived

pub returns-in-Ok-clause-stays_sound : goal.returns-in-Ok-clause-stays_sound
returns-in-Ok-clause-stays_sound g c =
    let alive = c.live.ensures.stays.alive in
    let adds = adds_life (driver_of c.args.store.now) (driver_of c.power_up.new.self) c.power_up.ensures.powers_up (driver_of c.start_up.new.self) (driver_of c.live.new.store)
    c.start_up.ensures.driver.calls c.live.ensures.stays.keeps_driver in
    record {
      begun = one_begun (driver_of c.args.store.now).device (driver_of c.live.new.store).device adds.boots;
      sound = λ h s sound. (alive.held, alive.spare, record { undamaged = g.met.D.Blocks.mounted_is_sound c.live.new.store.nvm.blocks alive.running.served.mounted; sound = alive.running.sound });
      room = adds.room;
    }

-- ---- a dark life

pub returns-in-Err-Flash-clause-lived : goal.returns-in-Err-Flash-clause-lived
returns-in-Err-Flash-clause-lived g c =
    let config = c.args.config.now in
    let first = driver_of c.args.store.now in
    let second = driver_of c.power_up.new.self in
    let third = driver_of c.start_up.new.self in
    let last = driver_of c.dark_life-life.new.store in
    let parts = parts_of c.args.parts.now in
    let told = map dark_answer (own_actions parts) in
    let lanes = map dark_answers (lanes_in parts) in
    let powers = c.power_up.ensures.powers_up in
    let follows = c.start_up.ensures.driver.calls in
    let dark = c.dark_life-life.ensures in
    let powered = powers.bench.armed in
    let begun = follows.bench.armed in
    let armed = dark.gives.armed in
    let whole : IsLivedThrough config first last (record { parts = parts; boot = boots.Dark; journal = []; queue = []; own = told; lanes = lanes }) = record {
      lived = lived_dark config first c.power_up.new.self c.start_up.new.self powers parts last told lanes
          (subst (RefusedFor config c.power_up.new.self c.start_up.new.self) c.in-Err-Flash.field-0-is c.in-Err-Flash.ensures.causes.refused) follows dark.gives.keeps_driver dark.same
          (keeps config second third follows c.in-Err-Flash.ensures.generations) c.start_up.ensures.driver.applications;
      played = (refl, refl, refl, refl);
      arms_made = subst (λ a. WereGiven (all_arms (own_actions parts)) a last.device.bench.arms) (follows.bench.arms ∙ powers.bench.arms) dark.gives.arms_made;
      adds = adds_life first second powers third last follows dark.gives.keeps_driver;
      armed = omega (arith, powered, begun, armed);
    } in
    subst (λ (v : LifeView). IsLivedThrough config first last v) (sym dark.life) whole

pub returns-in-Err-Flash-clause-stays_sound : goal.returns-in-Err-Flash-clause-stays_sound
returns-in-Err-Flash-clause-stays_sound g c =
    let first = driver_of c.args.store.now in
    let second = driver_of c.power_up.new.self in
    let third = driver_of c.start_up.new.self in
    let powers = c.power_up.ensures.powers_up in
    let follows = c.start_up.ensures.driver.calls in
    let dark = c.dark_life-life.ensures in
    let adds = adds_life first second powers third (driver_of c.dark_life-life.new.store) follows dark.gives.keeps_driver in
    record {
      begun = one_begun first.device (driver_of c.dark_life-life.new.store).device adds.boots;
      sound = subst (λ (m : Moment). StaysSound c.args.config.now (moment_of first) m) (sym dark.same)
          (stays_by_keeping c.args.config.now first second third powers (keeps c.args.config.now second third follows c.in-Err-Flash.ensures.generations));
      room = adds.room;
    }

-- ---- a life that was refused

pub returns-in-Err-clause-lived : goal.returns-in-Err-clause-lived
returns-in-Err-clause-lived g c =
    let config = c.args.config.now in
    let first = driver_of c.args.store.now in
    let second = driver_of c.power_up.new.self in
    let third = driver_of c.start_up.new.self in
    let parts = parts_of c.args.parts.now in
    let powers = c.power_up.ensures.powers_up in
    let follows = c.start_up.ensures.driver.calls in
    let other : c.in-Err.fault ≢ faults.Flash = search rules in
    let powered = powers.bench.armed in
    let begun = follows.bench.armed in
    let whole : IsLivedThrough config first third (record { parts = parts; boot = boots.Refused c.in-Err.fault; journal = []; queue = []; own = []; lanes = [] }) = record {
      lived = lived_refused config first c.power_up.new.self c.start_up.new.self powers parts c.in-Err.fault (refuses c.in-Err.fault other)
          follows c.in-Err.ensures.causes.refused (keeps config second third follows c.in-Err.ensures.generations) c.start_up.ensures.driver.applications;
      played = (refl, refl, refl, refl);
      arms_made = none_since first.device.bench.arms third.device.bench.arms (follows.bench.arms ∙ powers.bench.arms);
      adds = adds_life first second powers third third follows (goes_nowhere third);
      armed = omega (arith, powered, begun);
    } in
    subst (λ (v : LifeView). IsLivedThrough config first third v) (sym (c.refused-life.ensures parts)) whole

pub returns-in-Err-clause-stays_sound : goal.returns-in-Err-clause-stays_sound
returns-in-Err-clause-stays_sound g c =
    let first = driver_of c.args.store.now in
    let second = driver_of c.power_up.new.self in
    let third = driver_of c.start_up.new.self in
    let powers = c.power_up.ensures.powers_up in
    let follows = c.start_up.ensures.driver.calls in
    let adds = adds_life first second powers third third follows (goes_nowhere third) in
    record {
      begun = one_begun first.device third.device adds.boots;
      sound = stays_by_keeping c.args.config.now first second third powers (keeps c.args.config.now second third follows c.in-Err.ensures.generations);
      room = adds.room;
    }
