use Rattle.std.proofs.Common.{[], ◌∙◌, ap, subst, arith, rules}
use Rattle.std.proofs.lemmas.List.{length-map}
use Rattle.flt_flash.specs.declared.blocks.Blocks.{Ghosts}
use Rattle.flt_config.specs.declared.config.Config.{Config}
use Rattle.flt_store_model.specs.Holding.{Generation}
use Rattle.flt_dcm.specs.Unit.{Stands, UnitView}
use Rattle.flt_dcm.specs.Whole.{unit_seen}
use Rattle.flt_store.specs.declared.store.Store.{Store}
use Rattle.flt_store.specs.Store.{numbered, driver_of, IsRunning}
use Rattle.flt_step.specs.Part.{parts_of}
use Rattle.flt_life_model.specs.Actions.{action_of}
use Rattle.flt_life_model.specs.Causes.{AreCaused}
use Rattle.flt_life_model.specs.Chain.{KeepsApplications, LifeView, Leaves, start_from, told_of}
use Rattle.flt_life_model.specs.declared.life.Boot.TheVariants.{Started}
use Rattle.flt_life_model.specs.Moment.{moment_of}
use Rattle.flt_life_model.specs.Parts.{own_steps}
use Rattle.flt_life_model.specs.Played.{IsPlayed}
use Rattle.flt_life_model.specs.Room.{told_in}
use Rattle.flt_life_model.specs.SoFar.{IsCaused}
use Rattle.flt_lives.specs.Living.{IsLiving, deeds_told}
use Rattle.flt_life_model.proofs.Causing.{are_caused}
use Rattle.flt_lives.proofs.Deeds.{alone_got}
use Rattle.flt_life_model.proofs.Keeping.{kept_first}
use Rattle.flt_lives.proofs.Playing.{alone, played_by}
use Rattle.flt_lives.proofs.Rooms.{alone_calls, arms_are, calls_most, possible_alone}
use Rattle.flt_lives.proofs.plain.PlainEngine.live.Goals as goal

pub take_steps-requires-clause-possible : goal.take_steps-requires-clause-possible
take_steps-requires-clause-possible g c = possible_alone c.args.config.now (parts_of c.args.parts.now) c.requires.fit.possible

pub take_steps-requires-clause-ready : goal.take_steps-requires-clause-ready
take_steps-requires-clause-ready g c =
    let config = c.args.config.now in
    let state = c.args.buffers.now.state in
    let stands = subst (λ (k : Config). Stands (start_from k state) [] (unit_seen c.boot.new.self)) c.requires.same c.boot.ensures.stands in
    record {
      same = c.boot.ensures.config ∙ c.requires.same;
      under_way = search rules;
      alive = record { held = _; spare = _; running = c.requires.started.running };
    }

pub take_steps-requires-clause-arms : goal.take_steps-requires-clause-arms
take_steps-requires-clause-arms g c =
    let same = arms_are (parts_of c.args.parts.now) in
    let most = c.requires.fit.arms in
    omega (arith, same, most)

pub take_steps-requires-clause-room : goal.take_steps-requires-clause-room
take_steps-requires-clause-room g c =
    let parts = parts_of c.args.parts.now in
    let calls = alone_calls parts c.requires.can in
    let most = calls_most parts in
    let few = c.requires.fit.few in
    let none = c.in_ok-journal.ensures.len in
    let capacity = c.in_ok-journal.ensures.capacity in
    let count = c.for_parts-calls.ensures.machine in
    let answers = c.requires.room.own_room.answers in
    let responses = c.requires.room.own_room.responses in
    let many = length-map (own_steps parts) action_of in
    record {
      few = omega (arith, none, most, few);
      calls = omega (arith, none, capacity, count, calls);
      answers = omega (arith, answers, many);
      responses = responses;
    }

-- A life begins with the generation that was restored, and none of its steps has failed.
module _ {B : Type 0} {b : Ghosts B} (config : Config) (first : Generation) (store : Store B b) (running : IsRunning config first first store) where
  begins : (unit : UnitView) → Stands (start_from config first.state) [] unit → IsLiving config first [] [] unit store
  begins unit stands = record { stands = stands; held = first; spare = first; running = running; kept = kept_first config first }

  begins_caused : IsCaused config (driver_of store).device.faults [] store
  begins_caused = record {
    held_now = first;
    spare_now = first;
    running = running;
    flash = omega arith;
    jobs = λ unspent. omega arith;
    spent = λ none. absurd none;
    sequence = λ none. absurd none;
  }

pub returns-clause-lived : goal.returns-clause-lived
returns-clause-lived g c =
    let config = c.args.config.now in
    let parts = parts_of c.args.parts.now in
    let state = c.args.buffers.now.state in
    let first = numbered c.args.generation state in
    let account = c.take_steps.new.account in
    let own = told_in account.replies in
    let before = driver_of c.args.store.now in
    let after = moment_of (driver_of c.take_steps.new.store) in
    let taken = c.take_steps.ensures.taken in
    let stands = subst (λ (k : Config). Stands (start_from k state) [] (unit_seen c.boot.new.self)) c.requires.same c.boot.ensures.stands in
    let begun = begins config first c.args.store.now c.requires.started.running (unit_seen c.boot.new.self) stands in
    let living = taken.living first begun in
    let is = c.life_of.ensures parts in
    let none = c.new-queue.ensures.items in
    let none_told = c.requires.room.none_told.0 in
    record {
      boot = ap (λ (view : LifeView). view.boot) is ∙ ap (λ state. Started c.args.generation state) c.twin-start.ensures;
      leaves = alone (λ (view : LifeView). Leaves config first view after) account.journal.items none none_told is
          record {
            held = living.held;
            spare = living.spare;
            last = living.kept.last;
            sound = record { undamaged = g.met.D.Blocks.mounted_is_sound c.take_steps.new.store.nvm.blocks living.running.served.mounted; sound = living.running.sound };
            acknowledged = living.kept.acknowledged;
            held_is = living.kept.held_is;
            spare_is = living.kept.spare_is;
            rising = living.kept.rising;
          };
      caused = λ boot rose. alone (λ (view : LifeView). AreCaused config boot after (told_of view)) account.journal.items none none_told is
          (are_caused config before.device.faults (deeds_told parts own) c.take_steps.new.store boot rose
          (taken.caused before.device.faults (begins_caused config first c.args.store.now c.requires.started.running)));
      played = alone (λ (view : LifeView). IsPlayed config view) account.journal.items none none_told is
          (played_by config parts c.args.generation state c.twin-start.result account.journal.items own c.twin-start.ensures (taken.played first begun));
      kept = alone (λ (view : LifeView). KeepsApplications (moment_of before) after view) account.journal.items none none_told is
          record { held = c.take_steps.ensures.applications; got = alone_got before.value [] parts own [] c.requires.can };
      arms_made = c.take_steps.ensures.gives.arms_made;
    }

pub returns-clause-stays : goal.returns-clause-stays
returns-clause-stays g c =
    let same = arms_are (parts_of c.args.parts.now) in
    let armed = c.take_steps.ensures.gives.armed in
    record { alive = c.take_steps.ensures.ready.alive; keeps_driver = c.take_steps.ensures.gives.keeps_driver; armed = omega (arith, same, armed) }
