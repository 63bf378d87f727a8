use Rattle.std.proofs.Common.{◌∙◌, ◌+◌, ap, sym, subst, refl, arith, List, ℕ, ◌<◌, ◌≤◌, ◌≡◌, length, get_or}
use Rattle.std.specs.Prelude.{sum_by, All, IsFalse, Vec}
use Rattle.std.proofs.lemmas.List.Elements.{All-nil}
use Rattle.std.proofs.lemmas.List.Sums.{sum_by-drop_more, sum_by_more_le}
use Rattle.flt_step.specs.declared.step.Part.{Part}
use Rattle.flt_step.specs.Part.{parts_of}
use Rattle.flt_store.specs.Store.{driver_of}
use Rattle.flt_store.specs.Cause.{HasRoom}
use Rattle.flt_life_model.specs.declared.life.Life.{Life}
use Rattle.flt_life_model.specs.Parts.{IsPossiblePart, arms_in, steps_in, widths}
use Rattle.flt_life_model.specs.Chain.{LifeView}
use Rattle.flt_life_model.specs.Lives.{is_refused, lists, lives_seen}
use Rattle.flt_life_model.proofs.Giving.{all_given}
use Rattle.flt_lives.proofs.Linking.{linked_of}
use Rattle.flt_lives.proofs.Beginning.{none_begun, begun_within, left_next}
use Rattle.flt_lives.proofs.Following.{none_made, one_made, one_goes, ended_by, ended_all}
use Rattle.flt_lives.proofs.lives.run_lives.Goals as goal

-- One life has no more of anything than all.
one_of_many : {A : Type 0} (script : List (Vec Part A)) (index : ℕ) (item : Vec Part A) → index < length script → item ≡ get_or script index item → (count : List Part → ℕ)
    → count item.items ≤ sum_by (λ (life : Vec Part A). count life.items) script
one_of_many {A} script index item within is count =
    let most = sum_by_more_le (λ (life : Vec Part A). count life.items) script index item within in
    let same = ap (λ (life : Vec Part A). count life.items) is in
    omega (arith, most, same)

pub run_life-requires-clause-fit : goal.run_life-requires-clause-fit
run_life-requires-clause-fit g c =
    let lives = c.args.lives.now in
    let index = c.loop-parts.parts-index in
    let within = c.loop-parts-test.true in
    let steps = one_of_many lives index c.parts-item.result within c.parts-item.is (λ parts. sum_by steps_in (parts_of parts)) in
    let lanes = one_of_many lives index c.parts-item.result within c.parts-item.is (λ parts. length parts + widths (parts_of parts)) in
    let same_steps = ap (λ parts. sum_by steps_in (parts_of parts)) c.deref.ensures.value in
    let same_lanes = ap (λ parts. widths (parts_of parts)) c.deref.ensures.value in
    let same_parts = ap length c.deref.ensures.value in
    let few = c.requires.ready.few in
    let small = c.requires.ready.small in
    let cost = sum_by-drop_more (λ life. sum_by arms_in (parts_of life.items)) lives index c.parts-item.result within in
    let this = ap (λ life. sum_by arms_in (parts_of life.items)) c.parts-item.is in
    let spent = ap (λ parts. sum_by arms_in (parts_of parts)) c.deref.ensures.value in
    let arms = c.loop-parts.invariant.arms in
    record {
      possible = subst (λ (parts : List Part). All (IsPossiblePart c.args.config.now) (parts_of parts)) (sym c.deref.ensures.value)
          (subst (λ life. All (IsPossiblePart c.args.config.now) (parts_of life.items)) (sym c.parts-item.is) (c.requires.ready.possible index c.parts-item.result within));
      few = omega (arith, steps, same_steps, few);
      numbers = omega (arith, lanes, same_lanes, small);
      indices = omega (arith, lanes, same_parts, small);
      arms = omega (arith, cost, this, spent, arms);
    }

pub loop-parts-init : goal.loop-parts-init
loop-parts-init g c = record {
  same = c.requires.same;
  room = c.requires.room;
  same_room = refl;
  boots = (let boots = c.requires.ready.boots in omega (arith, boots));
  arms = c.requires.ready.arms;
  sound = λ h s sound. (h, s, sound);
  so_far = none_made c.args.config.now c.args.lives.now c.args.store.now _ c.in_ok-lived.ensures.items;
  going = subst (λ (items : List Life). All (λ (life : LifeView). IsFalse (is_refused life.boot)) (lives_seen (lists c.args.lives.now) items)) (sym c.in_ok-lived.ensures.items) (All-nil _);
}

pub loop-parts-preserved : goal.loop-parts-preserved
loop-parts-preserved g c =
    let is = c.loop-parts.invariant in
    let whole = c.in_ok-next.ensures.lived in
    let adds = whole.adds in
    let cost = sum_by-drop_more (λ life. sum_by arms_in (parts_of life.items)) c.args.lives.now c.loop-parts.parts-index c.parts-item.result c.loop-parts-test.true in
    let this = ap (λ life. sum_by arms_in (parts_of life.items)) c.parts-item.is in
    let spent = ap (λ parts. sum_by arms_in (parts_of parts)) c.deref.ensures.value in
    let armed = whole.armed in
    let was = is.arms in
    let left = adds.boots_left in
    let boots = is.boots in
    record {
      same = c.in_ok-next.ensures.same;
      room = subst (HasRoom c.args.config.now) (sym adds.room) is.room;
      same_room = adds.room ∙ is.same_room;
      boots = omega (arith, left, boots);
      arms = omega (arith, cost, this, spent, armed, was);
      sound = λ h s sound. (let one = is.sound h s sound in c.run_life.ensures.stays_sound.sound one.0 one.1 one.2);
      so_far = one_made c.args.lives.now c.loop-parts.parts-index c.parts-item.result c.loop-parts-test.true c.parts-item.is c.deref.result.now c.deref.ensures.value
          c.loop-parts.lived.items c.push.new.self.items c.in_ok-next.next.life c.in_ok-push.ensures.items c.args.config.now c.args.store.now c.loop-parts.store c.run_life.new.store is.so_far
          is.room whole c.run_life.ensures.stays_sound.begun;
      going = one_goes c.args.lives.now c.loop-parts.parts-index c.parts-item.result c.loop-parts-test.true c.parts-item.is c.deref.result.now c.deref.ensures.value
          c.loop-parts.lived.items c.push.new.self.items c.in_ok-next.next.life c.in_ok-push.ensures.items is.so_far.many (sym c.is_refused-ends.ensures ∙ c.if-ends.false) is.going;
    }

pub returns-then-ends : goal.returns-then-ends
returns-then-ends g c =
    let is = c.loop-parts.invariant in
    let whole = c.in_ok-next.ensures.lived in
    let adds = whole.adds in
    let made = one_made c.args.lives.now c.loop-parts.parts-index c.parts-item.result c.loop-parts-test.true c.parts-item.is c.deref.result.now c.deref.ensures.value
    c.loop-parts.lived.items c.push.new.self.items c.in_ok-next.next.life c.in_ok-push.ensures.items c.args.config.now c.args.store.now c.loop-parts.store c.run_life.new.store is.so_far
    is.room whole c.run_life.ensures.stays_sound.begun in
    record {
      lived = record {
        linked = λ medium keeps. linked_of c.args.config.now medium (driver_of c.args.store.now) (driver_of c.run_life.new.store) (lives_seen (lists c.args.lives.now) c.push.new.self.items) (made.linked medium keeps);
        played = made.played;
        ended = ended_by c.args.lives.now c.loop-parts.parts-index c.parts-item.result c.loop-parts-test.true c.parts-item.is c.deref.result.now c.deref.ensures.value
            c.loop-parts.lived.items c.push.new.self.items c.in_ok-next.next.life c.in_ok-push.ensures.items is.so_far.many (sym c.is_refused-ends.ensures ∙ c.if-ends.true) is.going;
        arms_made = all_given _ (driver_of c.args.store.now).device.bench.arms (driver_of c.run_life.new.store).device.bench.arms made.arms_made;
      };
      stays_sound = left_next c.args.config.now (driver_of c.args.store.now) (driver_of c.loop-parts.store) (driver_of c.run_life.new.store) c.loop-parts.parts-index (length c.args.lives.now) c.loop-parts-test.true
          is.so_far.begun is.sound is.same_room c.run_life.ensures.stays_sound;
    }

pub returns : goal.returns
returns g c =
    let is = c.loop-parts.invariant in
    let past = c.loop-parts-test.false in
    let within = c.loop-parts.auto.parts-index-end in
    record {
      lived = record {
        linked = λ medium keeps. linked_of c.args.config.now medium (driver_of c.args.store.now) (driver_of c.loop-parts.store) (lives_seen (lists c.args.lives.now) c.loop-parts.lived.items) (is.so_far.linked medium keeps);
        played = is.so_far.played;
        ended = ended_all c.args.lives.now c.loop-parts.parts-index c.loop-parts.lived.items (omega (arith, past, within)) is.so_far.many is.going;
        arms_made = all_given _ (driver_of c.args.store.now).device.bench.arms (driver_of c.loop-parts.store).device.bench.arms is.so_far.arms_made;
      };
      stays_sound = record {
        begun = begun_within c.loop-parts.parts-index (length c.args.lives.now) (driver_of c.args.store.now).device (driver_of c.loop-parts.store).device (omega (arith, within)) is.so_far.begun;
        sound = is.sound;
        room = is.same_room;
      };
    }

pub returns-in_err-lived-clause-stays_sound : goal.returns-in_err-lived-clause-stays_sound
returns-in_err-lived-clause-stays_sound g c = record { begun = none_begun (length c.args.lives.now) (driver_of c.args.store.now).device; sound = λ h s sound. (h, s, sound); room = refl }

pub returns-in_err-next-clause-stays_sound : goal.returns-in_err-next-clause-stays_sound
returns-in_err-next-clause-stays_sound g c =
    let is = c.loop-parts.invariant in
    left_next c.args.config.now (driver_of c.args.store.now) (driver_of c.loop-parts.store) (driver_of c.run_life.new.store) c.loop-parts.parts-index (length c.args.lives.now) c.loop-parts-test.true
    is.so_far.begun is.sound is.same_room c.run_life.ensures.stays_sound

pub returns-in_err-push-clause-stays_sound : goal.returns-in_err-push-clause-stays_sound
returns-in_err-push-clause-stays_sound g c =
    let is = c.loop-parts.invariant in
    left_next c.args.config.now (driver_of c.args.store.now) (driver_of c.loop-parts.store) (driver_of c.run_life.new.store) c.loop-parts.parts-index (length c.args.lives.now) c.loop-parts-test.true
    is.so_far.begun is.sound is.same_room c.run_life.ensures.stays_sound
