use Rattle.std.proofs.Common.{◌≡◌, ◌∙◌, inl, ◌+◌, ◌∷◌, ◌++◌, [], refl, reverse, ap, sym, subst, take, drop, length, arith, List}
use Rattle.std.specs.Prelude.{sum_by, All}
use Rattle.std.proofs.lemmas.List.{length-append, take_all}
use Rattle.std.proofs.lemmas.List.Sums.{sum_by-cons}
use Rattle.std.proofs.lemmas.List.Elements.{All-head, All-tail}
use Rattle.flt_step.specs.declared.step.Part.{Part}
use Rattle.flt_step.specs.declared.step.Step.{Step}
use Rattle.flt_step.specs.Part.{PartOf, part_of, parts_of}
use Rattle.flt_life_model.specs.Actions.{IsPossible, action_of, all_arms, arms_of, arm_count}
use Rattle.flt_life_model.specs.Answers.{Told}
use Rattle.flt_life_model.specs.Played.{IsLife}
use Rattle.flt_life_model.specs.Journal.{Journal, calls_of}
use Rattle.flt_life_model.specs.Room.{told_in}
use Rattle.flt_life_model.proofs.Sizes.{own_count}
use Rattle.flt_dcm.specs.Unit.{Stands}
use Rattle.flt_dcm.specs.Whole.{unit_seen}
use Rattle.flt_store_model.specs.Holding.{Generation}
use Rattle.flt_lives.specs.Alone.{IsAlone, actions_in}
use Rattle.flt_life_model.specs.Chain.{start_from}
use Rattle.flt_store.specs.Store.{driver_of}
use Rattle.flt_life_model.specs.Going.{WereGiven}
use Rattle.flt_life_model.specs.SoFar.{IsCaused}
use Rattle.flt_lives.specs.Living.{HasRoomFor, IsLiving, deeds_told, with_answer}
use Rattle.flt_lives.proofs.Deeds.{deeds_told_more}
use Rattle.flt_life_model.proofs.Riding.{goes_further, goes_nowhere}
use Rattle.flt_lives.proofs.Playing.{carried_out, life_more, no_parts}
use Rattle.flt_life_model.proofs.Giving.{given_further, arms_more, none_given}
use Rattle.flt_lives.proofs.Rooms.{left_more, made_more, parts_are, one_of, one_alone}
use Rattle.flt_lives.proofs.plain.take_steps.Goals as goal

pub take_step-requires-clause-step : goal.take_step-requires-clause-step
take_step-requires-clause-step g c =
    let rest = actions_in (drop (c.loop-part.part-index + 1) c.args.parts.now) in
    let left = left_more c.args.parts.now c.loop-part.part-index c.part-item.result c.loop-part-test.true c.part-item.is c.in-One.step c.in-One.is in
    let sum = ap (sum_by arm_count) left ∙ sum_by-cons arm_count (action_of c.in-One.step) rest in
    let armed = c.loop-part.invariant.armed in
    let most = c.requires.arms in
    record {
      possible = All-head (IsPossible c.args.config.now) (action_of c.in-One.step) rest (subst (All (IsPossible c.args.config.now)) left c.loop-part.invariant.possible);
      plain = subst (λ (part : Part). IsAlone (part_of part)) c.in-One.is
          (one_alone c.args.parts.now c.loop-part.part-index c.part-item.result c.loop-part-test.true c.part-item.is c.requires.alone);
      arms = omega (arith, sum, armed, most);
    }

pub take_step-requires-clause-room : goal.take_step-requires-clause-room
take_step-requires-clause-room g c =
    let rest = actions_in (drop (c.loop-part.part-index + 1) c.args.parts.now) in
    let left = left_more c.args.parts.now c.loop-part.part-index c.part-item.result c.loop-part-test.true c.part-item.is c.in-One.step c.in-One.is in
    one_of c.loop-part.account (action_of c.in-One.step) rest (subst (HasRoomFor c.loop-part.account) left c.loop-part.invariant.room)

pub loop-part-preserved : goal.loop-part-preserved
loop-part-preserved g c =
    let parts = c.args.parts.now in
    let config = c.args.config.now in
    let index = c.loop-part.part-index in
    let before = parts_of (take index parts) in
    let step = action_of c.in-One.step in
    let takes = c.take_step.ensures.takes in
    let told = told_in c.loop-part.account.replies in
    let last = takes.last in
    let parts_more = parts_are parts index c.part-item.result c.loop-part-test.true c.part-item.is c.in-One.step c.in-One.is in
    let inv_many = c.loop-part.invariant.many in
    let answered = ap length takes.answers ∙ length-append told (last ∷ []) in
    let count = own_count parts index c.part-item.result c.loop-part-test.true c.part-item.is c.in-One.step c.in-One.is in
    let deeds : deeds_told (parts_of (take (index + 1) parts)) (told_in c.take_step.new.account.replies) ≡ with_answer step last (deeds_told before told) =
    (λ i. deeds_told (parts_more i) (takes.answers i)) ∙ deeds_told_more before told c.in-One.step last inv_many in
    let made = actions_in (take index parts) in
    let rest = actions_in (drop (index + 1) parts) in
    let left = left_more parts index c.part-item.result c.loop-part-test.true c.part-item.is c.in-One.step c.in-One.is in
    let more = made_more parts index c.part-item.result c.loop-part-test.true c.part-item.is c.in-One.step c.in-One.is in
    let sum = ap (sum_by arm_count) left ∙ sum_by-cons arm_count step rest in
    let armed = c.take_step.ensures.gives.armed in
    let was = c.loop-part.invariant.armed in
    let first_arms = (driver_of c.args.store.now).device.bench.arms in
    let last_arms = (driver_of c.take_step.new.store).device.bench.arms in
    let inv = c.loop-part.invariant in
    let earlier = reverse c.loop-part.account.journal.items in
    let living_on = λ (first : Generation) (answered : List Told) (living : IsLiving config first earlier answered (unit_seen c.loop-part.unit) c.loop-part.store).
    subst (λ (journal : Journal). IsLiving config first journal (with_answer step last answered) (unit_seen c.take_step.new.unit) c.take_step.new.store) (sym takes.step.written)
    (takes.step.step.living first earlier answered living) in
    let carried = λ (first : Generation) (stands : Stands (start_from config first.state) (calls_of earlier) (unit_seen c.loop-part.unit)).
    carried_out (start_from config first.state) earlier (reverse c.take_step.new.account.journal.items) step last
    (takes.step.step.answered (start_from config first.state) earlier stands) takes.step.placed takes.step.written in
    record {
      ready = c.take_step.ensures.ready;
      possible = All-tail (IsPossible c.args.config.now) step rest (subst (All (IsPossible c.args.config.now)) left inv.possible);
      room = c.take_step.ensures.room rest (subst (HasRoomFor c.loop-part.account) left inv.room);
      many = omega (arith, answered, inv_many, count);
      taken = record {
        living = λ first living.
            subst (λ (now : List Told). IsLiving config first (reverse c.take_step.new.account.journal.items) now (unit_seen c.take_step.new.unit) c.take_step.new.store) (sym deeds)
            (living_on first (deeds_told before told) (inv.taken.living first living));
        played = λ first living.
            (let start = start_from config first.state in
            subst (λ (l : List (PartOf Step)). IsLife start l (told_in c.take_step.new.account.replies) [] c.take_step.new.account.journal.items []) (sym parts_more)
            (subst (λ (own : List Told). IsLife start (before ++ inl c.in-One.step ∷ []) own [] c.take_step.new.account.journal.items []) (sym takes.answers)
            (life_more start before told [] c.loop-part.account.journal.items c.take_step.new.account.journal.items c.in-One.step last
            (inv.taken.played first living) (carried first (inv.taken.living first living).stands))));
        caused = λ begun caused.
            subst (λ (now : List Told). IsCaused config begun now c.take_step.new.store) (sym deeds) (takes.step.step.caused begun (deeds_told before told) (inv.taken.caused begun caused));
      };
      applications = λ block below. c.take_step.ensures.applications block below ∙ inv.applications block below;
      keeps_driver = goes_further _ _ _ inv.keeps_driver c.take_step.ensures.gives.keeps_driver;
      arms_made = subst (λ arms. WereGiven arms first_arms last_arms) (sym (ap all_arms more ∙ arms_more made step))
          (given_further (all_arms made) (arms_of step) first_arms (driver_of c.loop-part.store).device.bench.arms last_arms inv.arms_made c.take_step.ensures.gives.arms_made);
      armed = omega (arith, sum, armed, was);
    }

pub returns-clause-taken : goal.returns-clause-taken
returns-clause-taken g c =
    rw (take_all c.loop-part.part-index c.args.parts.now c.loop-part-test.false) at c.loop-part.invariant.taken

pub returns-clause-gives : goal.returns-clause-gives
returns-clause-gives g c =
    let armed = c.loop-part.invariant.armed in
    record {
      keeps_driver = c.loop-part.invariant.keeps_driver;
      arms_made = rw (take_all c.loop-part.part-index c.args.parts.now c.loop-part-test.false) at c.loop-part.invariant.arms_made;
      armed = omega (arith, armed);
    }

pub loop-part-init : goal.loop-part-init
loop-part-init g c =
    let no_calls = c.requires.fresh.calls in
    let no_answers = c.requires.fresh.answers in
    record {
      ready = c.requires.ready;
      possible = c.requires.possible;
      room = c.requires.room;
      many = ap length no_answers;
      taken = record {
        living = λ first living.
            subst (λ (journal : Journal). IsLiving c.args.config.now first journal [] (unit_seen c.args.unit.now) c.args.store.now) (sym (ap reverse no_calls)) living;
        played = λ first living.
            subst (λ (told : List Told). IsLife (start_from c.args.config.now first.state) [] told [] c.args.account.now.journal.items []) (sym no_answers)
            (subst (λ (journal : Journal). IsLife (start_from c.args.config.now first.state) [] [] [] journal []) (sym no_calls) (no_parts (start_from c.args.config.now first.state)));
        caused = λ begun caused. caused;
      };
      applications = λ block below. refl;
      keeps_driver = goes_nowhere (driver_of c.args.store.now);
      arms_made = none_given (driver_of c.args.store.now).device.bench.arms;
      armed = omega arith;
    }

pub unreachable-requires : goal.unreachable-requires
unreachable-requires g c =
    let alone = one_alone c.args.parts.now c.loop-part.part-index c.part-item.result c.loop-part-test.true c.part-item.is c.requires.alone in
    let lanes = ap part_of c.in_default.is in
    subst IsAlone lanes alone
