use Rattle.std.proofs.Common.{◌∙◌, ◌++◌, ◌∷◌, [], map, take, length, ap, sym, subst, arith}
use Rattle.std.specs.Prelude.{sum_by}
use Rattle.std.proofs.lemmas.List.{length-append, map-append, take_all}
use Rattle.std.proofs.lemmas.List.Sums.{sum_by_push}
use Rattle.flt_step.specs.Part.{part_of, parts_of}
use Rattle.flt_store.specs.Store.{driver_of}
use Rattle.flt_life_model.specs.Actions.{IsPossibleArm, all_arms}
use Rattle.flt_life_model.specs.Parts.{arms_in, own_actions, own_steps}
use Rattle.flt_life_model.specs.Played.{dark_answer}
use Rattle.flt_life_model.proofs.Sizes.{parts_more_by, sum_within}
use Rattle.flt_life_model.specs.Going.{WereGiven}
use Rattle.flt_life_model.proofs.Giving.{all_arms-append, given_further}
use Rattle.flt_life_model.proofs.Riding.{goes_further}
use Rattle.flt_lives.proofs.Rooms.{actions_are, own_among, own_steps_within, steps_are}
use Rattle.flt_lives.proofs.dark.take_dark_steps.Goals as goal

pub take_dark_part-requires-clause-possible : goal.take_dark_part-requires-clause-possible
take_dark_part-requires-clause-possible g c = own_among c.args.parts.now c.loop-part.part-index c.part-item.result c.loop-part-test.true c.part-item.is IsPossibleArm c.requires.possible

pub take_dark_part-requires-clause-arms : goal.take_dark_part-requires-clause-arms
take_dark_part-requires-clause-arms g c =
    let within = sum_within c.args.parts.now c.loop-part.part-index c.part-item.result c.loop-part-test.true c.part-item.is arms_in in
    let armed = c.loop-part.invariant.armed in
    let most = c.requires.arms in
    omega (arith, within, armed, most)

pub take_dark_part-requires-clause-room : goal.take_dark_part-requires-clause-room
take_dark_part-requires-clause-room g c =
    let within = own_steps_within c.args.parts.now c.loop-part.part-index c.part-item.result c.loop-part-test.true c.part-item.is in
    let len = c.loop-part.invariant.len in
    let room = c.loop-part.invariant.room in
    let most = c.requires.room.answers in
    omega (arith, within, len, room, most)

pub take_dark_part-requires-clause-bytes : goal.take_dark_part-requires-clause-bytes
take_dark_part-requires-clause-bytes g c =
    let len = c.loop-part.invariant.responses in
    let room = c.loop-part.invariant.bytes in
    let most = c.requires.room.responses in
    omega (arith, len, room, most)

pub loop-part-preserved : goal.loop-part-preserved
loop-part-preserved g c =
    let parts = c.args.parts.now in
    let index = c.loop-part.part-index in
    let front = parts_of (take index parts) in
    let one = part_of c.part-item.result ∷ [] in
    let inv = c.loop-part.invariant in
    let made = c.take_dark_part.ensures in
    let actions = actions_are parts index c.part-item.result c.loop-part-test.true c.part-item.is in
    let steps = ap length (steps_are parts index c.part-item.result c.loop-part-test.true c.part-item.is) ∙ length-append (own_steps front) (own_steps one) in
    let sum = ap (sum_by arms_in) (parts_more_by parts index c.part-item.result c.loop-part-test.true c.part-item.is) ∙ sum_by_push arms_in front (part_of c.part-item.result) in
    let first_arms = (driver_of c.args.store.now).device.bench.arms in
    let last_arms = (driver_of c.take_dark_part.new.store).device.bench.arms in
    let len = made.answers.len in let inv_len = inv.len in let bytes = made.answers.bytes in let inv_bytes = inv.bytes in let armed = made.gives.armed in let inv_armed = inv.armed in
    record {
      answers = made.answers.answers ∙ ap (λ l. l ++ map dark_answer (own_actions one)) inv.answers ∙ sym (ap (map dark_answer) actions ∙ map-append dark_answer (own_actions front) (own_actions one));
      len = omega (arith, steps, len, inv_len);
      room = made.answers.room ∙ inv.room;
      responses = made.answers.responses ∙ inv.responses;
      bytes = omega (arith, bytes, inv_bytes);
      same = made.same ∙ inv.same;
      keeps_driver = goes_further _ _ _ inv.keeps_driver made.gives.keeps_driver;
      arms_made = subst (λ arms. WereGiven arms first_arms last_arms) (sym (ap all_arms actions ∙ all_arms-append (own_actions front) (own_actions one)))
          (given_further (all_arms (own_actions front)) (all_arms (own_actions one)) first_arms (driver_of c.loop-part.store).device.bench.arms last_arms inv.arms_made made.gives.arms_made);
      armed = omega (arith, sum, armed, inv_armed);
    }

pub returns-clause-gives : goal.returns-clause-gives
returns-clause-gives g c =
    let inv = c.loop-part.invariant in
    let all = take_all c.loop-part.part-index c.args.parts.now c.loop-part-test.false in
    record { keeps_driver = inv.keeps_driver; arms_made = rw all at inv.arms_made; armed = rw all at inv.armed }
