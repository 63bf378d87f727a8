use Rattle.std.proofs.Common.{[], ◌∙◌, length, map, reverse, ap, arith}
use Rattle.std.proofs.lemmas.List.{length-map}
use Rattle.flt_step.specs.Part.{parts_of}
use Rattle.flt_life_model.specs.declared.room.LaneRoom.{LaneRoom}
use Rattle.flt_life_model.specs.declared.life.Boot.TheVariants.{Dark}
use Rattle.flt_life_model.specs.Parts.{own_actions}
use Rattle.flt_life_model.specs.Played.{dark_answer, dark_answers}
use Rattle.flt_life_model.specs.Room.{steps_of, told_in}
use Rattle.flt_life_model.proofs.Sizes.{lanes_count}
use Rattle.flt_lives.proofs.dark.dark_life.Goals as goal

pub take_dark_lanes-requires-clause-room : goal.take_dark_lanes-requires-clause-room
take_dark_lanes-requires-clause-room g c =
    let room = c.requires.room in
    let lanes = ap length room.lanes_are in
    let mapped = length-map c.args.room.lanes.items (λ (l : LaneRoom). l.steps.now) in
    let count = lanes_count (parts_of c.args.parts.now) in
    let most = room.told_room in
    let none = room.none_told.1 in
    omega (arith, lanes, mapped, count, most, none)

pub life_of-requires-clause-room : goal.life_of-requires-clause-room
life_of-requires-clause-room g c =
    let room = c.requires.room in
    let lanes = ap length room.lanes_are in
    let told = ap length c.take_dark_lanes.ensures in
    let told_map = length-map c.take_dark_lanes.new.told.items told_in in
    let dark_map = length-map (steps_of c.args.room.lanes.items) dark_answers in
    let count = lanes_count (parts_of c.args.parts.now) in
    let most = room.replies_room in
    let none = room.no_replies.1 in
    omega (arith, lanes, told, told_map, dark_map, count, most, none)

pub returns-clause-life : goal.returns-clause-life
returns-clause-life g c =
    let parts = parts_of c.args.parts.now in
    c.life_of.ensures parts
    ∙ (λ i. record {
      parts = parts;
      boot = Dark;
      journal = reverse (c.new-journal.ensures.items i);
      queue = reverse (c.new-queue.ensures.items i);
      own = c.take_dark_steps.ensures.answers i;
      lanes = c.take_dark_lanes.ensures i;
    })
    ∙ ap (λ lanes. record { parts = parts; boot = Dark; journal = []; queue = []; own = map dark_answer (own_actions parts); lanes = map dark_answers lanes }) c.requires.room.lanes_are
