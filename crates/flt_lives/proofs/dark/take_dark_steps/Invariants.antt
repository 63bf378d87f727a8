use Rattle.std.proofs.Common.{◌≡◌, ◌+◌, ◌≤◌, take, map, length}
use Rattle.std.specs.Prelude.{sum_by, vec_len}
use Rattle.std.specs.Vec.{vec_capacity}
use Rattle.flt_step.specs.Part.{parts_of}
use Rattle.flt_store.specs.Store.{driver_of}
use Rattle.flt_life_model.specs.Answers.{byte_room}
use Rattle.flt_life_model.specs.Actions.{all_arms}
use Rattle.flt_life_model.specs.Moment.{moment_of}
use Rattle.flt_life_model.specs.Parts.{arms_in, own_actions, own_steps}
use Rattle.flt_life_model.specs.Played.{dark_answer}
use Rattle.flt_life_model.specs.Room.{told_in}
use Rattle.flt_life_model.specs.Going.{GoesOn, WereGiven}
use Rattle.flt_lives.proofs.dark.take_dark_steps.Given as goal

abbrev pub invariant-loop-part : goal.invariant-loop-part
invariant-loop-part g l = record {
  answers : told_in l.own ≡ map dark_answer (own_actions (parts_of (take l.part-index l.parts)));
  len : vec_len l.own.answers ≡ vec_len l.fn.own.answers + length (own_steps (parts_of (take l.part-index l.parts)));
  room : vec_capacity l.own.answers ≡ vec_capacity l.fn.own.answers;
  responses : vec_len l.own.responses ≡ vec_len l.fn.own.responses;
  bytes : byte_room l.fn.own.responses ≤ byte_room l.own.responses;
  same : moment_of (driver_of l.store) ≡ moment_of (driver_of l.fn.store);
  keeps_driver : GoesOn (driver_of l.fn.store) (driver_of l.store);
  arms_made : WereGiven (all_arms (own_actions (parts_of (take l.part-index l.parts)))) (driver_of l.fn.store).device.bench.arms (driver_of l.store).device.bench.arms;
  armed : (driver_of l.store).device.bench.armed ≤ (driver_of l.fn.store).device.bench.armed + sum_by arms_in (parts_of (take l.part-index l.parts));
}
