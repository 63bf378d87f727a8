use Rattle.std.proofs.Common.{◌≡◌, ◌+◌, ◌≤◌, length, take, drop}
use Rattle.std.specs.Prelude.{sum_by, All}
use Rattle.flt_store_model.specs.Holding.{SameApplications}
use Rattle.flt_store.specs.Store.{driver_of}
use Rattle.flt_step.specs.Part.{parts_of}
use Rattle.flt_life_model.specs.Actions.{all_arms, arm_count, IsPossible}
use Rattle.flt_life_model.specs.Parts.{own_steps}
use Rattle.flt_life_model.specs.Room.{told_in}
use Rattle.flt_life_model.specs.Going.{GoesOn, WereGiven}
use Rattle.flt_lives.specs.Alone.{actions_in}
use Rattle.flt_lives.specs.Living.{HasRoomFor}
use Rattle.flt_lives.specs.Steps.{AreOnTheirWay, HasTakenSteps}
use Rattle.flt_lives.proofs.plain.take_steps.Given as goal

abbrev pub invariant-loop-part : goal.invariant-loop-part
invariant-loop-part g l = record {
  ready : AreOnTheirWay l.config l.unit l.store;
  possible : All (IsPossible l.config) (actions_in (drop l.part-index l.parts));
  room : HasRoomFor l.account (actions_in (drop l.part-index l.parts));
  many : length (told_in l.account.replies) ≡ length (own_steps (parts_of (take l.part-index l.parts)));
  taken : HasTakenSteps l.config (parts_of (take l.part-index l.parts)) l.fn.unit l.unit l.fn.store l.store l.account;
  applications : SameApplications (driver_of l.fn.store).value (driver_of l.store).value;
  keeps_driver : GoesOn (driver_of l.fn.store) (driver_of l.store);
  arms_made : WereGiven (all_arms (actions_in (take l.part-index l.parts))) (driver_of l.fn.store).device.bench.arms (driver_of l.store).device.bench.arms;
  armed : (driver_of l.store).device.bench.armed + sum_by arm_count (actions_in (drop l.part-index l.parts)) ≤ (driver_of l.fn.store).device.bench.armed + sum_by arm_count (actions_in l.parts);
}
