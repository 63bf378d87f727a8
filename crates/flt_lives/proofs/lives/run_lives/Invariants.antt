use Rattle.std.proofs.Common.{◌≡◌, ◌+◌, ◌≤◌, length, drop}
use Rattle.std.specs.Prelude.{sum_by, All, IsFalse}
use Rattle.flt_step.specs.Part.{parts_of}
use Rattle.flt_store.specs.Store.{driver_of}
use Rattle.flt_store.specs.Cause.{HasRoom}
use Rattle.flt_life_model.specs.Parts.{arms_in}
use Rattle.flt_life_model.specs.Chain.{LifeView}
use Rattle.flt_life_model.specs.Lives.{StaysSound, is_refused, lists, lives_seen}
use Rattle.flt_life_model.specs.Moment.{moment_of}
use Rattle.flt_lives.proofs.Following.{AreMadeSoFar}
use Rattle.flt_lives.proofs.lives.run_lives.Given as goal

abbrev pub invariant-loop-parts : goal.invariant-loop-parts
invariant-loop-parts g l = record {
  same : g.E.Engine.machine_config l.engine ≡ l.config;
  room : HasRoom l.config (driver_of l.store).room;
  same_room : (driver_of l.store).room ≡ (driver_of l.fn.store).room;
  boots : length l.lives ≤ (driver_of l.store).device.bench.boots_left + l.parts-index;
  arms : (driver_of l.store).device.bench.armed + sum_by (λ life. sum_by arms_in (parts_of life.items)) (drop l.parts-index l.lives) ≤ 64;
  sound : StaysSound l.config (moment_of (driver_of l.fn.store)) (moment_of (driver_of l.store));
  so_far : AreMadeSoFar l.config l.lives l.parts-index l.fn.store l.store l.lived.items;
  going : All (λ (life : LifeView). IsFalse (is_refused life.boot)) (lives_seen (lists l.lives) l.lived.items);
}
