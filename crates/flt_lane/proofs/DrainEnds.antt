-- How a drain ends: after its 32nd job, or where no job waits.
use Rattle.std.proofs.Common.{◌≡◌, ℕ, ◌<◌, ◌+◌, ◌*◌, List, ◌∷◌, refl, ap, sym, arith}
use Rattle.std.specs.Prelude.{nat_lt}
use Rattle.std.proofs.lemmas.Bool.{lt-ltb, le-ltb}
use Rattle.flt_flash.specs.declared.blocks.Blocks.{Ghosts}
use Rattle.flt_config.specs.declared.config.Config.{Config}
use Rattle.flt_step.specs.declared.step.Step.TheVariants as steps
use Rattle.flt_shared.specs.Call.{Seat}
use Rattle.flt_store.specs.declared.store.Store.{Store}
use Rattle.flt_life_model.specs.Ordered.{Deed}
use Rattle.flt_life_model.specs.declared.answer.StepAnswer.TheVariants as answers
use Rattle.flt_lane.specs.Draining.{DrainsOn, FindsNone, HasDrained}
use Rattle.flt_lane.specs.Living.{Carries, drains_by, last_take}
use Rattle.flt_lane.specs.Runs.{QueueSeat}
use Rattle.flt_lane.specs.Stored.{LeavesStore}
use Rattle.flt_lane.proofs.Carrying.{carries_drained}
use Rattle.flt_lane.proofs.Drains.{drains_further}
use Rattle.flt_lane.proofs.Leaving.{leaves_further}

calls_full : (written failed : ℕ) → written + failed ≡ 32 → 2 * 32 ≡ drains_by (answers.Drained written failed)
calls_full written failed all =
    let none : last_take (nat_lt (written + failed) 32) ≡ 0 = ap last_take (le-ltb (written + failed) 32 (omega (arith, all))) in
    omega (arith, none, all)

calls_short : (written failed count : ℕ) → written + failed ≡ count → count < 32 → 2 * count + 1 ≡ drains_by (answers.Drained written failed)
calls_short written failed count all few =
    let one : last_take (nat_lt (written + failed) 32) ≡ 1 = ap last_take (lt-ltb (written + failed) 32 (omega (arith, all, few))) in
    omega (arith, one, all)

module _ {B : Type 0} {b : Ghosts B} (c : Config) (dem : Seat) (earlier : List Deed) where
  pub full_carries : (before after : QueueSeat) (written failed : ℕ) (store now : Store B b) → HasDrained c before after written failed 32 store now
      → Carries c dem dem before after earlier ((steps.Drain, answers.Drained written failed) ∷ earlier) store now
  full_carries before after written failed store now drained =
      carries_drained c dem before after earlier written failed (2 * 32) 32 store now drained.drains (calls_full written failed drained.all) (sym drained.all)

  pub short_carries : (before mid after : QueueSeat) (written failed count : ℕ) (store middle now : Store B b) → count < 32 → HasDrained c before mid written failed count store middle → FindsNone c mid after middle now
      → Carries c dem dem before after earlier ((steps.Drain, answers.Drained written failed) ∷ earlier) store now
  short_carries before mid after written failed count store middle now few drained none =
      let both : DrainsOn c before after (2 * count + 1) count failed store now =
      drains_further c before mid after (2 * count) 1 count 0 failed 0 (2 * count + 1) count failed store middle now refl (omega arith) (omega arith) drained.drains none.drains in
      carries_drained c dem before after earlier written failed (2 * count + 1) count store now both (calls_short written failed count drained.all few) (sym drained.all)

pub short_leaves : {B : Type 0} {b : Ghosts B} (c : Config) (before mid after : QueueSeat) (written failed count : ℕ) (store middle now : Store B b) → HasDrained c before mid written failed count store middle → FindsNone c mid after middle now → LeavesStore store now
short_leaves c before mid after written failed count store middle now drained none = leaves_further store middle now drained.drains.leaves none.drains.leaves
