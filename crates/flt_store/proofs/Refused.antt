-- Over an image that is damaged or another configuration's no store runs.
use Rattle.std.proofs.Common.{◌≡◌, ⊎_elim, ℕ, Some, None, Ok, Err, sym}
use Rattle.std.specs.Prelude.{IsTrue}
use Rattle.flt_flash.specs.Blocks.{BlocksState}
use Rattle.flt_flash.specs.Calls.{Follows, SameValues}
use Rattle.flt_flash.specs.declared.blocks.Blocks.{Ghosts}
use Rattle.flt_config.specs.declared.config.Config.{Config}
use Rattle.flt_store_model.specs.declared.place.Place.TheVariants.{Page, Block}
use Rattle.flt_store_model.specs.Holding.{Fault, held, spare}
use Rattle.flt_store_model.proofs.ImageLaws.{held_stands, spare_stands}
use Rattle.flt_restore.specs.Restored.{IsJudged}
use Rattle.flt_restore.specs.declared.fault.StartFault.{StartFault}
use Rattle.flt_restore.specs.declared.fault.StartFault.TheVariants.{Flash, Damaged, OtherConfig, SequenceSpent}
use Rattle.flt_store.specs.declared.store.Store.{Store}
use Rattle.flt_store.specs.Start.{IsForeign, RefusedFor}
use Rattle.flt_store.specs.Store.{IsAlive, IsServed, driver_of}
use Rattle.flt_store.proofs.Repairing.{sound_kept}

-- A fault of the pages stays, and a driver that was mounted has none.
module _ (c : Config) (before after : BlocksState) (no_damage : IsTrue after.has_mounted → after.damage ≡ None) (follows : Follows before after) where
  unserved : (sector page : ℕ) → before.damage ≡ Some (sector, page) → IsServed c after → ⊥
  unserved sector page is served =
      let stays = (follows.damage_stays (sector, page) is).0 in
      let none = no_damage served.mounted in
      absurd (cc (stays, none))

module _ {B : Type 0} {b : Ghosts B} (c : Config) (before after : Store B b) (no_damage : IsTrue (driver_of after).has_mounted → (driver_of after).damage ≡ None) (follows : Follows (driver_of before) (driver_of after)) where
  -- A running store's image is judged to hold a generation by either copy of its commit.
  unjudged : (fault : Fault) → IsJudged c (driver_of before) (driver_of after) (Err fault) → SameValues (driver_of before) (driver_of after) → IsAlive c after → ⊥
  unjudged fault judged same alive =
      let value = (driver_of before).value in
      let given = alive.running.served.valid_config in
      let sound = sound_kept c (driver_of after).value value alive.held alive.spare (λ number. sym (same number)) alive.running.sound in
      let by_held : held c value ≡ Ok alive.held = (held_stands c given value alive.held).1 sound.holds in
      let by_spare : spare c value ≡ Ok alive.spare = (spare_stands c given value alive.spare).1 sound.spares in
      ⊎_elim (λ is. absurd (cc (is, by_held))) (λ more. (let is = more.0 in absurd (cc (is, by_spare)))) judged

  pub closed_by : (fault : StartFault) → RefusedFor c before after fault → IsForeign fault → IsAlive c after → ⊥
  closed_by Flash refused foreign alive = foreign
  closed_by (Damaged (Page sector page)) refused foreign alive = unserved c (driver_of before) (driver_of after) no_damage follows sector page refused.0 alive.running.served
  closed_by (Damaged (Block id)) refused foreign alive = unjudged _ refused.0.is refused.1 alive
  closed_by (OtherConfig found wanted) refused foreign alive = unjudged _ refused.0.is refused.2 alive
  closed_by SequenceSpent refused foreign alive = foreign
